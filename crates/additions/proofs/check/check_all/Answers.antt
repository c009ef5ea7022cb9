use Rattle.std.proofs.Common.{arith, ap, length, refl, ℕ}
use Rattle.std.proofs.lemmas.Option.{slice_get_read}
use Rattle.additions.specs.Additions.{KeepsAt}
use Rattle.additions.specs.proving.Checks.{BreaksFirst, IsNamedAt}
use Rattle.std.proofs.lemmas.List.{length-map}
use Rattle.type_table.specs.Seen.{type_of}
use Rattle.additions.proofs.Placing.{none_of, some_of}
use Rattle.additions.proofs.Breaking.{keep_types, all_keep}
use Rattle.additions.proofs.check.check_all.Goals as goal

pub loop-ty-preserved : goal.loop-ty-preserved
loop-ty-preserved c = keep_types c.args.tagged.now.program.types c.loop-ty.ty c.loop-ty.invariant (none_of ((n : ℕ) → KeepsAt c.args.tagged.now.program.types c.loop-ty.ty n) (λ b. BreaksFirst c.args.tagged.now.program.types c.loop-ty.ty b.0 × IsNamedAt c.index-types-ty.result.shape b.0.place b.1) c.in-Ok-None.field-0 c.in-Ok-None.field-0-is c.in-Ok-None.ensures)

pub returns : goal.returns
returns c =
    let e = ap length c.requires.types in
    let f = length-map c.args.types.now type_of in
    all_keep c.args.tagged.now.program.types (λ i n l. c.loop-ty.invariant i n (omega (arith, l, e, f, c.loop-ty-test.false)))

pub returns-in-Ok-Some : goal.returns-in-Ok-Some
returns-in-Ok-Some c =
    let ts = c.args.tagged.now.program.types in
    let ws = c.args.types.now in
    let x = c.in-Ok-Some in
    let w = c.index-types-ty.result in
    let h = some_of ((n : ℕ) → KeepsAt ts c.loop-ty.ty n) (λ b. BreaksFirst ts c.loop-ty.ty b.0 × IsNamedAt w.shape b.0.place b.1) x.field-0 (x.broken, x.at) x.field-0-is x.ensures in
    record {
      first = record {
        number = x.broken.place;
        breaks = h.0.breaks;
        places_before = h.0.before;
        types_before = λ j n l. c.loop-ty.invariant j n l;
      };
      written = w;
      there = slice_get_read ws (length ws) c.loop-ty.ty w refl c.loop-ty-test.true c.index-types-ty.is;
      named = h.1;
    }
