use Rattle.std.proofs.Common.{arith, ap, length, refl, sym, ◌∙◌}
use Rattle.std.proofs.lemmas.Option.{slice_get_read}
use Rattle.std.specs.Prelude.{slice_get}
use Rattle.std.proofs.lemmas.List.{length-map}
use Rattle.names.specs.proving.Distinct.{item_at}
use Rattle.type_table.specs.Seen.{type_of}
use Rattle.extensions.specs.Faults.{IsFirstDefault}
use Rattle.extensions.specs.proving.Tables.{AreDefaultsAt, IsFirstAt, defaults_seen, table_seen}
use Rattle.extensions.proofs.Each.{one_more, tabled_typed, reports_more}
use Rattle.extensions.proofs.defaults.all_defaults.Goals as goal

pub defaults_at-requires-clause-there : goal.defaults_at-requires-clause-there
defaults_at-requires-clause-there c =
    let many = ap length c.requires.types in
    let same = length-map c.args.types.now type_of in
    omega (arith, many, same, c.loop-ty-test.true)

pub defaults_at-requires-clause-is : goal.defaults_at-requires-clause-is
defaults_at-requires-clause-is c =
    sym (ap (λ l. slice_get l c.loop-ty.ty) c.requires.types)
    ∙ item_at type_of c.args.types.now c.loop-ty.ty c.index-types-ty.result c.loop-ty-test.true c.index-types-ty.is

pub defaults_at-requires-clause-text : goal.defaults_at-requires-clause-text
defaults_at-requires-clause-text c =
    ap (λ l. slice_get l c.loop-ty.ty) (sym c.requires.text)
    ∙ slice_get_read c.args.types.now _ c.loop-ty.ty c.index-types-ty.result refl c.loop-ty-test.true c.index-types-ty.is

pub returns-in-Err-defaults_at-clause-fault : goal.returns-in-Err-defaults_at-clause-fault
returns-in-Err-defaults_at-clause-fault c =
    let p = c.args.bounded.now.program in
    let t = c.args.bounded.now in
    reports_more (IsFirstAt t c.loop-ty.ty) (IsFirstDefault t) c.in-Err-defaults_at.wrong
    (λ f w. record {
      number = c.loop-ty.ty;
      within = w.within;
      parts = w.parts;
      list = w.list;
      text = w.text;
      first = w.first;
      before = λ j l. tabled_typed p c.loop-ty.ty j (table_seen c.loop-ty.table.items) c.loop-ty.invariant.0 l;
    })
    c.in-Err-defaults_at.ensures.fault

pub loop-ty-preserved : goal.loop-ty-preserved
loop-ty-preserved c = (
  one_more (AreDefaultsAt c.args.bounded.now.program) c.loop-ty.ty (table_seen c.loop-ty.table.items) (table_seen c.put.new.table.items)
      (defaults_seen c.in-Ok-defaults_at.values.items) c.loop-ty.invariant.0 c.in-Ok-put.ensures c.in-Ok-defaults_at.ensures.values,
  c.defaults_at.ensures.known,
)
