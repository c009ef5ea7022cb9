use Rattle.std.proofs.Common.{◌≡◌, length, Some, sym, ap, ◌∙◌, arith, subst}
use Rattle.std.proofs.lemmas.Option.{slice_get-get_or}
use Rattle.names.specs.Sources.{place_of}
use Rattle.type_table.specs.Seen.{types_of}
use Rattle.type_table.specs.Table.{walk, next, reference, target_of, IsWrittenType}
use Rattle.tagging.specs.proving.Columns.{here, through}
use Rattle.type_table.specs.proving.Tables.{as_long}
use Rattle.tagging.proofs.Tables.{is_here}
use Rattle.type_table.specs.proving.Walks.{one_more}
use Rattle.tagging.proofs.Paths.{never_long}
use Rattle.tagging.proofs.columns.front_by.Goals as goal

pub bounds-fronts-at : goal.bounds-fronts-at
bounds-fronts-at c = omega (arith, c.loop-step.invariant.inside, c.requires.long)

pub returns-then-known-types : goal.returns-then-known-types
returns-then-known-types c =
    let ts = types_of c.args.types.now in
    let e = slice_get-get_or c.args.fronts.now c.loop-step.at 0 (omega (arith, c.loop-step.invariant.inside, c.requires.long)) in
    let l = c.if-known-types.true in
    record { front = c.loop-step.invariant.onto _ (c.requires.known c.loop-step.at _ e (omega (arith, l, as_long c.args.types.now))); within = l }

pub returns-in-None : goal.returns-in-None
returns-in-None c =
    let w = c.index-types-at.result in
    record { front = c.loop-step.invariant.onto _ (here (is_here c.args.types.now c.loop-step.at w c.loop-step.invariant.inside c.index-types-at.is) c.in-None.ensures); within = c.loop-step.invariant.inside }

pub loop-step-preserved : goal.loop-step-preserved
loop-step-preserved c =
    let ts = types_of c.args.types.now in
    let w = c.index-types-at.result in
    let h : IsWrittenType ts c.loop-step.at (reference c.in-Some.j) w.default (place_of w.place) = subst (λ k. IsWrittenType ts c.loop-step.at k w.default (place_of w.place)) c.in-Some.ensures (is_here c.args.types.now c.loop-step.at w c.loop-step.invariant.inside c.index-types-at.is) in
    let n : next ts c.loop-step.at ≡ Some c.in-Some.j = ap target_of h.found in
    let i = c.requires.linked.closed c.loop-step.at c.in-Some.j n in
    record {
      inside = omega (arith, i, as_long c.args.types.now);
      chain = one_more (next ts) c.loop-step.step c.args.start c.loop-step.at c.in-Some.j c.loop-step.invariant.chain n;
      onto = λ f u. c.loop-step.invariant.onto f (through h u);
    }

pub returns : goal.returns
returns c =
    let ts = types_of c.args.types.now in
    let all : c.loop-step.step ≡ length ts = omega (arith, as_long c.args.types.now) in
    absurd (never_long ts c.args.start c.loop-step.at c.requires.linked (omega (arith, c.requires.there, as_long c.args.types.now)) (ap (λ k. walk ts k c.args.start) (sym all) ∙ c.loop-step.invariant.chain))
