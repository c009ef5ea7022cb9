use Rattle.std.proofs.Common.{◌≡◌, ◌<◌, length, Some, None, sym, ap, ◌∙◌, arith}
use Rattle.std.proofs.lemmas.Option.{slice_get-get_or}
use Rattle.type_table.specs.Seen.{types_of}
use Rattle.type_table.specs.Table.{walk, next}
use Rattle.type_table.proofs.Knowing.{core_before, core_ended}
use Rattle.type_table.specs.proving.Tables.{next_at, as_long}
use Rattle.type_table.specs.proving.Walks.{one_more, comes_back}
use Rattle.type_table.proofs.unfolding.core_by.Goals as goal

pub returns-then-known-types-clause-core : goal.returns-then-known-types-clause-core
returns-then-known-types-clause-core c =
    let ts = types_of c.args.types.now in
    let here : c.loop-step.at < length c.args.cores.now = omega (arith, c.loop-step.invariant.inside, c.requires.long) in
    let e = slice_get-get_or c.args.cores.now c.loop-step.at 0 here in
    let l = c.if-known-types.true in
    let u = c.requires.known c.loop-step.at _ e (omega (arith, l, as_long c.args.types.now)) in
    (l, core_before ts c.loop-step.step c.args.start c.loop-step.at _ c.requires.closed (omega (arith, c.requires.there, as_long c.args.types.now)) c.loop-step.invariant.chain u)

pub returns-in-None-clause-core : goal.returns-in-None-clause-core
returns-in-None-clause-core c =
    let ts = types_of c.args.types.now in
    let n : next ts c.loop-step.at ≡ None = next_at c.args.types.now c.loop-step.at c.index-types-at.result c.loop-step.invariant.inside c.index-types-at.is ∙ sym c.in-None.ensures in
    (c.loop-step.invariant.inside, core_ended ts c.loop-step.step c.args.start c.loop-step.at c.requires.closed (omega (arith, c.requires.there, as_long c.args.types.now)) c.loop-step.invariant.chain n)

pub loop-step-preserved : goal.loop-step-preserved
loop-step-preserved c =
    let ts = types_of c.args.types.now in
    let n : next ts c.loop-step.at ≡ Some c.in-Some.j = next_at c.args.types.now c.loop-step.at c.index-types-at.result c.loop-step.invariant.inside c.index-types-at.is ∙ sym c.in-Some.ensures in
    let i = c.requires.closed c.loop-step.at c.in-Some.j n in
    record {
      inside = omega (arith, i, as_long c.args.types.now);
      chain = one_more (next ts) c.loop-step.step c.args.start c.loop-step.at c.in-Some.j c.loop-step.invariant.chain n;
    }

pub returns-clause-core : goal.returns-clause-core
returns-clause-core c =
    let ts = types_of c.args.types.now in
    let all : c.loop-step.step ≡ length ts = omega (arith, as_long c.args.types.now) in
    (c.loop-step.invariant.inside, comes_back (next ts) (length ts) c.args.start c.loop-step.at c.requires.closed (omega (arith, as_long c.args.types.now)) (ap (λ k. walk ts k c.args.start) (sym all) ∙ c.loop-step.invariant.chain))

pub returns-clause-far : goal.returns-clause-far
returns-clause-far c =
    let ts = types_of c.args.types.now in
    let all : c.loop-step.step ≡ length ts = omega (arith, as_long c.args.types.now) in
    ap (λ k. walk ts k c.args.start) (sym all) ∙ c.loop-step.invariant.chain
