use Rattle.std.proofs.Common.{arith, ◌<◌, length}
use Rattle.std.proofs.lemmas.List.{length-map}
use Rattle.asn_base.specs.Seen.{component_of}
use Rattle.later_versions.specs.Differences.{is_other, is_removed}
use Rattle.later_versions.specs.Later.{IsSameComponent}
use Rattle.later_versions.proofs.Fronts.{front_all, front_next, mapped_at}
use Rattle.later_versions.proofs.components.first_other.Goals as goal

pub returns-then-i-others : goal.returns-then-i-others
returns-then-i-others c =
    let a = length-map c.args.components.now component_of in
    let b = length-map c.args.others.now component_of in
    let l = c.loop-i-test.true in
    let m = c.if-i-others.true in
    let n = c.loop-i.invariant.0 in
    is_removed c.loop-i.invariant.1 (omega (arith, a, l)) (omega (arith, b, m, n))

pub returns-in-Ok-Some : goal.returns-in-Ok-Some
returns-in-Ok-Some c =
    is_other c.loop-i.i (component_of c.index-components-i.result) (component_of c.index-others-i.result) c.loop-i.invariant.1
    (mapped_at component_of c.args.components.now c.loop-i.i c.index-components-i.result c.loop-i-test.true c.index-components-i.is)
    (mapped_at component_of c.args.others.now c.loop-i.i c.index-others-i.result c.if-i-others.false c.index-others-i.is)
    (rw c.in-Ok-Some.field-0-is at c.in-Ok-Some.ensures)

pub loop-i-preserved : goal.loop-i-preserved
loop-i-preserved c =
    let m : c.loop-i.i < length c.args.others.now = c.if-i-others.false in (
      omega (arith, m),
      front_next component_of (IsSameComponent c.args.schema.now) c.args.components.now c.args.others.now c.loop-i.i c.index-components-i.result c.index-others-i.result c.loop-i-test.true m c.index-components-i.is c.index-others-i.is
          (rw c.in-Ok-None.field-0-is at c.in-Ok-None.ensures) c.loop-i.invariant.1,
    )

pub returns : goal.returns
returns c =
    front_all component_of (IsSameComponent c.args.schema.now) c.args.components.now c.args.others.now c.loop-i.i c.loop-i-test.false (omega arith) c.loop-i.invariant.1
