use Rattle.std.proofs.Common.{arith, map, sym, ◌∙◌}
use Rattle.asn_base.specs.Seen.{component_of}
use Rattle.later_versions.proofs.Fronts.{mapped_at}
use Rattle.later_versions.proofs.Marks.{add_next}
use Rattle.later_versions.proofs.components.first_of_root.Goals as goal

pub returns-then-not-is_addition : goal.returns-then-not-is_addition
returns-then-not-is_addition c = (
  (let a = c.loop-i.auto.i in omega (arith, a)),
  c.loop-i.invariant,
  component_of c.index-components-i.result,
  mapped_at component_of c.args.components.now c.loop-i.i c.index-components-i.result c.loop-i-test.true c.index-components-i.is,
  sym c.is_addition.ensures ∙ c.if-not-is_addition.true,
)

pub loop-i-preserved : goal.loop-i-preserved
loop-i-preserved c =
    add_next (map component_of c.args.components.now) c.args.from c.loop-i.i (component_of c.index-components-i.result)
    (mapped_at component_of c.args.components.now c.loop-i.i c.index-components-i.result c.loop-i-test.true c.index-components-i.is)
    (sym c.is_addition.ensures ∙ c.if-not-is_addition.false) c.loop-i.invariant

pub returns : goal.returns
returns c = λ j d m w e. c.loop-i.invariant j d m (let l = c.loop-i-test.false in omega (arith, l, w)) e
