use Rattle.std.proofs.Common.{arith, rules, ◌≡◌, ◌-◌, map, subst}
use Rattle.std.specs.Prelude.{◌↔◌, IsTrue, option_map}
use Rattle.asn_base.specs.Abstract.{placed, row_of_options}
use Rattle.asn_base.specs.Seen.{component_of}
use Rattle.asn_base.specs.Typed.{AreComponents, GroupsAreWhole, row_nodes}
use Rattle.asn_base.proofs.DepthLaws.{component_at, known_at}
use Rattle.asn_base.proofs.Judged.{element_more, element_wrong, elements_over, few_of, judged_all, judged_missing, judged_more, judged_nodes, judged_wrong, size_is}
use Rattle.asn_base.proofs.Leaves.{yes, no}
use Rattle.asn_base.proofs.Parts.{in_holder, in_leaf_only, in_leaf_yes, one_node, some_nodes, with_core}
use Rattle.asn_base.proofs.Ready.{value_known}
use Rattle.asn_base.proofs.decide.+within.Goals as goal

pub is_judged-returns-then-fits_at_once-clause-is : goal.is_judged-returns-then-fits_at_once-clause-is
is_judged-returns-then-fits_at_once-clause-is g t c = yes (in_leaf_yes c.args.known.levels (omega arith) (with_core c.args.known.types.now c.args.id.index c.get.result.now c.get.ensures.is c.deref-core.ensures) (c.fits_at_once.ensures c.if-fits_at_once.true))

pub is_judged-returns-then-fits_at_once-clause-nodes : goal.is_judged-returns-then-fits_at_once-clause-nodes
is_judged-returns-then-fits_at_once-clause-nodes g t c = λ yes'. let e = one_node (c.fits_at_once.ensures c.if-fits_at_once.true) in omega (arith, e)

pub is_any-returns-then-is_holder-clause-is : goal.is_any-returns-then-is_holder-clause-is
is_any-returns-then-is_holder-clause-is g t c = in_holder c.args.known.levels (omega arith) (with_core c.args.known.types.now c.args.id.index c.get.result.now c.get.ensures.is c.deref-core.ensures) (λ f. c.is_holder.ensures.holder c.if-is_holder.true _ f) c.holds.ensures.is

pub is_any-returns-then-is_holder-clause-nodes : goal.is_any-returns-then-is_holder-clause-nodes
is_any-returns-then-is_holder-clause-nodes g t c = λ yes'. let e = c.holds.ensures.nodes yes' in let m = some_nodes (g.N.ValueNode.value_of c.args.node.now) in omega (arith, e, m)

pub is_any-returns-else-is_holder-clause-is : goal.is_any-returns-else-is_holder-clause-is
is_any-returns-else-is_holder-clause-is g t c = in_leaf_only c.args.known.levels (omega arith) (with_core c.args.known.types.now c.args.id.index c.get.result.now c.get.ensures.is c.deref-core.ensures) (λ h. c.is_holder.ensures.leaf c.if-is_holder.false _ _ _ h) c.fits.ensures

pub is_any-returns-else-is_holder-clause-nodes : goal.is_any-returns-else-is_holder-clause-nodes
is_any-returns-else-is_holder-clause-nodes g t c = λ yes'. let e = one_node (c.fits.ensures.0 yes') in omega (arith, e)

pub are_fields-returns-then-listed-size-clause-is : goal.are_fields-returns-then-listed-size-clause-is
are_fields-returns-then-listed-size-clause-is g t c = no (λ p. c.if-listed-size.true (size_is c.args.listed.components.now c.args.size (λ i. g.N.ValueNode.part_at c.args.fields i) p.0))

pub are_fields-are_components-requires : goal.are_fields-are_components-requires
are_fields-are_components-requires g t c κs within =
    let few = few_of c.args.listed.id.index c.args.listed.components.now c.requires.ready c.requires.of in
    search rules

pub are_fields-returns-clause-is : goal.are_fields-returns-clause-is
are_fields-returns-clause-is g t c =
    let cs = map component_of c.args.listed.components.now in
    subst
    (λ k. IsTrue c.are_components.result ↔ (AreComponents c.args.known.types.now c.args.known.levels cs (row_of_options (placed k (λ i. g.N.ValueNode.part_at c.args.fields i))) × GroupsAreWhole cs (row_of_options (placed k (λ i. g.N.ValueNode.part_at c.args.fields i)))))
    c.if-listed-size.false c.are_components.ensures.is

pub are_fields-returns-clause-nodes : goal.are_fields-returns-clause-nodes
are_fields-returns-clause-nodes g t c = λ yes'.
    subst (λ k. c.are_components.new.left ≡ c.args.left.now - row_nodes (row_of_options (placed k (λ i. g.N.ValueNode.part_at c.args.fields i)))) c.if-listed-size.false (c.are_components.ensures.nodes yes')

pub are_components-is_component-requires : goal.are_components-is_component-requires
are_components-is_component-requires g t c κs within =
    let there = component_at component_of c.args.components.now c.loop-i.i c.index-components-i.result c.loop-i-test.true c.index-components-i.is in
    let k = known_at c.args.known.types.now c.args.known.levels c.args.id.index c.loop-i.i (map component_of c.args.components.now) (component_of c.index-components-i.result) c.args.known.depths.now c.requires.known c.requires.of there in
    let v = value_known c.args.id.index c.loop-i.i (map component_of c.args.components.now) (component_of c.index-components-i.result) c.requires.ready c.requires.of there in
    search rules

pub are_components-returns-then-not-is_component-clause-is : goal.are_components-returns-then-not-is_component-clause-is
are_components-returns-then-not-is_component-clause-is g t c =
    no (λ p. judged_wrong c.index-components-i.result c.loop-i.invariant c.loop-i-test.true c.index-components-i.is c.take_component-found.ensures.found (λ h. let e = c.is_component.ensures.is.1 h in let f = c.if-not-is_component.true in cc) p)

pub are_components-returns-then-not-is_kept-clause-is : goal.are_components-returns-then-not-is_kept-clause-is
are_components-returns-then-not-is_kept-clause-is g t c =
    no (λ p. judged_missing c.index-components-i.result c.loop-i.invariant c.loop-i-test.true c.index-components-i.is c.take_component-found.ensures.found (λ h. let e = c.is_kept.ensures.1 h in let f = c.if-not-is_kept.true in cc) p)

pub are_components-loop-i-preserved : goal.are_components-loop-i-preserved
are_components-loop-i-preserved g t c =
    judged_more _ _ _ _ _ (λ i. g.N.ValueNode.part_at c.take_component-found.new.fields i) _ _ _ c.is_component.new.left c.index-components-i.result (option_map g.N.ValueNode.value_of c.take_component-found.result) c.loop-i.invariant c.loop-i-test.true c.index-components-i.is c.take_component-found.ensures.found c.take_component-found.ensures.later
    (c.is_component.ensures.is.0 c.if-not-is_component.false) (c.is_kept.ensures.0 c.if-not-is_kept.false) (c.is_component.ensures.nodes c.if-not-is_component.false)

pub are_components-returns-clause-is : goal.are_components-returns-clause-is
are_components-returns-clause-is g t c = yes (judged_all c.loop-i.invariant c.loop-i-test.false)

pub are_components-returns-clause-nodes : goal.are_components-returns-clause-nodes
are_components-returns-clause-nodes g t c = λ yes'. judged_nodes c.loop-i.invariant c.loop-i-test.false

pub are_elements-returns-then-not-is_judged-clause-is : goal.are_elements-returns-then-not-is_judged-clause-is
are_elements-returns-then-not-is_judged-clause-is g t c =
    no (λ p. element_wrong (g.N.ValueNode.row_of c.next_element.new.elements) (g.N.ValueNode.value_of c.in-Some.node) c.in-Some.ensures (λ h. let e = c.is_judged.ensures.is.1 h in let f = c.if-not-is_judged.true in cc) c.loop-node.invariant p)

pub are_elements-loop-node-preserved : goal.are_elements-loop-node-preserved
are_elements-loop-node-preserved g t c =
    element_more c.is_judged.new.left (g.N.ValueNode.row_of c.next_element.new.elements) (g.N.ValueNode.value_of c.in-Some.node) c.in-Some.ensures (c.is_judged.ensures.is.0 c.if-not-is_judged.false) (c.is_judged.ensures.nodes c.if-not-is_judged.false) c.loop-node.invariant

pub are_elements-returns-clause-is : goal.are_elements-returns-clause-is
are_elements-returns-clause-is g t c = yes (elements_over c.in_default.ensures c.loop-node.invariant, c.has_allowed_count.ensures.0 c.if-not-has_allowed_count.false)
