use Rattle.std.proofs.Common.{rules, arith, ◌<◌, ◌≤◌, length, map, sym, ap, subst, ◌∙◌}
use Rattle.std.specs.Prelude.{◌↔◌, IsTrue, option_map}
use Rattle.asn_base.specs.declared.value.Value.{Value}
use Rattle.asn_base.specs.Abstract.{abstract}
use Rattle.asn_base.specs.Seen.{component_of, presence_of}
use Rattle.asn_base.specs.Typed.{ValueIn}
use Rattle.asn_base.proofs.Leaves.{yes, no}
use Rattle.asn_base.proofs.Parts.{absent_at, all_components, all_elements, as_many, by_default, in_holder, may_addition, may_optional, next_component, no_first, opened, opened_elements, with_core}
use Rattle.asn_base.proofs.Shallow.{default_known, element_known, first_known, holder_known, leaf_known}
use Rattle.asn_base.proofs.few_levels.+few.Goals as goal
use Rattle.asn_base.specs.proving.Lists.{length_mapped, drop_is, drop_end}

pub has_levels-returns-then-not-is_holder : goal.has_levels-returns-then-not-is_holder
has_levels-returns-then-not-is_holder t c =
    yes (leaf_known c.args.levels (omega arith) (with_core c.args.types.now c.args.id.index c.get.result.now c.get.ensures.is c.deref-core.ensures) (λ m h. c.is_holder.ensures.leaf c.if-not-is_holder.true c.args.types.now m _ h) c.requires)

pub has_levels-hold_levels-requires : goal.has_levels-hold_levels-requires
has_levels-hold_levels-requires t c =
    (search rules, holder_known (with_core c.args.types.now c.args.id.index c.get.result.now c.get.ensures.is c.deref-core.ensures) (λ h. c.is_holder.ensures.holder c.if-not-is_holder.false _ h) c.requires)

pub has_levels-returns : goal.has_levels-returns
has_levels-returns t c =
    in_holder c.args.levels (omega arith) (with_core c.args.types.now c.args.id.index c.get.result.now c.get.ensures.is c.deref-core.ensures) (λ h. c.is_holder.ensures.holder c.if-not-is_holder.false _ h) c.hold_levels.ensures

pub component_has_levels-returns-in-Default : goal.component_has_levels-returns-in-Default
component_has_levels-returns-in-Default t c =
    absent_at c.args.types.now c.args.levels (component_of c.args.component.now) (ap (option_map abstract) c.in-None.is) (by_default (ap presence_of c.in-Default.is) (subst (λ (v : Value). IsTrue c.has_levels-in-Default.result ↔ ValueIn c.args.types.now c.args.levels c.args.component.now.ty.index (abstract v)) c.deref.ensures c.has_levels-in-Default.ensures))

pub component_has_levels-has_levels-requires-in-Default : goal.component_has_levels-has_levels-requires-in-Default
component_has_levels-has_levels-requires-in-Default t c =
    let k = default_known (component_of c.args.component.now) (ap (option_map abstract) c.in-None.is) (ap presence_of c.in-Default.is) c.requires in
    (search rules, (k.0, subst (λ (v : Value). ValueIn c.args.types.now k.0 c.args.component.now.ty.index (abstract v)) (sym c.deref.ensures) k.1))

pub component_has_levels-returns-in-Optional : goal.component_has_levels-returns-in-Optional
component_has_levels-returns-in-Optional t c = absent_at c.args.types.now c.args.levels (component_of c.args.component.now) (ap (option_map abstract) c.in-None.is) (yes (may_optional (ap presence_of c.in-Optional.is)))

pub component_has_levels-returns-in-Addition : goal.component_has_levels-returns-in-Addition
component_has_levels-returns-in-Addition t c = absent_at c.args.types.now c.args.levels (component_of c.args.component.now) (ap (option_map abstract) c.in-None.is) (yes (may_addition (ap presence_of c.in-Addition.is)))

pub elements_have_levels-has_levels-requires : goal.elements_have_levels-has_levels-requires
elements_have_levels-has_levels-requires t c =
    let at = drop_is abstract c.args.values.now c.loop-i.i c.index-values-i.result c.loop-i-test.true c.index-values-i.is in
    let k = element_known (map abstract c.args.values.now) c.loop-i.i at c.loop-i.invariant.1 in
    (search rules, (k.0, k.1.0))

pub elements_have_levels-returns-then-not-has_levels : goal.elements_have_levels-returns-then-not-has_levels
elements_have_levels-returns-then-not-has_levels t c =
    let a = opened_elements c.args.types.now c.args.levels c.args.element.index _ c.loop-i.i (drop_is abstract c.args.values.now c.loop-i.i c.index-values-i.result c.loop-i-test.true c.index-values-i.is) c.loop-i.invariant.0 in
    no (λ p. no_first a (λ h. let e = c.has_levels.ensures.1 h in cc) p)

pub elements_have_levels-loop-i-preserved : goal.elements_have_levels-loop-i-preserved
elements_have_levels-loop-i-preserved t c =
    let at = drop_is abstract c.args.values.now c.loop-i.i c.index-values-i.result c.loop-i-test.true c.index-values-i.is in
    let a = opened_elements c.args.types.now c.args.levels c.args.element.index _ c.loop-i.i at c.loop-i.invariant.0 in
    let k = element_known (map abstract c.args.values.now) c.loop-i.i at c.loop-i.invariant.1 in
    (next_component a (c.has_levels.ensures.0 c.if-not-has_levels.false), (k.0, k.1.1))

pub elements_have_levels-returns : goal.elements_have_levels-returns
elements_have_levels-returns t c =
    yes (all_elements c.args.types.now c.args.levels c.args.element.index _ c.loop-i.i (drop_end abstract c.args.values.now c.loop-i.i c.loop-i-test.false) c.loop-i.invariant.0)

pub have_levels-returns-then-components-values : goal.have_levels-returns-then-components-values
have_levels-returns-then-components-values t c =
    no (λ p. c.if-components-values.true (sym (length_mapped component_of c.args.components.now) ∙ as_many (map component_of c.args.components.now) (map (option_map abstract) c.args.values.now) p ∙ length_mapped (option_map abstract) c.args.values.now))

pub have_levels-component_has_levels-requires : goal.have_levels-component_has_levels-requires
have_levels-component_has_levels-requires t c =
    let lt : c.loop-i.i < length c.args.values.now = let e = c.if-components-values.false in omega arith in
    let first = drop_is component_of c.args.components.now c.loop-i.i c.index-components-i.result c.loop-i-test.true c.index-components-i.is in
    let second = drop_is (option_map abstract) c.args.values.now c.loop-i.i c.index-values-i.result lt c.index-values-i.is in
    let k = first_known (map component_of c.args.components.now) (map (option_map abstract) c.args.values.now) c.loop-i.i first second c.loop-i.invariant.1 in
    (search rules, (k.0, k.1.0))

pub have_levels-returns-then-not-component_has_levels : goal.have_levels-returns-then-not-component_has_levels
have_levels-returns-then-not-component_has_levels t c =
    let lt : c.loop-i.i < length c.args.values.now = let e = c.if-components-values.false in omega arith in
    let a = opened c.args.types.now c.args.levels _ _ c.loop-i.i (drop_is component_of c.args.components.now c.loop-i.i c.index-components-i.result c.loop-i-test.true c.index-components-i.is) (drop_is (option_map abstract) c.args.values.now c.loop-i.i c.index-values-i.result lt c.index-values-i.is) c.loop-i.invariant.0 in
    no (λ p. no_first a (λ h. let e = c.component_has_levels.ensures.1 h in cc) p)

pub have_levels-loop-i-preserved : goal.have_levels-loop-i-preserved
have_levels-loop-i-preserved t c =
    let lt : c.loop-i.i < length c.args.values.now = let e = c.if-components-values.false in omega arith in
    let first = drop_is component_of c.args.components.now c.loop-i.i c.index-components-i.result c.loop-i-test.true c.index-components-i.is in
    let second = drop_is (option_map abstract) c.args.values.now c.loop-i.i c.index-values-i.result lt c.index-values-i.is in
    let a = opened c.args.types.now c.args.levels _ _ c.loop-i.i first second c.loop-i.invariant.0 in
    let k = first_known (map component_of c.args.components.now) (map (option_map abstract) c.args.values.now) c.loop-i.i first second c.loop-i.invariant.1 in
    (next_component a (c.component_has_levels.ensures.0 c.if-not-component_has_levels.false), (k.0, k.1.1))

pub have_levels-returns : goal.have_levels-returns
have_levels-returns t c =
    let le : length c.args.values.now ≤ c.loop-i.i = let e = c.if-components-values.false in omega arith in
    yes (all_components c.args.types.now c.args.levels _ _ c.loop-i.i (drop_end component_of c.args.components.now c.loop-i.i c.loop-i-test.false) (drop_end (option_map abstract) c.args.values.now c.loop-i.i le) c.loop-i.invariant.0)
