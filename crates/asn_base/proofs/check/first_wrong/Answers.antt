use Rattle.std.proofs.Common.{arith, Some, ◌≡◌, ◌∙◌, true≢false, below_more, subst, sym, ap, length}
use Rattle.std.specs.Prelude.{slice_get}
use Rattle.std.specs.List.{AllByRecursion}
use Rattle.asn_base.specs.declared.rule.SchemaRule.TheVariants.{Defaults}
use Rattle.asn_base.specs.Schemas.{HasValue, components}
use Rattle.asn_base.specs.Seen.{kind_of, resolved_of}
use Rattle.asn_base.proofs.DepthLaws.{type_at}
use Rattle.asn_base.proofs.Checks.{keeps_of, all_keep}
use Rattle.asn_base.proofs.check.first_wrong.Goals as goal
use Rattle.asn_base.specs.proving.Lists.{length_mapped}

pub returns-then-not-are_values : goal.returns-then-not-are_values
returns-then-not-are_values c =
    let there = subst (λ q. slice_get q c.loop-ty.ty ≡ Some (resolved_of c.index-list-ty.result)) c.types-list.ensures (type_at c.types-list.result.now c.loop-ty.ty c.index-list-ty.result c.loop-ty-test.true c.index-list-ty.is) in
    let same = c.components_of.ensures ∙ ap (λ r. components (kind_of r)) c.deref.ensures ∙ ap (λ r. components (kind_of r.core.value)) (sym c.index-list-ty.is) in
    record {
      broken = λ keep. true≢false (sym (c.are_values.ensures.1 (subst (AllByRecursion (HasValue c.args.types.now)) (sym same) (keep _ _ (record { found = there })))) ∙ c.if-not-are_values.true);
      first = c.loop-ty.invariant;
    }

pub loop-ty-preserved : goal.loop-ty-preserved
loop-ty-preserved c =
    let there = subst (λ q. slice_get q c.loop-ty.ty ≡ Some (resolved_of c.index-list-ty.result)) c.types-list.ensures (type_at c.types-list.result.now c.loop-ty.ty c.index-list-ty.result c.loop-ty-test.true c.index-list-ty.is) in
    let same = c.components_of.ensures ∙ ap (λ r. components (kind_of r)) c.deref.ensures ∙ ap (λ r. components (kind_of r.core.value)) (sym c.index-list-ty.is) in
    below_more _ _ c.loop-ty.invariant (keeps_of c.args.types.now Defaults c.loop-ty.ty (resolved_of c.index-list-ty.result) there (subst (AllByRecursion (HasValue c.args.types.now)) same (c.are_values.ensures.0 c.if-not-are_values.false)))

pub returns : goal.returns
returns c =
    let many = ap length c.types-list.ensures in
    let mapped = length_mapped resolved_of c.types-list.result.now in
    all_keep c.args.types.now Defaults c.loop-ty.ty (omega (arith, many, mapped, c.loop-ty-test.false)) c.loop-ty.invariant
