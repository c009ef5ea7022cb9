use Rattle.std.proofs.Common.{sym, subst, ◌∙◌, true≢false}
use Rattle.std.specs.Prelude.{◌↔◌, IsTrue}
use Rattle.asn_base.specs.Seen.{component_of}
use Rattle.std.specs.List.{AllByRecursion}
use Rattle.asn_base.specs.Typed.{IsOfGroup}
use Rattle.asn_base.specs.proving.Listing.{AreTogether}
use Rattle.asn_base.proofs.Listings.{together_else, headed}
use Rattle.asn_base.proofs.members.goes_on_or_ends.Goals as goal

pub returns-else-is_of_group : goal.returns-else-is_of_group
returns-else-is_of_group c =
    let x = component_of c.args.component.now in
    let e = sym c.group.ensures ∙ c.in-Some.is in
    let none : IsOfGroup c.in-Some.number (component_of c.in-Some-first.next.now) → ⊥ = λ i. true≢false (sym (c.is_of_group.ensures.1 i) ∙ c.if-is_of_group.false) in
    let there = headed component_of c.args.later.now c.in-Some-first.next.now (sym c.in-Some-first.ensures.value) in
    subst (λ q. IsTrue c.are_of_others.result ↔ AreTogether x q) (sym there)
    (together_else x (component_of c.in-Some-first.next.now) _ c.in-Some.number e none (subst (λ q. IsTrue c.are_of_others.result ↔ AllByRecursion (λ d. IsOfGroup c.in-Some.number d → ⊥) q) there c.are_of_others.ensures))
