use Rattle.std.proofs.Common.{◌≡◌, ◌↔◌, Some, sym, ap, ◌∙◌, subst}
use Rattle.names.specs.declared.scope.Assigned.{Assigned}
use Rattle.named_values.specs.Named.{IsQualifiedName}
use Rattle.named_values.proofs.Dots.{no_type, one_named}
use Rattle.named_values.proofs.naming.type_number.Goals as goal

pub returns-in-Some-Value-clause-named : goal.returns-in-Some-Value-clause-named
returns-in-Some-Value-clause-named c =
    no_type c.args.modules.now c.args.name.now c.named.result (subst (λ p. (a : Assigned) → (c.named.result ≡ Some a ↔ IsQualifiedName p c.args.name.now a)) c.linked.ensures c.named.ensures.is)
    (λ t e. (let f = sym (c.in-Some-Value.is ∙ ap Some c.in-Some-Value.field-0-is) ∙ e in cc))

pub returns-in-None-clause-named : goal.returns-in-None-clause-named
returns-in-None-clause-named c =
    no_type c.args.modules.now c.args.name.now c.named.result (subst (λ p. (a : Assigned) → (c.named.result ≡ Some a ↔ IsQualifiedName p c.args.name.now a)) c.linked.ensures c.named.ensures.is)
    (λ t e. (let f = sym c.in-None.is ∙ e in cc))

pub returns-in-Some-Type-clause-only : goal.returns-in-Some-Type-clause-only
returns-in-Some-Type-clause-only c =
    one_named c.args.modules.now c.args.name.now c.named.result c.in-Some-Type.index
    (subst (λ p. (a : Assigned) → (c.named.result ≡ Some a ↔ IsQualifiedName p c.args.name.now a)) c.linked.ensures c.named.ensures.is)
    (c.in-Some-Type.is ∙ ap Some c.in-Some-Type.field-0-is)
