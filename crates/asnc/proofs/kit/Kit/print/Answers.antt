use Rattle.std.proofs.Common.{◌≡◌, subst}
use Rattle.std.specs.Prelude.{IfOk, IsErrOf, string_bytes}
use Rattle.asn_base.specs.Typed.{IsValue}
use Rattle.value_text.specs.Print.{print}
use Rattle.value_text.specs.declared.print_fault.Fault.TheVariants.{NotOfType}
use Rattle.views.specs.Tree.{value_of}
use Rattle.asnc.specs.Kits.{Opened}
use Rattle.asnc.proofs.kit.Kit.print.Goals as goal

pub returns-clause-value : goal.returns-clause-value
returns-clause-value c =
    subst (λ (k : Opened). IfOk c.print_view.result (λ s. IsValue k.types c.args.id.index (value_of c.args.view.now)))
    c.self.view_is
    (subst (λ q. IfOk c.print_view.result (λ s. IsValue q c.args.id.index (value_of c.args.view.now)))
    c.self.invariant.1 c.print_view.ensures.value)

pub returns-clause-text : goal.returns-clause-text
returns-clause-text c =
    subst (λ (k : Opened). IfOk c.print_view.result (λ s. string_bytes s ≡ print k.types c.args.id.index (value_of c.args.view.now)))
    c.self.view_is
    (subst (λ q. IfOk c.print_view.result (λ s. string_bytes s ≡ print q c.args.id.index (value_of c.args.view.now)))
    c.self.invariant.1 c.print_view.ensures.text)

pub returns-clause-not_of_type : goal.returns-clause-not_of_type
returns-clause-not_of_type c =
    subst (λ (k : Opened). IsErrOf c.print_view.result NotOfType → IsValue k.types c.args.id.index (value_of c.args.view.now) → ⊥)
    c.self.view_is
    (subst (λ q. IsErrOf c.print_view.result NotOfType → IsValue q c.args.id.index (value_of c.args.view.now) → ⊥)
    c.self.invariant.1 c.print_view.ensures.not_of_type)
