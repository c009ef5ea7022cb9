use Rattle.std.proofs.Common.{sym, subst, Some, Vec}
use Rattle.std.specs.Prelude.{option_map}
use Rattle.std.specs.Global.{Global}
use Rattle.trees.specs.declared.types.EnumeratedItem.{EnumeratedItem}
use Rattle.additions.specs.proving.Checks.{IsItemAt}
use Rattle.additions.proofs.check.item_at.Goals as goal

pub returns : goal.returns
returns c =
    subst (λ o. IsItemAt (option_map (λ (is : Vec EnumeratedItem Global). is.items) o) c.args.number c.name_of_item.result) (sym c.in-Some.is)
    (subst (λ xs. IsItemAt (Some xs) c.args.number c.name_of_item.result) c.deref.ensures.value c.name_of_item.ensures)
