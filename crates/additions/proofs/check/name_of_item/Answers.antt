use Rattle.trees.specs.declared.types.EnumeratedItem.{EnumeratedItem}
use Rattle.additions.proofs.Placing.{at_index}
use Rattle.additions.proofs.check.name_of_item.Goals as goal

pub returns : goal.returns
returns c = at_index (λ (i : EnumeratedItem). i.name.at) c.args.items.now c.args.number c.index-items-number.result c.requires c.index-items-number.is
