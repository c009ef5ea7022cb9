use Rattle.trees.specs.Types.{item_of}
use Rattle.trees.specs.declared.types.EnumeratedItem.{EnumeratedItem}
use Rattle.names.specs.proving.Distinct.{item_at}
use Rattle.type_table.specs.Items.{WrittenItem}
use Rattle.type_table.proofs.Fronts.{seen_at}
use Rattle.type_table.proofs.lists.name_at_place.Goals as goal

pub returns : goal.returns
returns c = record {
  name = seen_at (λ (i : WrittenItem). i.0) item_of c.args.items.now c.args.number c.index-items-number.result c.requires c.index-items-number.is;
  place = item_at (λ (i : EnumeratedItem). i.name) c.args.items.now c.args.number c.index-items-number.result c.requires c.index-items-number.is;
}
