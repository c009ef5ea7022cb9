use Rattle.std.proofs.Common.{ap, sym, ◌∙◌, arith, Some}
use Rattle.trees.specs.Values.{name_at}
use Rattle.trees.specs.Types.{item_of}
use Rattle.trees.specs.declared.types.EnumeratedItem.{EnumeratedItem}
use Rattle.resolve.proofs.ListedNames.{name_here, no_name}
use Rattle.resolve.proofs.name_index.item_name.Goals as goal

pub returns-then-place-items : goal.returns-then-place-items
returns-then-place-items c =
    let r = c.index-items-place.result in
    ap Some c.as_str.ensures.value ∙ ap (λ (z : EnumeratedItem). Some (name_at z.name)) (sym c.index-items-place.is)
    ∙ sym (name_here item_of (λ e. e.0) c.args.items.now c.args.place r (omega (arith, c.if-place-items.true)) c.index-items-place.is)

pub returns-else-place-items : goal.returns-else-place-items
returns-else-place-items c =
    sym (no_name item_of (λ e. e.0) c.args.items.now c.args.place (omega (arith, c.if-place-items.false)))
