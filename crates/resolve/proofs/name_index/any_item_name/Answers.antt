use Rattle.std.proofs.Common.{◌≡◌, ◌-◌, map, length, sym, ap, ◌∙◌, arith}
use Rattle.std.specs.Prelude.{slice_get}
use Rattle.trees.specs.Types.{item_of}
use Rattle.names.specs.Names.{names_of}
use Rattle.type_table.specs.Seen.{more_of, root_items}
use Rattle.resolve.proofs.ListedNames.{as_many, behind, front, names_joined}
use Rattle.resolve.proofs.name_index.any_item_name.Goals as goal

pub returns-then-place-root : goal.returns-then-place-root
returns-then-place-root c =
    let root = root_items c.args.given.now in
    let more = more_of c.args.given.now in
    let i = c.args.place in
    let same : map item_of c.as_slice-root.result.now ≡ root = ap (map item_of) c.as_slice-root.ensures.value in
    let long : length (names_of root) ≡ length c.as_slice-root.result.now =
    ap (λ l. length (names_of l)) (sym same) ∙ as_many item_of (λ e. e.0) c.as_slice-root.result.now in
    c.item_name.ensures ∙ ap (λ l. slice_get (names_of l) i) same
    ∙ sym (front (names_of root) (names_of more) i (omega (arith, long, c.if-place-root.true)))
    ∙ ap (λ l. slice_get l i) (sym (names_joined root more))

pub returns-else-place-root : goal.returns-else-place-root
returns-else-place-root c =
    let root = root_items c.args.given.now in
    let more = more_of c.args.given.now in
    let i = c.args.place in
    let same : map item_of c.as_slice-root.result.now ≡ root = ap (map item_of) c.as_slice-root.ensures.value in
    let long : length (names_of root) ≡ length c.as_slice-root.result.now =
    ap (λ l. length (names_of l)) (sym same) ∙ as_many item_of (λ e. e.0) c.as_slice-root.result.now in
    let back : i - length c.as_slice-root.result.now ≡ i - length (names_of root) = omega (arith, long) in
    c.item_name-else-place-root.ensures
    ∙ ap (λ l. slice_get (names_of l) (i - length c.as_slice-root.result.now)) c.items_after.ensures
    ∙ ap (slice_get (names_of more)) back
    ∙ sym (behind (names_of root) (names_of more) i (omega (arith, long, c.if-place-root.false)))
    ∙ ap (λ l. slice_get l i) (sym (names_joined root more))
