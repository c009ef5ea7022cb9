use Rattle.std.proofs.Common.{◌≡◌, ◌+◌, ◌-◌, ◌++◌, length, map, sym, ap, ◌∙◌, arith}
use Rattle.std.specs.Prelude.{slice_get}
use Rattle.std.proofs.lemmas.List.{length-map, map-append}
use Rattle.trees.specs.Types.{item_of}
use Rattle.names.specs.proving.Distinct.{left, right}
use Rattle.type_table.specs.Items.{WrittenItem}
use Rattle.type_table.specs.Seen.{root_items, more_of}
use Rattle.type_table.specs.FirstInList.{item_places, items_after}
use Rattle.trees.specs.declared.types.EnumeratedItem.{EnumeratedItem}
use Rattle.type_table.proofs.lists.item_name.Goals as goal

pub returns-then-number-count-clause-name : goal.returns-then-number-count-clause-name
returns-then-number-count-clause-name c =
    let root = root_items c.args.given.now in
    let more = more_of c.args.given.now in
    let k = c.args.number in
    let e = ap (λ l. slice_get (map (λ (i : WrittenItem). i.0) (map item_of l)) k) (sym c.deref.ensures.value) ∙ c.name_at_place.ensures.name in
    ap (λ l. slice_get l k) (map-append (λ (i : WrittenItem). i.0) root more) ∙ left (map (λ (i : WrittenItem). i.0) root) (map (λ (i : WrittenItem). i.0) more) k _ e

pub returns-else-number-count-clause-name : goal.returns-else-number-count-clause-name
returns-else-number-count-clause-name c =
    let root = root_items c.args.given.now in
    let more = more_of c.args.given.now in
    let names = map (λ (i : WrittenItem). i.0) root in
    let k = c.args.number - c.len-count.result in
    let e = ap (λ l. slice_get (map (λ (i : WrittenItem). i.0) l) k) (sym c.additions.ensures.items) ∙ c.name_at_place-else-number-count.ensures.name in
    let m : c.len-count.result ≡ length c.args.given.now.root.items = omega arith in
    let n : length names ≡ c.len-count.result = length-map root (λ (i : WrittenItem). i.0) ∙ length-map c.args.given.now.root.items item_of ∙ sym m in
    let z : c.args.number ≡ length names + k = omega (arith, n) in
    ap (λ l. slice_get l c.args.number) (map-append (λ (i : WrittenItem). i.0) root more) ∙ ap (λ j. slice_get (names ++ map (λ (i : WrittenItem). i.0) more) j) z ∙ right names (map (λ (i : WrittenItem). i.0) more) k ∙ e

pub returns-then-number-count-clause-place : goal.returns-then-number-count-clause-place
returns-then-number-count-clause-place c =
    let e = c.args.given.now in
    left (item_places e.root.items) (item_places (items_after e)) c.args.number _
    (ap (λ l. slice_get (item_places l) c.args.number) (sym c.deref.ensures.value) ∙ c.name_at_place.ensures.place)

pub returns-else-number-count-clause-place : goal.returns-else-number-count-clause-place
returns-else-number-count-clause-place c =
    let e = c.args.given.now in
    let roots = item_places e.root.items in
    let k = c.args.number - c.len-count.result in
    let m : c.len-count.result ≡ length e.root.items = omega arith in
    let n : length roots ≡ c.len-count.result = length-map e.root.items (λ (i : EnumeratedItem). i.name) ∙ sym m in
    let z : c.args.number ≡ length roots + k = omega (arith, n) in
    ap (λ j. slice_get (roots ++ item_places (items_after e)) j) z ∙ right roots (item_places (items_after e)) k
    ∙ ap (λ l. slice_get (item_places l) k) (sym c.additions.ensures.same) ∙ c.name_at_place-else-number-count.ensures.place
