use Rattle.std.proofs.Common.{◌≡◌, ◌++◌, List, [], length, map, sym, subst, ap, ◌∙◌, inl, inr}
use Rattle.std.proofs.lemmas.List.{map-append}
use Rattle.trees.specs.Types.{an_enumerated, item_of}
use Rattle.trees.specs.Values.{Name}
use Rattle.names.specs.Modules.{AreDifferent, OccursTwice}
use Rattle.names.specs.proving.Distinct.{twice_left}
use Rattle.type_table.specs.Items.{WrittenItem}
use Rattle.type_table.specs.Seen.{root_items, more_of, after_marker}
use Rattle.type_table.specs.Table.{simple}
use Rattle.type_table.specs.proving.Checks.{texts}
use Rattle.type_table.proofs.ListFaults.{kind_repeated}
use Rattle.std.proofs.lemmas.List.{length-map}
use Rattle.trees.specs.declared.types.EnumeratedItem.{EnumeratedItem}
use Rattle.type_table.specs.FirstInList.{HasFewItems, all_names, all_places, item_places, items_after}
use Rattle.type_table.proofs.FirstFaults.{second_such, second_wide}
use Rattle.type_table.proofs.lists.enumerated.Goals as goal

abbrev names_of : List WrittenItem → List Name
names_of = map (λ i. i.0)

-- the names of the root, and then those of the additions
root_names : (none : List Name) (root : List WrittenItem) → none ≡ [] → none ++ names_of root ≡ names_of root
root_names none root e = ap (λ l. l ++ names_of root) e

all_names' : (none first : List Name) (root more : List WrittenItem) → none ≡ [] → first ≡ none ++ names_of root → first ++ names_of more ≡ names_of (root ++ more)
all_names' none first root more e g = ap (λ l. l ++ names_of more) (g ∙ root_names none root e) ∙ sym (map-append (λ (i : WrittenItem). i.0) root more)

pub returns-in-Err-item_names-clause-fault : goal.returns-in-Err-item_names-clause-fault
returns-in-Err-item_names-clause-fault c =
    let root = root_items c.args.given.now in
    let more = more_of c.args.given.now in
    let none = texts c.with_hasher-names.result.keys in
    let same = ap (λ l. none ++ names_of (map item_of l)) c.deref.ensures.value ∙ root_names none root (ap texts c.with_hasher-names.ensures.empty) in
    kind_repeated c.args.within.now c.args.assigns.now (simple (an_enumerated root (after_marker c.args.given.now))) _ c.in-Err-item_names.fault
    (λ y t. inl (subst (λ l. OccursTwice l y) (sym (map-append (λ (i : WrittenItem). i.0) root more)) (twice_left (names_of root) (names_of more) y (subst (λ l. OccursTwice l y) same t)))) c.in-Err-item_names.ensures.fault

pub returns-in-Err-item_names-2-clause-fault : goal.returns-in-Err-item_names-2-clause-fault
returns-in-Err-item_names-2-clause-fault c =
    let root = root_items c.args.given.now in
    let more = more_of c.args.given.now in
    let none = texts c.with_hasher-names.result.keys in
    let first = texts c.item_names.new.names.keys in
    let g = c.in-Ok-item_names.ensures.added ∙ ap (λ l. none ++ names_of (map item_of l)) c.deref.ensures.value in
    let same = ap (λ l. first ++ names_of l) c.additions.ensures.items ∙ all_names' none first root more (ap texts c.with_hasher-names.ensures.empty) g in
    kind_repeated c.args.within.now c.args.assigns.now (simple (an_enumerated root (after_marker c.args.given.now))) _ c.in-Err-item_names-2.fault
    (λ y t. inl (subst (λ l. OccursTwice l y) same t)) c.in-Err-item_names-2.ensures.fault

pub returns-in-Ok-item_numbers_once-clause-good : goal.returns-in-Ok-item_numbers_once-clause-good
returns-in-Ok-item_numbers_once-clause-good c =
    let root = root_items c.args.given.now in
    let more = more_of c.args.given.now in
    let none = texts c.with_hasher-names.result.keys in
    let first = texts c.item_names.new.names.keys in
    let g = c.in-Ok-item_names.ensures.added ∙ ap (λ l. none ++ names_of (map item_of l)) c.deref.ensures.value in
    let same = c.in-Ok-item_names-2.ensures.added ∙ ap (λ l. first ++ names_of l) c.additions.ensures.items ∙ all_names' none first root more (ap texts c.with_hasher-names.ensures.empty) g in
    record {
      names = subst AreDifferent same c.in-Ok-item_names-2.ensures.distinct;
      numbers = c.in-Ok-item_numbers_once.ensures.distinct;
      within = c.in-Ok-item_numbers_once.ensures.limit;
      root_few = c.in-Ok.ensures.root;
      more_few = c.in-Ok.ensures.more;
    }

pub returns-in-Err-item_names-clause-first : goal.returns-in-Err-item_names-clause-first
returns-in-Err-item_names-clause-first c =
    let e = c.args.given.now in
    let root = root_items e in
    let more = more_of e in
    let none = texts c.with_hasher-names.result.keys in
    let empty = ap texts c.with_hasher-names.ensures.empty in
    let same = ap (λ l. none ++ names_of (map item_of l)) c.deref.ensures.value ∙ root_names none root empty in
    let places = ap item_places c.deref.ensures.value in
    let t = c.in-Err-item_names.ensures.first [] (sym (ap length empty)) in
    inr (inl (second_wide c.args.within.now ([] ++ item_places c.deref.result.now) (item_places (items_after e)) (all_places e) (none ++ names_of (map item_of c.deref.result.now)) (names_of more) (all_names e) (λ i. Unit {0}) (λ i. HasFewItems e) c.in-Err-item_names.fault
    (ap (λ l. l ++ item_places (items_after e)) places) (ap (λ l. l ++ names_of more) same ∙ sym (map-append (λ (i : WrittenItem). i.0) root more)) (λ i u. (c.in-Ok.ensures.root, c.in-Ok.ensures.more)) t))

pub returns-in-Err-item_names-2-clause-first : goal.returns-in-Err-item_names-2-clause-first
returns-in-Err-item_names-2-clause-first c =
    let e = c.args.given.now in
    let root = root_items e in
    let more = more_of e in
    let none = texts c.with_hasher-names.result.keys in
    let first = texts c.item_names.new.names.keys in
    let empty = ap texts c.with_hasher-names.ensures.empty in
    let g = c.in-Ok-item_names.ensures.added ∙ ap (λ l. none ++ names_of (map item_of l)) c.deref.ensures.value in
    let same = ap (λ l. first ++ names_of l) c.additions.ensures.items ∙ all_names' none first root more empty g in
    let long = length-map e.root.items (λ (i : EnumeratedItem). i.name) ∙ sym (ap length (g ∙ root_names none root empty) ∙ length-map root (λ (i : WrittenItem). i.0) ∙ length-map e.root.items item_of) in
    let places = ap (λ l. item_places e.root.items ++ item_places l) c.additions.ensures.same in
    let t = c.in-Err-item_names-2.ensures.first (item_places e.root.items) long in
    inr (inl (second_such c.args.within.now (item_places e.root.items ++ item_places c.additions.result.now) (all_places e) (first ++ names_of (map item_of c.additions.result.now)) (all_names e) (λ i. Unit {0}) (λ i. HasFewItems e) c.in-Err-item_names-2.fault
    places same (λ i u. (c.in-Ok.ensures.root, c.in-Ok.ensures.more)) t))

pub returns-clause-first : goal.returns-clause-first
returns-clause-first c =
    let root = root_items c.args.given.now in
    let more = more_of c.args.given.now in
    let none = texts c.with_hasher-names.result.keys in
    let first = texts c.item_names.new.names.keys in
    let g = c.in-Ok-item_names.ensures.added ∙ ap (λ l. none ++ names_of (map item_of l)) c.deref.ensures.value in
    let same = c.in-Ok-item_names-2.ensures.added ∙ ap (λ l. first ++ names_of l) c.additions.ensures.items ∙ all_names' none first root more (ap texts c.with_hasher-names.ensures.empty) g in
    inr (inr (c.in-Err-item_numbers_once.ensures.first (c.in-Ok.ensures.root, c.in-Ok.ensures.more) (subst AreDifferent same c.in-Ok-item_names-2.ensures.distinct)))
