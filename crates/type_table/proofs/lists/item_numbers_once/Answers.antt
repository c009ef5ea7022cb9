use Rattle.std.proofs.Common.{◌≡◌, ◌<◌, ◌++◌, Some, length, map, take, sym, subst, ap, ◌∙◌, inl, inr, arith}
use Rattle.std.specs.Prelude.{slice_get}
use Rattle.std.proofs.lemmas.List.{length-map}
use Rattle.std.proofs.lemmas.Option.{slice_get_within}
use Rattle.trees.specs.Types.{an_enumerated, item_of}
use Rattle.trees.specs.Values.{name_at}
use Rattle.names.specs.Modules.{AreDifferent, OccursTwice}
use Rattle.type_table.specs.Items.{WrittenItem, additions_from, numbers_of, root_numbers}
use Rattle.type_table.specs.Seen.{root_items, more_of, after_marker}
use Rattle.type_table.specs.Table.{simple}
use Rattle.type_table.proofs.Counts.{more_long, numbers_long}
use Rattle.type_table.proofs.ListFaults.{kind_again}
use Rattle.names.specs.declared.fault.Limit.TheVariants as limits
use Rattle.names.specs.Modules.{OccursIn}
use Rattle.type_table.specs.FirstInList.{HasFewItems, IsGreatItem, ReportsPassed, all_names, all_places, item_places}
use Rattle.type_table.specs.Lists.{AreWithinLimit}
use Rattle.type_table.proofs.FirstFaults.{passed_at, second_reported}
use Rattle.type_table.proofs.lists.item_numbers_once.Goals as goal

pub returns-in-Ok-None-clause-distinct : goal.returns-in-Ok-None-clause-distinct
returns-in-Ok-None-clause-distinct c =
    let e = c.deref.ensures.value ∙ c.in-Ok.ensures.numbers in
    subst AreDifferent e (rw c.in-Ok-None.field-0-is at c.in-Ok-None.ensures.again)

pub item_name-requires : goal.item_name-requires
item_name-requires c =
    let root = root_items c.args.given.now in
    let more = more_of c.args.given.now in
    let e : c.deref.result.now ≡ numbers_of root more = c.deref.ensures.value ∙ c.in-Ok.ensures.numbers in
    let s = rw c.in-Ok-Some.field-0-is at c.in-Ok-Some.ensures.again in
    let w : c.in-Ok-Some.i < length c.deref.result.now = slice_get_within c.deref.result.now c.in-Ok-Some.i s.0 s.1 in
    let l : length c.deref.result.now ≡ length (numbers_of root more) = ap length e in
    omega (arith, w, l, numbers_long root more)

pub returns-in-Ok-Some-clause-fault : goal.returns-in-Ok-Some-clause-fault
returns-in-Ok-Some-clause-fault c =
    let root = root_items c.args.given.now in
    let more = more_of c.args.given.now in
    let i = c.in-Ok-Some.i in
    let e : c.deref.result.now ≡ numbers_of root more = c.deref.ensures.value ∙ c.in-Ok.ensures.numbers in
    let s = rw c.in-Ok-Some.field-0-is at c.in-Ok-Some.ensures.again in
    kind_again c.args.within.now c.args.assigns.now (simple (an_enumerated root (after_marker c.args.given.now))) (map (λ (i : WrittenItem). i.0) (root ++ more)) (numbers_of root more) i (name_at c.item_name.result.now) s.0 c.twice.result (λ y t. t)
    c.item_name.ensures.name (subst (λ l. slice_get l i ≡ Some s.0) e s.1) (subst (λ l. OccursTwice l s.0) e s.2) c.twice.ensures.name

pub name_at_place-requires : goal.name_at_place-requires
name_at_place-requires c =
    let root = root_items c.args.given.now in
    let more = more_of c.args.given.now in
    let s = rw c.in-Err-TooGreat.field-0-is at c.in-Err-TooGreat.ensures.fault in
    let w = slice_get_within (additions_from (root_numbers root) 0 more) c.in-Err-TooGreat.i _ s in
    let l : length c.additions.result.now ≡ length more = sym (length-map c.additions.result.now item_of) ∙ ap length c.additions.ensures.items in
    omega (arith, w, l, more_long (root_numbers root) 0 more)

pub returns-in-Ok-Some-clause-first : goal.returns-in-Ok-Some-clause-first
returns-in-Ok-Some-clause-first c = λ few names.
    let root = root_items c.args.given.now in
    let more = more_of c.args.given.now in
    let i = c.in-Ok-Some.i in
    let e : c.deref.result.now ≡ numbers_of root more = c.deref.ensures.value ∙ c.in-Ok.ensures.numbers in
    let s = rw c.in-Ok-Some.field-0-is at c.in-Ok-Some.ensures.first in
    let within = subst AreWithinLimit c.in-Ok.ensures.numbers c.in-Ok.ensures.within in
    inr (second_reported c.args.within.now (all_places c.args.given.now) (numbers_of root more) i c.item_name.result.now s.0
    (λ i. HasFewItems c.args.given.now × AreDifferent (all_names c.args.given.now) × AreWithinLimit (numbers_of root more)) c.twice.result
    c.item_name.ensures.place (subst (λ l. slice_get l i ≡ Some s.0) e s.1) (subst (λ l. OccursIn (take i l) s.0) e s.2) (subst (λ l. AreDifferent (take i l)) e s.3) (few, names, within)
    c.twice.ensures.name c.twice.ensures.at)

pub returns-clause-first : goal.returns-clause-first
returns-clause-first c = λ few names.
    let i = c.in-Err-TooGreat.i in
    let great = rw c.in-Err-TooGreat.field-0-is at c.in-Err-TooGreat.ensures.fault in
    let before = rw c.in-Err-TooGreat.field-0-is at c.in-Err-TooGreat.ensures.before in
    inl (subst (λ is. ReportsPassed limits.Integer c.args.within.now c.args.assigns.now (item_places is) (IsGreatItem c.args.given.now) c.passed.result) c.additions.ensures.same
    (passed_at limits.Integer c.args.within.now c.args.assigns.now (item_places c.additions.result.now) i c.name_at_place.result.now (IsGreatItem c.args.given.now) c.passed.result
    c.name_at_place.ensures.place (record { few = few; names = names; great = great; before = before }) c.passed.ensures.limit c.passed.ensures.at))
