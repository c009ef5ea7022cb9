use mir.Syntax.{w128}
use Rattle.std.proofs.Common.{map}
use Rattle.std.proofs.lemmas.Int.{to_z-of_z}
use Rattle.asn_base.specs.Seen.{item_of}
use Rattle.packed_leaves.proofs.Leaves.{root_pushed, more_added, place_below, place_moved, none_moved, in_one}
use Rattle.packed_leaves.proofs.item.push_item.Goals as goal

pub returns-in-Some : goal.returns-in-Some
returns-in-Some c =
    let p = place_moved c.args.items.now.root.items c.as_slice-root.result.now _ c.args.number c.in-Some.place c.as_slice-root.ensures.value (to_z-of_z w128 c.args.number c.ranges.number) c.in-Some.ensures in
    root_pushed c.args.items.now.root.items (map item_of c.args.items.now.additions.items) c.args.items.now.extensible c.args.number c.in-Some.place c.args.out.now c.push_root.new.out p c.in_ok-push_root.ensures

pub push_added-requires : goal.push_added-requires
push_added-requires c =
    let p = place_moved c.args.items.now.additions.items c.as_slice-more.result.now _ c.args.number c.in-Some-found.place c.as_slice-more.ensures.value (to_z-of_z w128 c.args.number c.ranges.number) c.in-Some-found.ensures in
    place_below (map item_of c.args.items.now.additions.items) c.args.number c.in-Some-found.place c.requires.items.few_more p

pub returns-in-Some-found : goal.returns-in-Some-found
returns-in-Some-found c =
    let more = map item_of c.args.items.now.additions.items in
    let p = place_moved c.args.items.now.additions.items c.as_slice-more.result.now _ c.args.number c.in-Some-found.place c.as_slice-more.ensures.value (to_z-of_z w128 c.args.number c.ranges.number) c.in-Some-found.ensures in
    more_added (map item_of c.args.items.now.root.items) more c.args.items.now.extensible c.args.number c.in-Some-found.place c.args.out.now c.push_added.new.out c.requires.items
    (place_below more c.args.number c.in-Some-found.place c.requires.items.few_more p) p c.in_ok-push_added.ensures

pub returns-in_ok-push_root-in-Some-looked_for : goal.returns-in_ok-push_root-in-Some-looked_for
returns-in_ok-push_root-in-Some-looked_for c =
    let p = place_moved c.args.items.now.root.items c.as_slice-root.result.now _ c.args.number c.in-Some-looked_for.place c.as_slice-root.ensures.value (to_z-of_z w128 c.args.number c.ranges.number) c.in-Some-looked_for.ensures in
    root_pushed c.args.items.now.root.items (map item_of c.args.items.now.additions.items) c.args.items.now.extensible c.args.number c.in-Some-looked_for.place c.args.out.now c.push_root-in-Some-looked_for.new.out p c.in_ok-push_root-in-Some-looked_for.ensures

pub push_added-requires-in-Some-looked_for-2 : goal.push_added-requires-in-Some-looked_for-2
push_added-requires-in-Some-looked_for-2 c =
    let p = place_moved c.args.items.now.additions.items c.as_slice-more.result.now _ c.args.number c.in-Some-looked_for-2.place c.as_slice-more.ensures.value (to_z-of_z w128 c.args.number c.ranges.number) c.in-Some-looked_for-2.ensures in
    place_below (map item_of c.args.items.now.additions.items) c.args.number c.in-Some-looked_for-2.place c.requires.items.few_more p

pub returns-in_ok-push_added-in-Some-looked_for-2 : goal.returns-in_ok-push_added-in-Some-looked_for-2
returns-in_ok-push_added-in-Some-looked_for-2 c =
    let more = map item_of c.args.items.now.additions.items in
    let p = place_moved c.args.items.now.additions.items c.as_slice-more.result.now _ c.args.number c.in-Some-looked_for-2.place c.as_slice-more.ensures.value (to_z-of_z w128 c.args.number c.ranges.number) c.in-Some-looked_for-2.ensures in
    more_added (map item_of c.args.items.now.root.items) more c.args.items.now.extensible c.args.number c.in-Some-looked_for-2.place c.args.out.now c.push_added-in-Some-looked_for-2.new.out c.requires.items
    (place_below more c.args.number c.in-Some-looked_for-2.place c.requires.items.few_more p) p c.in_ok-push_added-in-Some-looked_for-2.ensures

pub unreachable-requires : goal.unreachable-requires
unreachable-requires c =
    let same = to_z-of_z w128 c.args.number c.ranges.number in
    in_one (map item_of c.args.items.now.root.items) (map item_of c.args.items.now.additions.items) c.args.number c.requires.has
    (none_moved c.args.items.now.root.items c.as_slice-root.result.now _ c.args.number c.as_slice-root.ensures.value same c.in-None.ensures)
    (none_moved c.args.items.now.additions.items c.as_slice-more.result.now _ c.args.number c.as_slice-more.ensures.value same c.in-None-looked_for.ensures)
