use Rattle.std.proofs.Common.{map, subst}
use Rattle.asn_base.specs.Seen.{item_of}
use Rattle.type_table.specs.Items.{root_numbers}
use Rattle.type_table.specs.Seen.{root_items, more_of, after_marker}
use Rattle.type_table.specs.proving.Checks.{IsGreatAt}
use Rattle.extensions.proofs.Roots.{none_great, enumeration_core}
use Rattle.extensions.proofs.items.enumeration.Goals as goal

pub unreachable-requires : goal.unreachable-requires
unreachable-requires c =
    let root = root_items c.args.given.now in
    let more = more_of c.args.given.now in
    none_great root more c.in-Err-TooGreat.field-0-0 c.requires
    (subst (IsGreatAt (root_numbers root) more) c.in-Err-TooGreat.field-0-is c.in-Err-TooGreat.ensures.fault)

pub returns-in-Ok-additions : goal.returns-in-Ok-additions
returns-in-Ok-additions c p i M =
    let g = c.args.given.now in
    enumeration_core p i M (root_items g) (after_marker g) (map item_of c.in-Ok-root.items.items)
    (map item_of c.in-Ok-additions.additions.items) c.has_marker.result c.in-Ok-root.ensures.members c.in-Ok-additions.ensures.members
    c.has_marker.ensures c.in-Ok-root.ensures.ascend c.in-Ok-additions.ensures.ascend
