use mir.Syntax.{w128}
use mir.Val.{SFits}
use Rattle.std.proofs.Common.{rules, map, subst}
use Rattle.std.proofs.lemmas.Int.{to_z-of_z}
use Rattle.asn_base.specs.Abstract.{abstract}
use Rattle.asn_base.specs.Seen.{item_of}
use Rattle.packed_counts.specs.Counts.{Adds}
use Rattle.packed_encodings.specs.Leaves.{ItemBits}
use Rattle.packed_leaves.proofs.Leaves.{item_added}
use Rattle.packed_leaves.proofs.item.push_enumerated.Goals as goal

pub returns : goal.returns
returns c =
    let root = map item_of c.args.items.now.root.items in
    let more = map item_of c.args.items.now.additions.items in
    let f : SFits w128 c.item_number.result = search rules in
    item_added c.function_laws.ensures.leaf root more c.args.items.now.extensible (abstract c.args.value.now) c.item_number.result c.args.out.now c.push_item.new.out c.requires.items c.item_number.ensures
    (subst (λ q. Adds (ItemBits root c.args.items.now.extensible more q) c.args.out.now c.push_item.new.out) (to_z-of_z w128 c.item_number.result f) c.in_ok-push_item.ensures)
