use Rattle.std.proofs.Common.{sym, subst, ap, map}
use Rattle.std.specs.List.{AllByRecursion}
use Rattle.asn_base.specs.Seen.{alternative_of, kind_of}
use Rattle.asn_base.specs.Schemas.{HasTag}
use Rattle.asn_base.specs.Rules.{HasOwnTags}
use Rattle.asn_base.proofs.Listings.{all_split}
use Rattle.asn_base.proofs.first_tags.has_order.Goals as goal

pub are_in_order-requires : goal.are_in_order-requires
are_in_order-requires c =
    let s = c.args.types.now in
    let own = subst (HasOwnTags s) (ap kind_of c.in-Choice.is) c.requires in
    subst (λ q. AllByRecursion (λ a. HasTag s a.type) (map alternative_of q)) (sym c.as_slice.ensures.value) (all_split (λ a. HasTag s a.type) (map alternative_of c.in-Choice.alternatives.root.items) (map alternative_of c.in-Choice.alternatives.additions.items) own).1
