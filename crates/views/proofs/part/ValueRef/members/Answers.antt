use Rattle.std.proofs.Common.{refl}
use Rattle.views.specs.Seen.{side_lists, tree_of}
use Rattle.views.specs.Tree.{members_in}
use Rattle.views.proofs.Readings.{no_members_in, spelled_as}
use Rattle.views.proofs.part.ValueRef.members.Goals as goal

pub member_refs-requires-in_default : goal.member_refs-requires-in_default
member_refs-requires-in_default c =
    let s = side_lists c.self.inside.lists.now in
    let ns = c.self.inside.nodes.now in
    let i = c.self.invariant in
    let t = tree_of s ns in
    (members_in t, no_members_in s ns c.first_of.result t i (c.first_of.ensures.matches i.0 t (spelled_as s ns i)) c.in_default.not-Fields c.in_default.not-List refl)
