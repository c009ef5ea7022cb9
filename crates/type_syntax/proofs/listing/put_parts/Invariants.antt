use Rattle.std.proofs.Common.{◌≡◌, ◌++◌, map, reverse, length}
use Rattle.trees.specs.Types.{type_member_of}
use Rattle.type_syntax.specs.TypeGrammar.{a_member}
use Rattle.type_syntax.specs.Listings.{named_component}
use Rattle.type_syntax.proofs.listing.put_parts.Given as goal

abbrev pub invariant-loop-part : goal.invariant-loop-part
invariant-loop-part l =
    map type_member_of l.members.items ++ map (a_member l.standing) (map named_component (reverse l.rest.items))
    ≡ map type_member_of l.fn.members.items ++ map (a_member l.standing) (map named_component l.fn.parts.items)

abbrev pub decreases-loop-part : goal.decreases-loop-part
decreases-loop-part l = length l.rest.items
