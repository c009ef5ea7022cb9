use Rattle.std.proofs.Common.{◌≡◌, ◌≤◌, ◌+◌, ◌++◌, map, reverse, length}
use Rattle.parser_combinators.specs.Parts.{addition_of}
use Rattle.trees.specs.Types.{type_member_of}
use Rattle.type_syntax.specs.TypeGrammar.{addition_members}
use Rattle.type_syntax.specs.Listings.{named_component}
use Rattle.type_syntax.proofs.listing.put_additions.Given as goal

abbrev pub invariant-loop-addition : goal.invariant-loop-addition
invariant-loop-addition l = record {
  members :
      map type_member_of l.members.items ++ addition_members l.number (map (addition_of named_component) (reverse l.rest.items))
      ≡ map type_member_of l.fn.members.items ++ addition_members 0 (map (addition_of named_component) l.fn.additions.items);
  number : l.number + length l.rest.items ≤ length l.fn.additions.items;
}

abbrev pub decreases-loop-addition : goal.decreases-loop-addition
decreases-loop-addition l = length l.rest.items
