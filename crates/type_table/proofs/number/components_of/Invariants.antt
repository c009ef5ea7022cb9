use Rattle.std.proofs.Common.{◌≡◌, ◌+◌, ◌++◌, length, map}
use Rattle.trees.specs.Types.{type_members, type_member_of}
use Rattle.type_table.specs.Seen.{part_of}
use Rattle.type_table.specs.Written.{member_kept, member_written}
use Rattle.names.specs.Sources.{source_of}
use Rattle.names.specs.proving.Gathering.{syntaxes}
use Rattle.type_table.specs.Numbering.{member_sources, numbered}
use Rattle.type_table.proofs.number.components_of.Given as goal

abbrev pub invariant-loop-name : goal.invariant-loop-name
invariant-loop-name l =
    record {
      count : length l.components.items + length l.name-iterator.rest.items ≡ length l.fn.members.items;
      components :
          map part_of l.components.items ++ numbered (l.numbers.first + length l.components.items)
          (type_members (map type_member_of l.name-iterator.rest.items))
          ≡ numbered l.numbers.first (type_members (map type_member_of l.fn.members.items));
      parts :
          map source_of l.parts.items ++ member_sources l.numbers.assignment l.numbers.own (length l.components.items)
          (type_members (map type_member_of l.name-iterator.rest.items))
          ≡ map source_of l.fn.parts.items ++ member_sources l.numbers.assignment l.numbers.own 0
          (type_members (map type_member_of l.fn.members.items));
      written :
          syntaxes l.parts.items ++ map (λ m. m.syntax) l.name-iterator.rest.items
          ≡ syntaxes l.fn.parts.items ++ map (λ m. m.syntax) l.fn.members.items;
      texts :
          map member_kept l.components.items ++ map member_written l.name-iterator.rest.items
          ≡ map member_written l.fn.members.items;
    }
