use Rattle.std.proofs.Common.{◌≡◌, ◌≤◌, ◌+◌, length, map}
use Rattle.type_table.specs.Seen.{types_of}
use Rattle.names.specs.Sources.{sources_of, header_of, assignment_of}
use Rattle.names.specs.proving.Gathering.{syntaxes}
use Rattle.type_table.proofs.Queue.{IsHalfway, IsQueue}
use Rattle.type_table.proofs.number.number_all.Given as goal

abbrev pub invariant-loop-number : goal.invariant-loop-number
invariant-loop-number l =
    record {
      halfway :
          IsHalfway l.names (map header_of l.headers) (map assignment_of l.assignments) (sources_of l.fn.roots.items)
          (types_of l.types.items) (sources_of l.sources.items) l.number;
      queue : IsQueue (syntaxes l.fn.roots.items) l.types.items (syntaxes l.sources.items);
      count : length l.types.items ≡ l.number;
      few : l.number + length l.sources.items ≤ 65536;
    }
