use Rattle.std.proofs.Common.{map}
use Rattle.type_table.specs.Seen.{part_of}
use Rattle.additions.specs.proving.Checks.{KeepBefore}
use Rattle.additions.proofs.members.list_breaks.Given as goal

abbrev pub invariant-loop-place : goal.invariant-loop-place
invariant-loop-place l = KeepBefore l.tagged.program.types l.fn.kind l.marker (map part_of l.components) l.place
