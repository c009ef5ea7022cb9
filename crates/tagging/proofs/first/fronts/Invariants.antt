use Rattle.std.proofs.Common.{take, map}
use Rattle.type_table.specs.Seen.{part_of}
use Rattle.tagging.specs.proving.Heads.{Fronts}
use Rattle.tagging.proofs.first.fronts.Given as goal

abbrev pub invariant-loop-place : goal.invariant-loop-place
invariant-loop-place l = Fronts l.columns.program.types (take l.place (map part_of l.members)) l.tags.items
