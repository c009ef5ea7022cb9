use Rattle.std.proofs.Common.{take, map}
use Rattle.type_table.specs.Seen.{part_of}
use Rattle.tagging.specs.proving.Lists.{Collected, tag_lists}
use Rattle.tagging.specs.proving.Reported.{NoneInsideTo}
use Rattle.tagging.proofs.check.collect.Given as goal

abbrev pub invariant-loop-place : goal.invariant-loop-place
invariant-loop-place l =
    Collected l.columns.program.types (take l.place (map part_of l.components)) (tag_lists l.lists.items)
    × NoneInsideTo l.columns.program.types l.types l.components l.place
