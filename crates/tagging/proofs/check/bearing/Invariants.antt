use Rattle.std.specs.Prelude.{map}
use Rattle.type_table.specs.Seen.{part_of}
use Rattle.tagging.specs.proving.Checks.{NoneBears}
use Rattle.tagging.proofs.check.bearing.Given as goal

abbrev pub invariant-loop-place : goal.invariant-loop-place
invariant-loop-place l = NoneBears l.columns.program.types (map part_of l.components) l.additions l.place
