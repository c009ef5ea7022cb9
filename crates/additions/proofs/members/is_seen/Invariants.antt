use Rattle.std.proofs.Common.{map}
use Rattle.type_table.specs.Seen.{part_of}
use Rattle.additions.specs.proving.Checks.{IsSeenBefore}
use Rattle.additions.proofs.members.is_seen.Given as goal

abbrev pub invariant-loop-place : goal.invariant-loop-place
invariant-loop-place l = IsSeenBefore (map part_of l.components) l.place l.group → ⊥
