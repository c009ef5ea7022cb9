use Rattle.std.proofs.Common.{◌≡◌, ◌++◌, map, drop}
use Rattle.packed_code.specs.Placed.{placed_of}
use Rattle.packed_code.specs.Routines.{member_steps}
use Rattle.packed_code.proofs.routine.push_members.Given as goal

abbrev pub invariant-loop-i : goal.invariant-loop-i
invariant-loop-i l =
    l.out.items ++ member_steps (map placed_of (drop l.i l.members)) ≡ l.fn.out.items ++ member_steps (map placed_of l.members)
