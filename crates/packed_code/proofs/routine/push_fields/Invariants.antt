use Rattle.std.proofs.Common.{◌≡◌, ◌++◌, map, drop}
use Rattle.packed_code.specs.Placed.{placed_of}
use Rattle.packed_code.specs.Routines.{root_steps}
use Rattle.packed_code.proofs.routine.push_fields.Given as goal

abbrev pub invariant-loop-i : goal.invariant-loop-i
invariant-loop-i l =
    l.out.items ++ root_steps (map placed_of (drop l.i l.root)) ≡ l.fn.out.items ++ root_steps (map placed_of l.root)
