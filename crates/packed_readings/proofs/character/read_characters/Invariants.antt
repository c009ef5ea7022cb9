use Rattle.std.proofs.Common.{◌-◌, ◌≤◌}
use Rattle.bits.specs.Left.{bits_left}
use Rattle.packed_readings.specs.Leaves.{character_from}
use Rattle.packed_readings.specs.proving.Progress.{Added}
use Rattle.packed_readings.proofs.character.read_characters.Given as goal

abbrev pub invariant-loop-left : goal.invariant-loop-left
invariant-loop-left l = record {
  few : l.left ≤ l.count;
  added : Added (character_from l.alphabet) (l.count - l.left) (bits_left l.fn.bits) l.fn.out.items l.out.items (bits_left l.bits);
}

abbrev pub decreases-loop-left : goal.decreases-loop-left
decreases-loop-left l = l.left
