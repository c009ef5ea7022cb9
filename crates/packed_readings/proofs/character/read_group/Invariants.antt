use Rattle.std.proofs.Common.{◌-◌, ◌*◌}
use Rattle.bits.specs.Left.{bits_left}
use Rattle.packed_readings.specs.Leaves.{character_from}
use Rattle.packed_readings.specs.proving.Progress.{Added, Starts}
use Rattle.packed_readings.proofs.character.read_group.Given as goal

abbrev pub invariant-loop-i : goal.invariant-loop-i
invariant-loop-i l = record {
  added : Added (character_from l.alphabet.codes.now) l.i (bits_left l.fn.bits) l.fn.out.items l.out.items (bits_left l.bits);
  known : Starts ((l.count - l.i) * l.alphabet.width) l.number (bits_left l.bits);
}
