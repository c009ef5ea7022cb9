use Rattle.std.proofs.Common.{◌≡◌, ◌≤◌, ◌++◌, [], drop, length, map}
use Rattle.bits.specs.Left.{bits_left}
use Rattle.packed_reader.specs.proving.Running.{run_presences}
use Rattle.packed_writer.specs.proving.Values.{fields_in}
use Rattle.packed_reader.proofs.presence.read_presences.Given as goal

abbrev pub invariant-loop-i : goal.invariant-loop-i
invariant-loop-i l =
    (run_presences l.sent.items (fields_in (drop l.i l.steps)) (bits_left l.bits) ≡ run_presences [] (fields_in l.steps) (bits_left l.fn.bits))
    × (map (λ x. x.field) l.sent.items ++ fields_in (drop l.i l.steps) ≡ fields_in l.steps)
    × (length (bits_left l.bits) ≤ length (bits_left l.fn.bits))
