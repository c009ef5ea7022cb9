use Rattle.std.proofs.Common.{◌≡◌, ◌-◌, ◌++◌, length, map, drop}
use Rattle.primitive_writer.proofs.buffer.turned.Given as goal

abbrev pub invariant-loop-i : goal.invariant-loop-i
invariant-loop-i l =
    (l.out.items ++ map (λ d. 255 - d) (drop l.i l.octets) ≡ map (λ d. 255 - d) l.octets) × (length l.out.items ≡ l.i)
