use Rattle.std.proofs.Common.{◌≡◌, ◌++◌, drop, string_bytes}
use Rattle.asn_base.specs.Abstract.{bits_in}
use Rattle.value_text.specs.Print.{bit_digits}
use Rattle.value_text.proofs.leaf.append_bits_of.Given as goal

abbrev pub invariant-loop-i : goal.invariant-loop-i
invariant-loop-i l =
    string_bytes l.out ++ bit_digits (bits_in l.unused (drop l.i l.octets))
    ≡ string_bytes l.fn.out ++ bit_digits (bits_in l.unused l.octets)
