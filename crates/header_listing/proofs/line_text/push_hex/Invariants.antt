use Rattle.std.proofs.Common.{◌≡◌, ◌++◌, drop, string_bytes}
use Rattle.value_text.specs.Print.{hex_digits}
use Rattle.header_listing.proofs.line_text.push_hex.Given as goal

abbrev pub invariant-loop-i : goal.invariant-loop-i
invariant-loop-i l =
    string_bytes l.out ++ hex_digits (drop l.i l.octets) ≡ string_bytes l.fn.out ++ hex_digits l.octets
