use Rattle.std.proofs.Common.{◌≡◌, drop}
use Rattle.std.specs.List.{list_any}
use Rattle.value_text.specs.Print.{is_line_end}
use Rattle.value_text.proofs.string.has_line_end.Given as goal

abbrev pub invariant-loop-i : goal.invariant-loop-i
invariant-loop-i l = list_any is_line_end l.octets ≡ list_any is_line_end (drop l.i l.octets)
