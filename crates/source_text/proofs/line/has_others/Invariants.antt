use Rattle.std.proofs.Common.{◌≡◌, drop}
use Rattle.std.specs.List.{list_any}
use Rattle.source_text.specs.Plain.{is_other}
use Rattle.source_text.proofs.line.has_others.Given as goal

abbrev pub invariant-loop-i : goal.invariant-loop-i
invariant-loop-i l = list_any is_other l.octets ≡ list_any is_other (drop l.i l.octets)
