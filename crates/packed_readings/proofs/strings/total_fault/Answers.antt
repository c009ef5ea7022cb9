use Rattle.std.proofs.Common.{rules, arith, ap, sym, refl, ◌∙◌, ◌≡◌, ℕ}
use Rattle.asn_base.specs.Seen.{constraint_of}
use Rattle.packed_readings.specs.Code.{test_of}
use Rattle.packed_readings.proofs.strings.total_fault.Goals as goal

pub returns-in-Sized : goal.returns-in-Sized
returns-in-Sized c = c.size_fault.ensures ∙ sym (ap (λ t. test_of t c.args.count) c.in-Sized.is)
