use Rattle.std.proofs.Common.{◌<◌, drop}
use Rattle.std.specs.Prelude.{◌↔◌}
use Rattle.asn_base.proofs.Ascending.{Adjacent}
use Rattle.asn_base.proofs.numbers.do_codes_ascend.Given as goal

abbrev pub invariant-loop-i : goal.invariant-loop-i
invariant-loop-i l = Adjacent (λ a b. a < b) l.codes ↔ Adjacent (λ a b. a < b) (drop l.i l.codes)
