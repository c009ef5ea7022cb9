use Rattle.asn_base.specs.Rules.{AllKeep}
use Rattle.asn_base.proofs.check.checked.Given as goal

abbrev pub invariant-loop-place : goal.invariant-loop-place
invariant-loop-place l = AllKeep l.types l.place
