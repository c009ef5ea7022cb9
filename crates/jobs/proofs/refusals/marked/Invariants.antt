-- The mark, and the octets so far.
use Rattle.std.proofs.Common.{◌≡◌, ◌++◌, codes, take}
use Rattle.jobs.specs.Answers.{without_ends}
use Rattle.jobs.proofs.refusals.marked.Given as goal

abbrev pub invariant-loop-octet : goal.invariant-loop-octet
invariant-loop-octet l = l.text.items ≡ codes "! " ++ without_ends (take l.octet-index l.report)
