use Rattle.std.proofs.Common.{◌<◌, length}
use Rattle.tagging.proofs.Steps.{Passed}
use Rattle.tagging.proofs.path.has_few.Given as goal

abbrev pub invariant-loop-passed : goal.invariant-loop-passed
invariant-loop-passed l = record {
  inside : l.at < length l.columns.program.types;
  onto : Passed l.columns.program.types l.ty l.at l.passed;
}
