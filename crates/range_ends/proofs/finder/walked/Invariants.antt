use Rattle.std.proofs.Common.{◌≡◌, ◌<◌, length, Some}
use Rattle.type_table.specs.Seen.{kind_of}
use Rattle.range_ends.specs.proving.Steps.{next}
use Rattle.type_table.specs.Walks.{follow}
use Rattle.range_ends.proofs.finder.walked.Given as goal

abbrev pub invariant-loop-step : goal.invariant-loop-step
invariant-loop-step l = record {
  inside : l.at < length l.course.linked.now.program.values;
  chain : follow (next l.course.linked.now.program (kind_of l.course.shape.now) l.course.target.now) l.step l.start ≡ Some l.at;
}
