use Rattle.std.proofs.Common.{◌-◌}
use Rattle.type_table.specs.Seen.{kind_of}
use Rattle.range_ends.specs.proving.Noted.{AreRight, IsPath}
use Rattle.range_ends.proofs.finder.mark.Given as goal

abbrev pub invariant-loop-step : goal.invariant-loop-step
invariant-loop-step l = record {
  path : IsPath l.course.linked.now.program (kind_of l.course.shape.now) l.course.target.now (l.steps - l.step) l.at l.reached;
  right : AreRight l.course.linked.now.program l.course.target.now l.latest.items;
}
