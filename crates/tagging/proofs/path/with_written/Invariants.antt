use Rattle.std.proofs.Common.{◌≡◌, ◌<◌, ◌≤◌, ◌++◌, length}
use Rattle.tagging.specs.Tags.{Path, path_of, WrittenTags}
use Rattle.tagging.specs.proving.TagStep.{Adds}
use Rattle.tagging.proofs.Steps.{Passed}
use Rattle.tagging.proofs.path.with_written.Given as goal

-- whatever completes the rest completes the whole
abbrev pub invariant-loop-passed : goal.invariant-loop-passed
invariant-loop-passed l = record {
  inside : l.at < length l.columns.program.types;
  passed : Passed l.columns.program.types l.start l.at l.passed;
  onto : (p q : Path) → WrittenTags l.columns.program.types l.at p → q ≡ path_of l.path.items ++ p →
      Adds l.columns.program.types l.start (path_of l.fn.before.items) q;
  room : 4 ≤ l.path.capacity;
}
