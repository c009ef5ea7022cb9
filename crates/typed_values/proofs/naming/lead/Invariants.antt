use Rattle.std.proofs.Common.{length}
use Rattle.std.specs.Prelude.{IsUtf8}
use Rattle.trees.specs.Values.{tree_of}
use Rattle.type_table.specs.Seen.{kind_of}
use Rattle.value_notations.specs.Wrong.{OpenedPath}
use Rattle.value_notations.specs.Written.{IsReachedNotation}
use Rattle.value_notations.specs.proving.Opened.{IsGrown}
use Rattle.typed_values.proofs.naming.lead.Given as goal

abbrev pub invariant-loop-step : goal.invariant-loop-step
invariant-loop-step g l = record {
  chain : OpenedPath l.linked.program (kind_of l.unfollowed.shape.now) l.initial.opened l.unfollowed.at.within.now (tree_of l.initial.at)
      l.opened l.module (tree_of l.at);
  reached : IsReachedNotation l.linked l.initial.opened l.initial.at l.opened l.at;
  grown : IsGrown l.initial.opened l.opened (length l.linked.program.values) l.step;
  text : IsUtf8 l.module;
}
