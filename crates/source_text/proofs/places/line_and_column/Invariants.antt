use Rattle.std.proofs.Common.{◌≡◌, min, ◌^◌, ◌-◌}
use Rattle.source_text.specs.Lines.{column_of, line_of}
use Rattle.source_text.proofs.places.line_and_column.Given as goal

abbrev pub invariant-loop-place : goal.invariant-loop-place
invariant-loop-place l = record {
  line : l.line ≡ min (line_of l.text l.place) (2 ^ 64 - 1);
  column : l.column ≡ min (column_of l.text l.place) (2 ^ 64 - 1);
}
