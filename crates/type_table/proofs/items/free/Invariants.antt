use Rattle.std.proofs.Common.{◌≡◌, ◌+◌, ◌≤◌, ◌^◌}
use Rattle.type_table.proofs.Free.{AreTaken}
use Rattle.type_table.proofs.items.free.Given as goal

abbrev pub invariant-loop-turn : goal.invariant-loop-turn
invariant-loop-turn l = record {
  taken : AreTaken l.used.keys l.from l.at;
  reached : l.at ≡ l.from + l.turn;
  small : l.at ≤ 2 ^ 127;
}
