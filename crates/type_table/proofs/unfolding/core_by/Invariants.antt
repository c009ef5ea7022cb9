use Rattle.std.proofs.Common.{◌≡◌, ◌<◌, length, Some}
use Rattle.type_table.specs.Seen.{types_of}
use Rattle.type_table.specs.Table.{walk}
use Rattle.type_table.proofs.unfolding.core_by.Given as goal

abbrev pub invariant-loop-step : goal.invariant-loop-step
invariant-loop-step l = record { inside : l.at < length l.types; chain : walk (types_of l.types) l.step l.start ≡ Some l.at }
