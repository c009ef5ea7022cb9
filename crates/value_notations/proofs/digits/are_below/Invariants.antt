use Rattle.std.proofs.Common.{take}
use Rattle.std.specs.Int.Digits.{AllBelowBase}
use Rattle.value_notations.proofs.digits.are_below.Given as goal

abbrev pub invariant-loop-digit : goal.invariant-loop-digit
invariant-loop-digit l = AllBelowBase l.base (take l.digit-index l.digits)
