use Rattle.std.proofs.Common.{map, take}
use Rattle.trees.specs.Constraints.{chars_of}
use Rattle.constraints.proofs.Letters.{AreAdded}
use Rattle.constraints.proofs.characters.codes_at.Given as goal

abbrev pub invariant-loop-one : goal.invariant-loop-one
invariant-loop-one l = AreAdded (take l.one-index (map chars_of l.chars)) l.codes
