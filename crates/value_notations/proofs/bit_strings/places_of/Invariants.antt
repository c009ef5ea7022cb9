use Rattle.std.proofs.Common.{map, take}
use Rattle.trees.specs.Values.{tree_of, trees}
use Rattle.type_table.specs.Seen.{kind_of}
use Rattle.resolve.specs.Listed.{bits_listed}
use Rattle.value_notations.specs.Leaves.{AreBitNames}
use Rattle.value_notations.proofs.bit_strings.places_of.Given as goal

abbrev pub invariant-loop-name : goal.invariant-loop-name
invariant-loop-name l =
    AreBitNames (bits_listed (kind_of l.shape)) (trees (take l.name-index (map tree_of l.names))) l.places.items
