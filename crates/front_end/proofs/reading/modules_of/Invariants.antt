use Rattle.std.proofs.Common.{map, take}
use Rattle.std.specs.List.{AllZip}
use Rattle.trees.specs.Modules.{module_tree_of}
use Rattle.front_end.specs.Accepted.{IsModule, octets_of}
use Rattle.front_end.proofs.reading.modules_of.Given as goal

abbrev pub invariant-loop-number : goal.invariant-loop-number
invariant-loop-number l = AllZip IsModule (map octets_of (take l.number l.texts)) (map module_tree_of l.modules.items)
