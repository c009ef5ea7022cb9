use Rattle.std.proofs.Common.{map}
use Rattle.trees.specs.Modules.{module_tree_of}
use Rattle.names.proofs.Gatherings.{ArePartly}
use Rattle.names.proofs.Offsets.{AreHalfway}
use Rattle.names.proofs.gather.add_modules.Given as goal

abbrev pub invariant-loop-given : goal.invariant-loop-given
invariant-loop-given l =
    record {
      partly :
          ArePartly (map module_tree_of l.fn.modules.items) (map module_tree_of l.given-iterator.rest.items) l.gathered;
      halfway : AreHalfway l.fn.modules.items l.given-iterator.rest.items l.gathered;
    }
