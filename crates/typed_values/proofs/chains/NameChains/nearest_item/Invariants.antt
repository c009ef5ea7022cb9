use Rattle.trees.specs.Types.{item_of}
use Rattle.typed_values.specs.proving.Stopping.{AreSeen}
use Rattle.typed_values.proofs.chains.NameChains.nearest_item.Given as goal

abbrev pub invariant-loop-i : goal.invariant-loop-i
invariant-loop-i l = record { seen : AreSeen (λ x. (item_of x).0) l.self l.chain l.fn.best l.items l.i l.best }
