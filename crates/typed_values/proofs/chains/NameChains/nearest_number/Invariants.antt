use Rattle.trees.specs.Types.{numbered_name}
use Rattle.typed_values.specs.proving.Stopping.{AreSeen}
use Rattle.typed_values.proofs.chains.NameChains.nearest_number.Given as goal

abbrev pub invariant-loop-i : goal.invariant-loop-i
invariant-loop-i l = record { seen : AreSeen (λ x. (numbered_name x).0) l.self l.chain l.fn.best l.numbers l.i l.best }
