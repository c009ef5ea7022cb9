use Rattle.std.proofs.Common.{map, drop}
use Rattle.resolve.specs.Qualified.{each}
use Rattle.resolve.proofs.Turns.{Left}
use Rattle.resolve.proofs.qualified.names_in_all.Given as goal

abbrev pub invariant-loop-one : goal.invariant-loop-one
invariant-loop-one g l = Left l.linked.program.modules l.within (each g.T.Naming.names (map g.T.Naming.view l.all)) (each g.T.Naming.names (map g.T.Naming.view (drop l.one-index l.all)))
    (each g.T.Naming.places l.all) (each g.T.Naming.places (drop l.one-index l.all))
