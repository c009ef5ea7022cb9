use Rattle.std.proofs.Common.{map}
use Rattle.trees.specs.Constraints.{constraint_of}
use Rattle.type_table.specs.Seen.{kind_of}
use Rattle.constraints.specs.proving.Limits.{Narrows}
use Rattle.constraints.proofs.limit.narrowed_by.Given as goal

abbrev pub invariant-loop-constraint : goal.invariant-loop-constraint
invariant-loop-constraint l =
    Narrows l.site.scope.now.program (kind_of l.site.shape.now) l.site.within.now (map constraint_of l.constraints) l.constraint-index l.fn.start l.limit
