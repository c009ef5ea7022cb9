use Rattle.std.proofs.Common.{map}
use Rattle.type_table.specs.Seen.{part_of}
use Rattle.type_table.specs.Table.{Part}
use Rattle.type_table.specs.proving.Checks.{texts}
use Rattle.type_table.proofs.Fronts.{Kept}
use Rattle.type_table.proofs.lists.member_names.Given as goal

abbrev pub invariant-loop-component : goal.invariant-loop-component
invariant-loop-component l = Kept (map (λ (c : Part). c.name) (map part_of l.given)) (texts l.names.keys) l.component-index
