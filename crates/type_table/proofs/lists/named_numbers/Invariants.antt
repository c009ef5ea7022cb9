use Rattle.std.proofs.Common.{ℤ, map}
use Rattle.trees.specs.Values.{Name}
use Rattle.trees.specs.Types.{numbered_name}
use Rattle.type_table.specs.proving.Checks.{texts}
use Rattle.type_table.proofs.Fronts.{Kept, KeptIn}
use Rattle.type_table.proofs.lists.named_numbers.Given as goal

abbrev pub invariant-loop-item : goal.invariant-loop-item
invariant-loop-item l = record {
  names : Kept (map (λ (n : Name × ℤ). n.0) (map numbered_name l.given)) (texts l.names.keys) l.item-index;
  numbers : KeptIn (map (λ (n : Name × ℤ). n.1) (map numbered_name l.given)) l.numbers.keys l.item-index;
}
