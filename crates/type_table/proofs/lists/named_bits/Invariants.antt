use Rattle.std.proofs.Common.{◌≡◌, ℕ, ◌<◌, ◌≤◌, Some, map}
use Rattle.std.specs.Prelude.{slice_get}
use Rattle.trees.specs.Values.{Name}
use Rattle.trees.specs.Types.{bit_of}
use Rattle.type_table.specs.proving.Checks.{texts}
use Rattle.type_table.proofs.Fronts.{Kept, KeptIn}
use Rattle.type_table.proofs.lists.named_bits.Given as goal

abbrev pub invariant-loop-item : goal.invariant-loop-item
invariant-loop-item l = record {
  names : Kept (map (λ (b : Name × ℕ). b.0) (map bit_of l.given)) (texts l.names.keys) l.item-index;
  places : KeptIn (map (λ (b : Name × ℕ). b.1) (map bit_of l.given)) l.places.keys l.item-index;
  near : (k : ℕ) (b : Name × ℕ) → k < l.item-index → slice_get (map bit_of l.given) k ≡ Some b → b.1 ≤ 65535;
}
