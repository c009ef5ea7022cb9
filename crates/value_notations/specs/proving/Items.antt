-- Items that have no number.
use Rattle.std.specs.Prelude.{◌≡◌, ℕ, List, None, slice_get}
use Rattle.type_table.specs.Items.{WrittenItem, numbers_of}
use Rattle.value_notations.specs.declared.leaves.LeafFault.{LeafFault}
use Rattle.value_notations.specs.declared.leaves.LeafFault.TheVariants as leaf

-- memory ran out, or the item at this place has no number
abbrev pub IsNumberless : List WrittenItem → List WrittenItem → ℕ → LeafFault → Type 0
IsNumberless root more place leaf.Memory = Unit {0}
IsNumberless root more place leaf.NotOfType = slice_get (numbers_of root more) place ≡ None
IsNumberless root more place f = ⊥
