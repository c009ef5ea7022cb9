-- Named bits and their places.
use Rattle.std.specs.Prelude.{◌≡◌, ◌≤◌, ℕ, Bool, List, None}
use Rattle.std.specs.List.{AllByRecursion}
use Rattle.trees.specs.declared.value.ValueSyntax.{ValueSyntax}
use Rattle.trees.specs.Values.{Name, tree_of, reference, Trees}
use Rattle.value_notations.specs.Leaves.{AreBitNames, AreSetBits}
use Rattle.value_notations.specs.Wrong.{IsUnknownBit}
use Rattle.value_notations.specs.Written.{IsFirstAmong}
use Rattle.value_notations.specs.declared.leaves.LeafFault.{LeafFault}
use Rattle.value_notations.specs.declared.leaves.LeafFault.TheVariants as leaf

-- places within the limit on named bits
abbrev pub AreWithin : List ℕ → Type 0
AreWithin places = AllByRecursion (λ p. p ≤ 65535) places

-- the bits that names in braces set
pub record AreNamedBits (bs : List (Name × ℕ)) (ts : Trees) (s : List Bool) : Type 0 where
  pub places : List ℕ
  pub names : AreBitNames bs ts places
  pub set : AreSetBits places s

-- these are not all names of bits; the fault says whether the first one that is no bit's name is a name
abbrev pub AreNamesWrong : List (Name × ℕ) → Trees → LeafFault → Type 0
AreNamesWrong bs ts leaf.Memory = Unit {0}
AreNamesWrong bs ts leaf.NotOfType =
    ((ps : List ℕ) → AreBitNames bs ts ps → ⊥) × ((x : Name) → IsUnknownBit bs x ts → ⊥)
AreNamesWrong bs ts (leaf.UnknownBit b) = (x : Name) × (tree_of b.now ≡ reference None x) × IsUnknownBit bs x ts
AreNamesWrong bs ts leaf.Oid = ⊥

-- an unknown bit is the first of these notations that is its name
abbrev pub IsBitAmong : List ValueSyntax → LeafFault → Type 0
IsBitAmong ns (leaf.UnknownBit b) = IsFirstAmong ns b.now
IsBitAmong ns f = Unit {0}
