-- The forms of BIT STRING's notations.
use Rattle.std.proofs.Common.{◌≡◌, ℕ, Bool, true, false, List, [], map, Some, None, refl, sym, ap, ◌∙◌, subst}
use Rattle.std.specs.Prelude.{flat_map, ◌==◌}
use Rattle.std.specs.Int.Digits.{AllBelowBase}
use Rattle.std.proofs.lemmas.Option.{same_Some}
use Rattle.asn_base.specs.Abstract.{AbstractValue, bits}
use Rattle.trees.specs.Values.{Name, Tree, Trees, binary, hex, nothing, items, no_tree}
use Rattle.trees.specs.Types.{Plain, a_bit_string}
use Rattle.type_table.specs.Table.{simple}
use Rattle.value_notations.specs.Leaves.{IsLeafNotation, AreBitNames, bits_of_digit}
use Rattle.value_notations.specs.Leaves as leaves
use Rattle.value_notations.specs.Wrong.{IsMisfit, IsUnknownBit, HasUnknownBit}
use Rattle.value_notations.specs.proving.Forms.{binary_in, hex_in, items_in, is_nothing}
use Rattle.value_notations.specs.proving.Bits.{AreNamedBits}

-- ---- what the notation is

pub is_binary : (n : Tree) (ds : List ℕ) → binary_in n ≡ Some ds → n ≡ binary ds
is_binary (binary es) ds e = ap binary (same_Some es ds e)
is_binary n ds e = absurd cc

pub is_hex : (n : Tree) (ds : List ℕ) → hex_in n ≡ Some ds → n ≡ hex ds
is_hex (hex es) ds e = ap hex (same_Some es ds e)
is_hex n ds e = absurd cc

pub is_items : (n : Tree) (ts : Trees) → items_in n ≡ Some ts → n ≡ items ts
is_items (items us) ts e = ap items (same_Some us ts e)
is_items n ts e = absurd cc

pub is_empty_braces : (n : Tree) → is_nothing n ≡ true → n ≡ nothing
is_empty_braces nothing e = refl
is_empty_braces n e = absurd cc

abbrev bits_named : Plain → List (Name × ℕ)
bits_named (a_bit_string bs) = bs
bits_named k = []

abbrev trees_in : Tree → Trees
trees_in (items ts) = ts
trees_in n = no_tree

module _ (bs : List (Name × ℕ)) where
  abbrev Misfit : Tree → Type 0
  Misfit n = IsMisfit (simple (a_bit_string bs)) n

  -- ---- a notation of bits

  pub binary_bits : (n : Tree) (ds : List ℕ) (s : List Bool)
      → binary_in n ≡ Some ds
      → AllBelowBase 2 ds
      → s ≡ map (λ d. d == 1) ds
      → IsLeafNotation (a_bit_string bs) n (bits s)
  binary_bits n ds s e b f =
      subst (λ (z : Tree). IsLeafNotation (a_bit_string bs) z (bits s)) (sym (is_binary n ds e)) (leaves.bit_digits b f)

  pub hex_bits : (n : Tree) (ds : List ℕ) (s : List Bool)
      → hex_in n ≡ Some ds
      → AllBelowBase 16 ds
      → s ≡ flat_map bits_of_digit ds
      → IsLeafNotation (a_bit_string bs) n (bits s)
  hex_bits n ds s e b f =
      subst (λ (z : Tree). IsLeafNotation (a_bit_string bs) z (bits s)) (sym (is_hex n ds e)) (leaves.bit_hex b f)

  pub no_bits : (n : Tree) → is_nothing n ≡ true → (bs ≡ [] → ⊥) → IsLeafNotation (a_bit_string bs) n (bits [])
  no_bits n e f =
      subst (λ (z : Tree). IsLeafNotation (a_bit_string bs) z (bits [])) (sym (is_empty_braces n e))
      (leaves.no_named_bit f)

  pub named_bits : (n : Tree) (ts : Trees) (s : List Bool)
      → items_in n ≡ Some ts
      → AreNamedBits bs ts s
      → IsLeafNotation (a_bit_string bs) n (bits s)
  named_bits n ts s e a =
      subst (λ (z : Tree). IsLeafNotation (a_bit_string bs) z (bits s)) (sym (is_items n ts e)) (leaves.named_bits a.names a.set)

  -- ---- a notation of no bits

  unknown_in : (ts : Trees) (x : Name) → HasUnknownBit (a_bit_string bs) (items ts) x → IsUnknownBit bs x ts
  unknown_in ts x u =
      subst (λ (z : List (Name × ℕ)). IsUnknownBit z x ts) (sym (ap bits_named u.is))
      (subst (λ (z : Trees). IsUnknownBit u.bits x z) (sym (ap trees_in u.in_braces)) u.unknown)

  pub unknown_at : (n : Tree) (ts : Trees) (x : Name)
      → items_in n ≡ Some ts
      → IsUnknownBit bs x ts
      → HasUnknownBit (a_bit_string bs) n x
  unknown_at n ts x e u = record { bits = bs; is = refl; names = ts; in_braces = is_items n ts e; unknown = u }

  not_binary : {ds : List ℕ} {v : AbstractValue}
      → (AllBelowBase 2 ds → ⊥)
      → IsLeafNotation (a_bit_string bs) (binary ds) v
      → ⊥
  not_binary f (leaves.bit_digits b e) = f b

  not_hex : {ds : List ℕ} {v : AbstractValue} → (AllBelowBase 16 ds → ⊥) →
      IsLeafNotation (a_bit_string bs) (hex ds) v → ⊥
  not_hex f (leaves.bit_hex b e) = f b

  not_nothing : {v : AbstractValue} → bs ≡ [] → IsLeafNotation (a_bit_string bs) nothing v → ⊥
  not_nothing e (leaves.no_named_bit f) = f e

  not_named : {ts : Trees} {v : AbstractValue}
      → ((ps : List ℕ) → AreBitNames bs ts ps → ⊥)
      → IsLeafNotation (a_bit_string bs) (items ts) v
      → ⊥
  not_named f (leaves.named_bits {places = ps} a s) = f ps a

  not_other : {n : Tree} {v : AbstractValue}
      → binary_in n ≡ None
      → hex_in n ≡ None
      → is_nothing n ≡ false
      → items_in n ≡ None
      → IsLeafNotation (a_bit_string bs) n v
      → ⊥
  not_other e f g h (leaves.bit_digits b s) = absurd cc
  not_other e f g h (leaves.bit_hex b s) = absurd cc
  not_other e f g h (leaves.no_named_bit s) = absurd cc
  not_other e f g h (leaves.named_bits a s) = absurd cc

  pub misfit_binary : (n : Tree) (ds : List ℕ) → binary_in n ≡ Some ds → (AllBelowBase 2 ds → ⊥) → Misfit n
  misfit_binary n ds e f =
      subst Misfit (sym (is_binary n ds e)) (λ v l. not_binary f l, λ x u. absurd (let g = u.in_braces in cc))

  pub misfit_hex : (n : Tree) (ds : List ℕ) → hex_in n ≡ Some ds → (AllBelowBase 16 ds → ⊥) → Misfit n
  misfit_hex n ds e f =
      subst Misfit (sym (is_hex n ds e)) (λ v l. not_hex f l, λ x u. absurd (let g = u.in_braces in cc))

  pub misfit_nothing : (n : Tree) → is_nothing n ≡ true → bs ≡ [] → Misfit n
  misfit_nothing n e f =
      subst Misfit (sym (is_empty_braces n e)) (λ v l. not_nothing f l, λ x u. absurd (let g = u.in_braces in cc))

  pub misfit_names : (n : Tree) (ts : Trees)
      → items_in n ≡ Some ts
      → ((ps : List ℕ) → AreBitNames bs ts ps → ⊥) × ((x : Name) → IsUnknownBit bs x ts → ⊥)
      → Misfit n
  misfit_names n ts e f =
      subst Misfit (sym (is_items n ts e)) (λ v l. not_named f.0 l, λ x u. f.1 x (unknown_in ts x u))

  pub misfit_other : (n : Tree)
      → binary_in n ≡ None
      → hex_in n ≡ None
      → is_nothing n ≡ false
      → items_in n ≡ None
      → Misfit n
  misfit_other n e f g h =
      (λ v l. not_other e f g h l, λ x u. absurd (let i = sym (ap items_in u.in_braces) ∙ h in cc))
