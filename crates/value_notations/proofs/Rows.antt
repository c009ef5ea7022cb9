-- Worked rows: notations of single values, and components that may be absent.
use Rattle.std.proofs.Common.{◌≡◌, ◌≤◌, ◌∙◌, ℕ, List, [], ◌∷◌, arith, refl, subst, sym}
use Rattle.std.specs.Prelude.{ℤ}
use Rattle.asn_base.specs.Abstract.{AbstractValue, bits}
use Rattle.asn_base.specs.Typed.{nodes}
use Rattle.trees.specs.declared.types.Standing.TheVariants.{Root}
use Rattle.trees.specs.Types.{a_bit_string, default}
use Rattle.trees.specs.Values.{Name, Tree, nothing}
use Rattle.type_table.specs.Table.{Part}
use Rattle.resolve.specs.Program.{Program}
use Rattle.value_notations.specs.Leaves.{IsLeafNotation, no_named_bit}
use Rattle.value_notations.specs.Notations.{Notation}
use Rattle.value_notations.specs.Values.{MayLackValue, NotatedValueIn, where_addition, where_default, where_optional}
use Rattle.value_notations.proofs.SameValue.{IsKept, one_notation}

-- the name a
abbrev name : List ℕ
name = 97 ∷ []

-- {} is a value of BIT STRING {a(0)}, which has one named bit: no bit is set
braces_of_one_named_bit : IsLeafNotation (a_bit_string ((name, 0) ∷ [])) nothing (bits [])
braces_of_one_named_bit = no_named_bit (λ e. absurd cc)

-- it isn't the notation of a BIT STRING without named bits
braces_without_named_bits : IsLeafNotation (a_bit_string []) nothing (bits []) → ⊥
braces_without_named_bits (no_named_bit f) = f refl

-- a component of the root whose DEFAULT stands for v
module _ (p : Program) (Allows : ℕ → ℤ → Type 0) (AllowsCode : ℕ → ℕ → Type 0) (kept : IsKept p) (n : ℕ) (M : Name)
    (c : Part) (d : Tree) (v : AbstractValue) (root : c.standing ≡ Root) (has : c.presence ≡ default d)
    (is_so : Notation p [] M c.ty d v) where
  -- it may be absent if v is a value of its type with at most 2^24 nodes
  few_nodes_in_default : NotatedValueIn p Allows AllowsCode n c.ty v → nodes v ≤ 16777216 →
      MayLackValue p Allows AllowsCode n M c
  few_nodes_in_default h l = where_default root has is_so h l

  -- it may not if v has a node more
  too_many_nodes_in_default : 16777217 ≤ nodes v → MayLackValue p Allows AllowsCode n M c → ⊥
  too_many_nodes_in_default l (where_optional e) = absurd (let x = sym e ∙ has in cc)
  too_many_nodes_in_default l (where_addition e) = absurd (let x = sym e ∙ root in cc)
  too_many_nodes_in_default l (where_default {d = b} {v = w} e f h a few) =
      let same : b ≡ d = let x = sym f ∙ has in cc in
      let one = one_notation kept (subst (λ (t : Tree). Notation p [] M c.ty t w) same h) is_so in
      let most = subst (λ (z : AbstractValue). nodes z ≤ 16777216) one few in
      absurd (omega (arith, most, l))
