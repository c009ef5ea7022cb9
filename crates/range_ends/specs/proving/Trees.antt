-- Trees of forks. A tree leads from each number to a leaf.
use Rattle.std.specs.Prelude.{◌≡◌, ◌⊎◌, ℕ, zero, suc, ◌/◌, ◌%◌, ◌==◌, List, Option, Some, slice_get, option_map, if◌then◌else◌}
use Rattle.type_table.specs.Walks.{onward}
use Rattle.range_ends.specs.declared.forks.Fork.{Fork}
use Rattle.range_ends.specs.declared.forks.Forks.{Forks}

-- where a fork leads for number n
abbrev pub branch_of : Fork → ℕ → ℕ
branch_of f n = if n % 2 == 0 then f.even else f.odd

-- the leaf to which a tree leads for number n: so many levels below fork `root`
abbrev pub leaf_below : List Fork → (levels root n : ℕ) → Option ℕ
leaf_below fs zero root n = Some root
leaf_below fs (suc l) root n =
    onward (option_map (λ f. branch_of f n) (slice_get fs root)) (λ j. leaf_below fs l j (n / 2))

abbrev pub leaf_in : Forks → (root n : ℕ) → Option ℕ
leaf_in f root n = leaf_below f.all.items f.levels root n

-- each tree leads as before
abbrev pub KeepBelow : List Fork → List Fork → Type 0
KeepBelow fs gs = (l root n u : ℕ) → leaf_below fs l root n ≡ Some u → leaf_below gs l root n ≡ Some u

abbrev pub KeepLeaves : Forks → Forks → Type 0
KeepLeaves f g = (root n u : ℕ) → leaf_in f root n ≡ Some u → leaf_in g root n ≡ Some u

-- w is the new leaf; or it is the old one, u, and n isn't the number whose leaf was changed
abbrev pub IsLeaf : (number leaf n u w : ℕ) → Type 0
IsLeaf number leaf n u w = (w ≡ leaf) ⊎ ((n ≡ number → ⊥) × (w ≡ u))

-- tree `changed` leads to `leaf` for this number, and for others where tree `root` leads, or to `leaf` too
abbrev pub IsChangedBelow : List Fork → List Fork → (levels root changed number leaf : ℕ) → Type 0
IsChangedBelow fs gs l root changed number leaf = (n u : ℕ) →
    leaf_below fs l root n ≡ Some u →
    (w : ℕ) × (leaf_below gs l changed n ≡ Some w) × IsLeaf number leaf n u w

abbrev pub IsChanged : Forks → Forks → (root changed number leaf : ℕ) → Type 0
IsChanged f g root changed number leaf = (n u : ℕ) →
    leaf_in f root n ≡ Some u →
    (w : ℕ) × (leaf_in g changed n ≡ Some w) × IsLeaf number leaf n u w
