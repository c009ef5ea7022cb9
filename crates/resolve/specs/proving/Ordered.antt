-- The places of names in the order of the names.
use Rattle.std.specs.Prelude.{◌≡◌, ◌<◌, ◌⊎◌, ℕ, ℤ, List, [], Some, length, slice_get}
use Rattle.std.specs.Cmp.Lexicographic.{slice_cmp}
use Rattle.std.specs.Ordering.{nat_cmp}
use Rattle.std.specs.declared.cmp.Ordering.TheVariants.{Less}
use Rattle.trees.specs.Values.{Name}
use Rattle.type_table.specs.declared.table.TypeNode.{TypeNode}
use Rattle.type_table.specs.Seen.{kind_of}
use Rattle.type_table.specs.Table.{WrittenKind}
use Rattle.resolve.specs.Listed.{item_numbers, listed_names}
use Rattle.resolve.specs.declared.name_index.NameIndex.{NameIndex}

-- the name at this place comes before the other one in the order of their octets
pub record ComesBefore (xs : List Name) (p q : ℕ) : Type 0 where
  pub one : Name
  pub other : Name
  pub here : slice_get xs p ≡ Some one
  pub there : slice_get xs q ≡ Some other
  pub less : slice_cmp nat_cmp one other ≡ Less

-- of the first n places in `order`, the name at each comes before those at the later ones
abbrev pub RisesTo : List Name → List ℕ → ℕ → Type 0
RisesTo xs order n = (j k p q : ℕ) →
    j < k →
    k < n →
    slice_get order j ≡ Some p →
    slice_get order k ≡ Some q →
    ComesBefore xs p q

-- these are all places of the list, each once, in the order of the names
pub record IsOrderOf (xs : List Name) (order : List ℕ) : Type 0 where
  pub inside : (k p : ℕ) → slice_get order k ≡ Some p → p < length xs
  pub whole : (p : ℕ) → p < length xs → (k : ℕ) × (slice_get order k ≡ Some p)
  pub rises : RisesTo xs order (length order)

-- the places in the order of the names, or nothing
abbrev pub IsOrder : List Name → List ℕ → Type 0
IsOrder xs order = (order ≡ []) ⊎ IsOrderOf xs order

-- the numbers of the items, or nothing
abbrev pub AreItemNumbers : WrittenKind → List ℤ → Type 0
AreItemNumbers k zs = (zs ≡ []) ⊎ (zs ≡ item_numbers k)

-- this index is right for a type of kind k
pub record IsIndexOf (k : WrittenKind) (order : List ℕ) (numbers : List ℤ) : Type 0 where
  pub in_order : IsOrder (listed_names k) order
  pub numbered : AreItemNumbers k numbers

-- each index is right for the type with its number
abbrev pub AreIndexes : List TypeNode → List NameIndex → Type 0
AreIndexes ts ns = (i : ℕ) (t : TypeNode) (n : NameIndex) →
    slice_get ts i ≡ Some t →
    slice_get ns i ≡ Some n →
    IsIndexOf (kind_of t.shape) n.order.items n.numbers.items
