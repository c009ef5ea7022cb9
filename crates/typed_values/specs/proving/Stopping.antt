-- Where chains of names end under a type, and how they grow.
use Rattle.std.specs.Prelude.{◌≡◌, ◌⊎◌, ◌≤◌, ◌<◌, ℕ, List, ◌∷◌, ◌++◌, None, Some, slice_get}
use Rattle.trees.specs.Values.{Name, Tree, reference}
use Rattle.type_table.specs.Table.{WrittenKind}
use Rattle.resolve.specs.Program.{Program}
use Rattle.range_ends.specs.Ends.{IsValueAt}
use Rattle.value_notations.specs.declared.references.Next.{Next}
use Rattle.value_notations.specs.proving.Next.{ReportsNext}
use Rattle.value_notations.specs.References.{IsOwn}
use Rattle.typed_values.specs.Chains.{Has, IsBare, IsLeft, IsOver, IsWay, number_of}
use Rattle.typed_values.specs.declared.chains.NameChain.{NameChain}
use Rattle.typed_values.specs.declared.chains.NameChains.{NameChains}
use Rattle.typed_values.specs.declared.chains.Stop.{Stop}
use Rattle.typed_values.specs.declared.stops.Branch.{Branch}
use Rattle.typed_values.specs.declared.stops.Stops.{Stops}

-- what the notation of value assignment `number` leads to under a type of kind k
pub record LeadsFrom (p : Program) (k : WrittenKind) (os : List ℕ) (number : ℕ) (next : Next) : Type 0 where
  pub within : Name
  pub notation : Tree
  pub there : IsValueAt p number within notation
  pub reports : ReportsNext p k os within notation next

-- the notation of value assignment `number` is no name of a value under a type of kind k
pub record IsLastUnder (p : Program) (k : WrittenKind) (number : ℕ) : Type 0 where
  pub within : Name
  pub notation : Tree
  pub there : IsValueAt p number within notation
  pub own : IsOwn k notation

-- each of these value assignments whose notation is name x has at most as many left as s
abbrev pub AreNoNearer : Program → List ℕ → Name → Stop → Type 0
AreNoNearer p is x s = (d y : ℕ) → IsLeft is d y → IsBare p y x → d ≤ s.count

-- s is among these value assignments, and as near as another one
pub record IsAsNear (is : List ℕ) (best s : Stop) : Type 0 where
  pub on : IsLeft is s.count s.number
  pub near : best.count ≤ s.count

-- s is the nearest one of `best` and of the value assignments whose notations are these names
pub record IsNearest (p : Program) (is : List ℕ) (best : Stop) (names : Name → Type 0) (s : Stop) : Type 0 where
  pub as_near : IsAsNear is best s
  pub none : (x : Name) → names x → AreNoNearer p is x s

-- the same wherever chain c leads
abbrev pub FindsNearest : NameChains → NameChain → (best : Stop) → (names : Name → Type 0) → Stop → Type 0
FindsNearest t c best names s = (p : Program) (turns is : List ℕ) →
    IsOver p turns t is c →
    IsLeft is best.count best.number →
    IsNearest p is best names s

-- The same of the names of the first i things in a list.
pub record AreSeen {A : Type 0} (name : A → Name) (t : NameChains) (c : NameChain) (first : Stop) (xs : List A) (i : ℕ)
    (best : Stop) : Type 0 where
  pub as_near : (p : Program) (turns is : List ℕ) →
      IsOver p turns t is c →
      IsLeft is first.count first.number →
      IsAsNear is first best
  pub none : (p : Program) (turns is : List ℕ) →
      IsOver p turns t is c →
      IsLeft is first.count first.number →
      (j : ℕ) (x : A) → j < i → slice_get xs j ≡ Some x → AreNoNearer p is (name x) best

-- from value assignment `number` on, names lead over one value assignment more than those that chain `rest` leads over
pub record GoesOnBy (p : Program) (turns : List ℕ) (t : NameChains) (number : ℕ) (rest : NameChain) : Type 0 where
  pub way : List ℕ
  pub goes : IsWay p (number ∷ way)
  pub last : IsLeft (number ∷ way) 1 rest.end
  pub over : IsOver p turns t way rest

-- branches were added, and names got numbers
pub record HasMore (before after : Stops) : Type 0 where
  pub branches : (bs : List Branch) × (after.branches.items ≡ before.branches.items ++ bs)
  pub numbers : (x : Name) (i : ℕ) → number_of before x ≡ Some i → number_of after x ≡ Some i
  pub height : after.height ≡ before.height

-- one tree has a value for number x, and for the others what another tree has, or the value too
pub record IsPut (before after : List Branch) (height tree x value new : ℕ) : Type 0 where
  pub it : Has after height new x value
  pub others : (z y : ℕ) → Has before height tree z y → Has after height new z y ⊎ Has after height new z value

-- one tree has a value for a notation if that is a name, and for the others what another tree has, or the value too
pub record IsNoted (before after : Stops) (tree : ℕ) (n : Tree) (value new : ℕ) : Type 0 where
  pub it : (x : Name) → n ≡ reference None x →
      (i : ℕ) × (number_of after x ≡ Some i) × Has after.branches.items after.height new i value
  pub others : (z y : ℕ) → Has before.branches.items before.height tree z y →
      Has after.branches.items after.height new z y ⊎ Has after.branches.items after.height new z value
