-- From value to value.
use Rattle.std.specs.Prelude.{◌≡◌, ◌↔◌, ℕ, zero, suc, ℤ, List, [], ◌∷◌, Option, Some, None, length, slice_get}
use Rattle.trees.specs.Values.{Name, Tree, reference}
use Rattle.names.specs.declared.scope.Assigned.TheVariants as assigned
use Rattle.names.specs.Names.{Refers}
use Rattle.names.specs.Sources.{Value}
use Rattle.type_table.specs.Table.{WrittenKind}
use Rattle.resolve.specs.Program.{Program}
use Rattle.range_ends.specs.Ends.{IsValueAt, DenotesNumber, direct_number}

-- the notation is a name that means value j in module M
abbrev pub MeansValue : Program → Name → Tree → ℕ → Type 0
MeansValue p M (reference q x) j = Refers p.modules M q x (assigned.Value j)
MeansValue p M n j = ⊥

-- the notation of value i is a name that means value j
pub record RefersTo (p : Program) (i j : ℕ) : Type 0 where
  pub within : Name
  pub notation : Tree
  pub at : IsValueAt p i within notation
  pub means : MeansValue p within notation j

-- the entry at index i of a list
abbrev pub listed : List (Option ℕ) → ℕ → Option ℕ
listed [] i = None
listed (o ∷ os) zero = o
listed (o ∷ os) (suc i) = listed os i

-- the list has the value that each value refers to
pub record AreReferred (p : Program) (os : List (Option ℕ)) : Type 0 where
  pub all : length os ≡ length p.values
  pub each : (i j : ℕ) → (listed os i ≡ Some j ↔ RefersTo p i j)

-- the number that value i is by itself, in a constraint on a type of kind k
abbrev pub number_by : WrittenKind → Option Value → Option ℤ
number_by k None = None
number_by k (Some v) = direct_number k v.notation

abbrev pub number_at : Program → WrittenKind → ℕ → Option ℤ
number_at p k i = number_by k (slice_get p.values i)

abbrev pub unless : Option ℤ → Option ℕ → Option ℕ
unless None o = o
unless (Some z) o = None

-- the value that value i leads to, in a constraint on a type of kind k
abbrev pub next : Program → WrittenKind → List (Option ℕ) → ℕ → Option ℕ
next p k os i = unless (number_at p k i) (listed os i)

-- value i stands for number z, in a constraint on a type of kind k
pub record ValueIs (p : Program) (k : WrittenKind) (i : ℕ) (z : ℤ) : Type 0 where
  pub within : Name
  pub notation : Tree
  pub at : IsValueAt p i within notation
  pub is_so : DenotesNumber p k within notation z
