-- The number that an end of a range stands for (X.680, clauses 14, 19.9, 51.2 and 51.4).
use Rattle.std.specs.Prelude.{◌≡◌, ℕ, ℤ, List, Option, Some, None, slice_get}
use Rattle.trees.specs.Values.{Name, Tree, number, reference}
use Rattle.trees.specs.Constraints.{EndTree, number_end, name_end}
use Rattle.trees.specs.Types.{an_integer}
use Rattle.names.specs.declared.scope.Assigned.TheVariants as assigned
use Rattle.names.specs.Names.{Refers, under}
use Rattle.names.specs.Sources.{Value}
use Rattle.type_table.specs.Table.{Type', WrittenKind, simple, IsUnderlying}
use Rattle.resolve.specs.Program.{Program, IsAssignment}

-- type i of the table is of this kind, once its references and tags are removed
pub record IsTypeOfKind (ts : List Type') (i : ℕ) (k : WrittenKind) : Type 0 where
  -- the number of the type that its references and tags lead to
  pub core : ℕ
  pub type : Type'
  pub chain : IsUnderlying ts i core
  pub there : slice_get ts core ≡ Some type
  pub kind : type.kind ≡ k

-- value i has notation n, which is read in module M
pub record IsValueAt (p : Program) (i : ℕ) (M : Name) (n : Tree) : Type 0 where
  pub value : Value
  pub there : slice_get p.values i ≡ Some value
  pub notation : value.notation ≡ n
  -- the name that the value is assigned to, in module M
  pub assigns : Name
  pub is_so : IsAssignment p value.assignment M assigns

-- the number that a name without a module's name before it has in a type of this kind (X.680, clause 19.9)
abbrev pub named : WrittenKind → Option Name → Name → Option ℤ
named (simple (an_integer ns)) None x = under x ns
named k q x = None

-- the number that a notation is by itself, for a constrained type of kind k: a written number, or a named number of
-- that type
abbrev pub direct_number : WrittenKind → Tree → Option ℤ
direct_number k (number z) = Some z
direct_number k (reference q x) = named k q x
direct_number k n = None

-- the notation, read in module M, is a name that means value i. A named number of the type takes precedence over a
-- value.
abbrev pub Means : Program → WrittenKind → Name → Tree → ℕ → Type 0
Means p k M (reference q x) i = (named k q x ≡ None) × Refers p.modules M q x (assigned.Value i)
Means p k M n i = ⊥

-- notation n, read in module M, is notation l, read in module K, or means a value whose notation leads to l
pub data ReferencePath (p : Program) (k : WrittenKind) : (M : Name) (n : Tree) (K : Name) (l : Tree) → Type 0 where
  -- the notation itself
  there : {M : Name} {n : Tree} → ReferencePath p k M n M n
  -- a name that means value i, whose notation, read in the module of its assignment, leads to l
  onward : {M N K : Name} {n m l : Tree} (i : ℕ) →
      Means p k M n i →
      IsValueAt p i N m →
      ReferencePath p k N m K l →
      ReferencePath p k M n K l

-- Notation n, read in module M in a constraint on a type of kind k, stands for number z: it leads to a notation that is
-- the number by itself. At each step a name is first a named number of the constrained type, also where the value that
-- is named is of another type.
pub record DenotesNumber (p : Program) (k : WrittenKind) (M : Name) (n : Tree) (z : ℤ) : Type 0 where
  pub within : Name
  pub notation : Tree
  pub chain : ReferencePath p k M n within notation
  pub number_is : direct_number k notation ≡ Some z

-- the end of a range, in the form of the notation of a value
abbrev pub notation_of : EndTree → Tree
notation_of (number_end z) = number z
notation_of (name_end q x) = reference q x

-- the end of a range stands for number z
abbrev pub EndIs : Program → WrittenKind → Name → EndTree → ℤ → Type 0
EndIs p k M e z = DenotesNumber p k M (notation_of e) z

-- ---- what is wrong

-- the notation stands for no number: it leads to a notation that is no number by itself and means no value
pub record HasNoNumber (p : Program) (k : WrittenKind) (M : Name) (n : Tree) : Type 0 where
  pub nothing : (z : ℤ) → DenotesNumber p k M n z → ⊥
  pub within : Name
  pub notation : Tree
  pub chain : ReferencePath p k M n within notation
  pub no_number : direct_number k notation ≡ None
  pub no_value : (i : ℕ) → Means p k within notation i → ⊥

-- the notation of value i means value j
pub record RefersTo (p : Program) (k : WrittenKind) (i j : ℕ) : Type 0 where
  pub within : Name
  pub notation : Tree
  pub at : IsValueAt p i within notation
  pub means : Means p k within notation j

-- value i leads to value j, by one reference or more
pub data RefersFar (p : Program) (k : WrittenKind) : (i j : ℕ) → Type 0 where
  directly : {i j : ℕ} → RefersTo p k i j → RefersFar p k i j
  through : {i h : ℕ} (j : ℕ) → RefersTo p k i j → RefersFar p k j h → RefersFar p k i h

-- Value v is the first that is met a second time when references are followed from value i on: the first one that leads
-- back to itself.
pub data IsMetTwice (p : Program) (k : WrittenKind) : (i v : ℕ) → Type 0 where
  here : {i : ℕ} → RefersFar p k i i → IsMetTwice p k i i
  later : {i v : ℕ} (j : ℕ) →
      (RefersFar p k i i → ⊥) →
      RefersTo p k i j →
      IsMetTwice p k j v →
      IsMetTwice p k i v

-- the notation stands for no number: it means a value, and value v is the first that is met a second time from there on
pub record IsCircularEnd (p : Program) (k : WrittenKind) (M : Name) (n : Tree) (v : ℕ) : Type 0 where
  pub nothing : (z : ℤ) → DenotesNumber p k M n z → ⊥
  pub start : ℕ
  pub means : Means p k M n start
  pub twice : IsMetTwice p k start v
