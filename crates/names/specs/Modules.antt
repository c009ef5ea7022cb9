-- Modules in their notation: the names that they assign, export and import (X.680, clauses 13.1 to 13.16).
use Rattle.std.specs.Prelude.{◌≡◌, ◌<◌, ◌≤◌, ℕ, suc, List, [], ◌∷◌, ◌++◌, Option, Some, None, map, length, slice_get}
use Rattle.trees.specs.Values.{Name}
use Rattle.trees.specs.Modules.{AssignmentTree, assigns_type, assigns_value, ImportTree, ModuleTree}

-- x is in the list, at some place
abbrev pub OccursIn : {A : Type 0} → List A → A → Type 0
OccursIn xs x = (i : ℕ) × (slice_get xs i ≡ Some x)

-- x is at two places of the list
pub record OccursTwice {A : Type 0} (xs : List A) (x : A) : Type 0 where
  pub first : ℕ
  pub second : ℕ
  pub apart : first < second
  pub here : slice_get xs first ≡ Some x
  pub there : slice_get xs second ≡ Some x

-- the elements of the list are distinct: none is at two places of it
abbrev pub AreDifferent : {A : Type 0} → List A → Type 0
AreDifferent {A} xs = (x : A) → OccursTwice xs x → ⊥

-- the name that a type or a value is assigned to (X.680, clause 16)
abbrev pub name_of : AssignmentTree → Name
name_of (assigns_type x t) = x
name_of (assigns_value x t v) = x

-- names with the module that they are imported from
abbrev pub imports_of : List ImportTree → List (Name × Name)
imports_of [] = []
imports_of (i ∷ is) = map (λ x. (x, i.from)) i.names ++ imports_of is

-- the names that a module assigns
abbrev pub assigned_names : ModuleTree → List Name
assigned_names m = map name_of m.assignments

-- the names that a module imports
abbrev pub imported_names : ModuleTree → List Name
imported_names m = map (λ p. p.0) (imports_of m.imports)

-- all names that have a meaning in a module: those that it assigns, and those that it imports
abbrev pub names_in : ModuleTree → List Name
names_in m = assigned_names m ++ imported_names m

-- other modules may import name x from a module with these exports; None exports every name
abbrev pub IsExported : Option (List Name) → Name → Type 0
IsExported None x = Unit {0}
IsExported (Some xs) x = OccursIn xs x

-- the module imports name x from module N
abbrev pub Imports : ModuleTree → Name → Name → Type 0
Imports m N x = OccursIn (imports_of m.imports) (x, N)

-- one of the modules has this name, assigns x and exports it
pub record Offers (ms : List ModuleTree) (N x : Name) : Type 0 where
  pub tree : ModuleTree
  pub there : OccursIn ms tree
  pub named : tree.name ≡ N
  pub assigns : OccursIn (assigned_names tree) x
  pub exported : IsExported tree.exports x

-- in these modules each name has one meaning at most, and an exported or imported name has one (X.680, clause 13)
pub record AreNamed (ms : List ModuleTree) : Type 0 where
  -- the modules' names are distinct
  pub modules : AreDifferent (map (λ m. m.name) ms)
  -- a name is assigned once in a module, or else imported once
  pub names : (m : ModuleTree) → OccursIn ms m → AreDifferent (names_in m)
  -- a module assigns each name that it exports
  pub exports : (m : ModuleTree) (xs : List Name) (x : Name) →
      OccursIn ms m →
      m.exports ≡ Some xs →
      OccursIn xs x →
      OccursIn (assigned_names m) x
  -- each name that a module imports is assigned and exported by the other module
  pub imports : (m : ModuleTree) (N x : Name) → OccursIn ms m → Imports m N x → Offers ms N x

-- how many of these assignments are of types
abbrev pub type_count : List AssignmentTree → ℕ
type_count [] = 0
type_count (assigns_type x t ∷ gs) = suc (type_count gs)
type_count (assigns_value x t v ∷ gs) = type_count gs

-- how many of these assignments are of values
abbrev pub value_count : List AssignmentTree → ℕ
value_count [] = 0
value_count (assigns_type x t ∷ gs) = value_count gs
value_count (assigns_value x t v ∷ gs) = suc (value_count gs)

-- the assignments of all modules, in order
abbrev pub all_assignments : List ModuleTree → List AssignmentTree
all_assignments [] = []
all_assignments (m ∷ ms) = m.assignments ++ all_assignments ms

-- the modules, and the types and values that they assign, are no more than the limits allow (own rule)
pub record AreFew (ms : List ModuleTree) : Type 0 where
  pub modules : length ms ≤ 256
  pub types : type_count (all_assignments ms) ≤ 4096
  pub values : value_count (all_assignments ms) ≤ 65536
