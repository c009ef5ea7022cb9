-- What faults of names say: the module and the name in them (X.680, clauses 13 and 16). `First` says where in the text
-- they are.
use Rattle.std.specs.Prelude.{◌≡◌, ◌<◌, ◌+◌, ℕ, List, Some, string_bytes, slice_get, take, ◌⊎◌, ◌++◌, [], ◌∷◌, map}
use Rattle.trees.specs.declared.location.SourceLocation.{SourceLocation}
use Rattle.trees.specs.Values.{Name}
use Rattle.trees.specs.Modules.{AssignmentTree, ModuleTree}
use Rattle.names.specs.declared.fault.NameFault.{NameFault}
use Rattle.names.specs.declared.fault.NameFault.TheVariants as faults
use Rattle.names.specs.declared.fault.Limit.TheVariants as limits
use Rattle.names.specs.Modules.{AreDifferent, OccursIn, OccursTwice, name_of, assigned_names, names_in, IsExported, Imports, type_count, value_count, all_assignments}

-- the name of the module in a fault
abbrev pub fault_module : SourceLocation → Name
fault_module s = string_bytes s.module

-- the name in a fault
abbrev pub fault_name : SourceLocation → Name
fault_name s = string_bytes s.name

-- name x is the first of these that is also before its place
pub record IsFirstAgain (xs : List Name) (x : Name) : Type 0 where
  pub number : ℕ
  pub there : slice_get xs number ≡ Some x
  pub again : OccursIn (take number xs) x
  pub before : AreDifferent (take number xs)

-- Name x of module M is the first one that is given twice. The modules before this one have distinct names, and so have
-- their assignments and imports. The name of the module goes before its assignments, and these before its imports.
pub record IsFirstTwice (ms : List ModuleTree) (M x : Name) : Type 0 where
  pub number : ℕ
  pub tree : ModuleTree
  pub there : slice_get ms number ≡ Some tree
  pub named : M ≡ tree.name
  pub modules : AreDifferent (map (λ m. m.name) (take number ms))
  pub names : (k : ℕ) (m : ModuleTree) → k < number → slice_get ms k ≡ Some m → AreDifferent (names_in m)
  pub first :
      ((x ≡ M) × OccursIn (map (λ m. m.name) (take number ms)) M)
      ⊎ ((OccursIn (map (λ m. m.name) (take number ms)) M → ⊥) × IsFirstAgain (names_in tree) x)

-- name x has two meanings in module M
pub record IsNamedTwice (ms : List ModuleTree) (M x : Name) : Type 0 where
  pub number : ℕ
  pub tree : ModuleTree
  pub there : slice_get ms number ≡ Some tree
  pub named : tree.name ≡ M
  pub twice : OccursTwice (names_in tree) x

-- module M is the one after 256 others; the fault has its name as the module and as the name
pub record IsPastModules (ms : List ModuleTree) (M x : Name) : Type 0 where
  pub tree : ModuleTree
  pub there : slice_get ms 256 ≡ Some tree
  pub named : tree.name ≡ M
  pub same : x ≡ M

-- the assignment of name x among gs is one of what is counted, and n of these come before it; k of the n come before gs
pub record IsPastHere (count : List AssignmentTree → ℕ) (n k : ℕ) (gs : List AssignmentTree) (x : Name) : Type 0 where
  pub before : List AssignmentTree
  pub given : AssignmentTree
  pub after : List AssignmentTree
  pub splits : before ++ given ∷ after ≡ gs
  pub assigns : name_of given ≡ x
  pub full : k + count before ≡ n
  pub counted : count (given ∷ []) ≡ 1

-- the assignment of name x in module M is one of what is counted, and n of these come before it
pub record IsPast (count : List AssignmentTree → ℕ) (n : ℕ) (ms : List ModuleTree) (M x : Name) : Type 0 where
  pub before : List ModuleTree
  pub tree : ModuleTree
  pub after : List ModuleTree
  pub splits : before ++ tree ∷ after ≡ ms
  pub named : tree.name ≡ M
  pub here : IsPastHere count n (count (all_assignments before)) tree.assignments x

-- module M exports name x, which it doesn't assign
pub record ExportsNothing (ms : List ModuleTree) (M x : Name) : Type 0 where
  pub tree : ModuleTree
  pub there : OccursIn ms tree
  pub named : tree.name ≡ M
  pub names : List Name
  pub list : tree.exports ≡ Some names
  pub listed : OccursIn names x
  pub unassigned : OccursIn (assigned_names tree) x → ⊥

-- module M imports name x from a module for which Q is true
pub record ImportsFrom (ms : List ModuleTree) (M x : Name) (Q : ModuleTree → Type 0) : Type 0 where
  pub tree : ModuleTree
  pub there : OccursIn ms tree
  pub named : tree.name ≡ M
  pub other : ModuleTree
  pub given : OccursIn ms other
  pub imports : Imports tree other.name x
  pub such : Q other

-- module M imports from N, and no module has this name
pub record ImportsNowhere (ms : List ModuleTree) (M N : Name) : Type 0 where
  pub tree : ModuleTree
  pub there : OccursIn ms tree
  pub named : tree.name ≡ M
  pub name : Name
  pub imports : Imports tree N name
  pub nowhere : OccursIn (map (λ m. m.name) ms) N → ⊥

-- two modules have the name x, which the fault has for M too, or x has two meanings in module M
abbrev pub IsGivenTwice : List ModuleTree → Name → Name → Type 0
IsGivenTwice ms M x = ((M ≡ x) × OccursTwice (map (λ m. m.name) ms) x) ⊎ IsNamedTwice ms M x

-- module M exports name x without assigning it, or imports it from a module that doesn't assign it
abbrev pub IsUnassigned : List ModuleTree → Name → Name → Type 0
IsUnassigned ms M x = ExportsNothing ms M x ⊎ ImportsFrom ms M x (λ m. OccursIn (assigned_names m) x → ⊥)

-- module M imports name x from a module that assigns it and doesn't export it
abbrev pub IsKeptBack : List ModuleTree → Name → Name → Type 0
IsKeptBack ms M x = ImportsFrom ms M x (λ m. OccursIn (assigned_names m) x × (IsExported m.exports x → ⊥))

-- why the names of modules have no meaning, or more than one
abbrev pub IsNamesFault : List ModuleTree → NameFault → Type 0
IsNamesFault ms (faults.Twice s) = IsGivenTwice ms (fault_module s) (fault_name s)
IsNamesFault ms (faults.UnknownName s) = IsUnassigned ms (fault_module s) (fault_name s)
IsNamesFault ms (faults.NotExported s) = IsKeptBack ms (fault_module s) (fault_name s)
IsNamesFault ms (faults.UnknownModule s) = ImportsNowhere ms (fault_module s) (fault_name s)
IsNamesFault ms (faults.Limit limits.Modules s) = IsPastModules ms (fault_module s) (fault_name s)
IsNamesFault ms (faults.Limit limits.Types s) = IsPast type_count 4096 ms (fault_module s) (fault_name s)
IsNamesFault ms (faults.Limit limits.Values s) = IsPast value_count 65536 ms (fault_module s) (fault_name s)
IsNamesFault ms e = ⊥

-- ---- two reports

-- two reports have the same module, name and offset
abbrev pub IsSameLocation : SourceLocation → SourceLocation → Type 0
IsSameLocation s t = (fault_module s ≡ fault_module t) × (fault_name s ≡ fault_name t) × (s.at ≡ t.at)

-- two faults say the same; `Memory` says nothing
abbrev pub ReportsAlike : NameFault → NameFault → Type 0
ReportsAlike faults.Memory f = Unit {0}
ReportsAlike e faults.Memory = Unit {0}
ReportsAlike (faults.Limit l s) (faults.Limit k t) = (l ≡ k) × IsSameLocation s t
ReportsAlike (faults.Twice s) (faults.Twice t) = IsSameLocation s t
ReportsAlike (faults.UnknownName s) (faults.UnknownName t) = IsSameLocation s t
ReportsAlike (faults.NotExported s) (faults.NotExported t) = IsSameLocation s t
ReportsAlike (faults.Circular s) (faults.Circular t) = IsSameLocation s t
ReportsAlike (faults.UnknownModule s) (faults.UnknownModule t) = IsSameLocation s t
ReportsAlike e f = ⊥
