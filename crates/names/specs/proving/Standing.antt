-- What is exported and imported, in tables of names (X.680, clause 13).
use Rattle.std.specs.Prelude.{◌≡◌, List, Some, None, ◌⊎◌}
use Rattle.trees.specs.Values.{Name}
use Rattle.names.specs.declared.fault.NameFault.{NameFault}
use Rattle.names.specs.declared.fault.NameFault.TheVariants as faults
use Rattle.names.specs.declared.scope.Assigned.{Assigned}
use Rattle.names.specs.Faults.{fault_module, fault_name}
use Rattle.names.specs.Modules.{OccursIn, IsExported}
use Rattle.names.specs.Names.{Module, under, names_of}

-- module N, one of these, assigns name x and exports it
pub record IsOffered (ss : List (Name × Module)) (N x : Name) : Type 0 where
  pub other : Module
  pub there : under N ss ≡ Some other
  pub assigned : Assigned
  pub assigns : under x other.assigned ≡ Some assigned
  pub exported : IsExported other.exports x

-- a module assigns every name that it exports
abbrev pub ExportAssigned : Module → Type 0
ExportAssigned m =
    (xs : List Name) (x : Name) → m.exports ≡ Some xs → OccursIn xs x → OccursIn (names_of m.assigned) x

-- every import is offered by the module that it is imported from
abbrev pub ImportOffered : List (Name × Module) → List (Name × Name) → Type 0
ImportOffered ss is = (N x : Name) → OccursIn is (x, N) → IsOffered ss N x

-- memory ran out, or one of these names, in module M, has no assignment
abbrev pub HasNoAssignment : Name → List Name → List (Name × Assigned) → NameFault → Type 0
HasNoAssignment M xs as' faults.Memory = Unit {0}
HasNoAssignment M xs as' (faults.UnknownName s) =
    (fault_module s ≡ M) × OccursIn xs (fault_name s) × (under (fault_name s) as' ≡ None)
HasNoAssignment M xs as' e = ⊥

-- module M exports a name that it doesn't assign, or memory ran out during the check of its exports
abbrev pub IsExportFault : Name → Module → NameFault → Type 0
IsExportFault M m e = (xs : List Name) × (m.exports ≡ Some xs) × HasNoAssignment M xs m.assigned e

-- memory ran out, or name x can't be imported into module M from module N
abbrev pub IsImportFault : List (Name × Module) → Name → Name → Name → NameFault → Type 0
IsImportFault ss M N x faults.Memory = Unit {0}
IsImportFault ss M N x (faults.UnknownModule s) = (fault_module s ≡ M) × (fault_name s ≡ N) × (under N ss ≡ None)
IsImportFault ss M N x (faults.UnknownName s) =
    (fault_module s ≡ M) × (fault_name s ≡ x) × (n : Module) × (under N ss ≡ Some n) × (under x n.assigned ≡ None)
IsImportFault ss M N x (faults.NotExported s) =
    (fault_module s ≡ M) × (fault_name s ≡ x)
    × (n : Module) × (under N ss ≡ Some n)
    × (a : Assigned) × (under x n.assigned ≡ Some a)
    × (IsExported n.exports x → ⊥)
IsImportFault ss M N x e = ⊥

-- the same of one of these imports
abbrev pub IsImportsFault : List (Name × Module) → Name → List (Name × Name) → NameFault → Type 0
IsImportsFault ss M is e = (N : Name) × (x : Name) × OccursIn is (x, N) × IsImportFault ss M N x e

-- exports are assigned, and imports are offered, in each module
abbrev pub AreExportsSound : List (Name × Module) → Type 0
AreExportsSound ss = (M : Name) (m : Module) → OccursIn ss (M, m) → ExportAssigned m × ImportOffered ss m.imports

-- exports or imports of some module are not, or memory ran out during its check
abbrev pub IsExportsFault : List (Name × Module) → NameFault → Type 0
IsExportsFault ss e =
    (M : Name) × (m : Module) × OccursIn ss (M, m) × (IsExportFault M m e ⊎ IsImportsFault ss M m.imports e)
