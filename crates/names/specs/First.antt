-- Which of several faults of names is reported, and where in the text: the first one, in the order of modules. In a
-- module the fault of an export goes before that of an import (X.680, clause 13).
use Rattle.std.specs.Prelude.{◌≡◌, ◌⊎◌, ◌<◌, ◌≤◌, ◌+◌, ℕ, List, [], ◌∷◌, ◌++◌, length, Option, Some, None, String, map, option_map, slice_get, take}
use Rattle.std.specs.Global.{Global}
use Rattle.trees.specs.declared.location.At.{At}
use Rattle.trees.specs.declared.location.SourceLocation.{SourceLocation}
use Rattle.trees.specs.declared.module.Assignment.{Assignment}
use Rattle.trees.specs.declared.module.Assignment.TheVariants as givens
use Rattle.trees.specs.declared.module.Import.{Import}
use Rattle.trees.specs.declared.module.Module.{Module as ModuleSyntax}
use Rattle.trees.specs.Modules.{ModuleTree, assignment_tree_of, module_tree_of}
use Rattle.trees.specs.Values.{Name, name_at}
use Rattle.names.specs.declared.fault.Limit.{Limit}
use Rattle.names.specs.declared.fault.Limit.TheVariants as limits
use Rattle.names.specs.declared.fault.NameFault.{NameFault}
use Rattle.names.specs.declared.fault.NameFault.TheVariants as faults
use Rattle.names.specs.declared.scope.Assigned.{Assigned}
use Rattle.names.specs.Faults.{fault_module, fault_name}
use Rattle.names.specs.Modules.{AreDifferent, OccursIn, all_assignments, name_of, names_in, type_count, value_count}
use Rattle.names.specs.Names.{Module, names_of}
use Rattle.names.specs.Scopes.{ImportSpot, Spots}
use Rattle.names.specs.proving.Standing.{ExportAssigned, ImportOffered, IsOffered, IsImportFault}

-- Twice has this offset
abbrev pub IsTwiceAt : ℕ → NameFault → Type 0
IsTwiceAt n faults.Memory = Unit {0}
IsTwiceAt n (faults.Twice s) = s.at ≡ n
IsTwiceAt n e = ⊥

-- the offset of an assignment's name
abbrev pub name_place : Assignment → ℕ
name_place (givens.Type a) = a.name.at
name_place (givens.Value a) = a.name.at

-- ---- limits

-- An assignment after t types and v values is the first that passes limit l. It is a type after 4,096 others, or a
-- value after 65,536 others. Before it neither limit is passed.
abbrev pub IsOneTooMany : Limit → (t v : ℕ) → Assignment → Type 0
IsOneTooMany limits.Types t v (givens.Type a) = (t ≡ 4096) × (v ≤ 65536)
IsOneTooMany limits.Values t v (givens.Value a) = (t ≤ 4096) × (v ≡ 65536)
IsOneTooMany l t v g = ⊥

-- One of these assignments is the first that passes limit l, where t types and v values come before them all. The name
-- and the offset are those of this assignment.
pub record IsPastIn (l : Limit) (t v : ℕ) (gs : List Assignment) (s : SourceLocation) : Type 0 where
  pub number : ℕ
  pub given : Assignment
  pub there : slice_get gs number ≡ Some given
  pub passes :
      IsOneTooMany l (t + type_count (map assignment_tree_of (take number gs)))
      (v + value_count (map assignment_tree_of (take number gs))) given
  pub named : fault_name s ≡ name_of (assignment_tree_of given)
  pub reported : s.at ≡ name_place given

-- An assignment of these modules is the first that passes limit l. The fault has its module, its name and its offset.
pub record IsPastAt (l : Limit) (ws : List ModuleSyntax) (s : SourceLocation) : Type 0 where
  pub number : ℕ
  pub written : ModuleSyntax
  pub there : slice_get ws number ≡ Some written
  pub within : fault_module s ≡ name_at written.name
  pub here :
      IsPastIn l (type_count (all_assignments (map module_tree_of (take number ws))))
      (value_count (all_assignments (map module_tree_of (take number ws)))) written.assignments.items s

-- Limit is that of the first of these assignments that passes one, in module M; t types and v values come before these
abbrev pub IsLimitIn : (t v : ℕ) → Name → List Assignment → NameFault → Type 0
IsLimitIn t v M gs faults.Memory = Unit {0}
IsLimitIn t v M gs (faults.Limit l s) = (fault_module s ≡ M) × IsPastIn l t v gs s
IsLimitIn t v M gs e = ⊥

-- a module comes after 256 others; the fault has its name, as the module and as the name, and the offset of that name
abbrev pub IsModulePast : List ModuleSyntax → SourceLocation → Type 0
IsModulePast ws s = (m : ModuleSyntax)
    × (slice_get ws 256 ≡ Some m)
    × (fault_module s ≡ name_at m.name)
    × (fault_name s ≡ name_at m.name)
    × (s.at ≡ m.name.at)

-- Limit is the first that is passed, with the module, name and offset of the place: that of modules, or otherwise that
-- of the first assignment that passes one
abbrev pub IsPassedLimitAt : List ModuleSyntax → NameFault → Type 0
IsPassedLimitAt ws faults.Memory = Unit {0}
IsPassedLimitAt ws (faults.Limit limits.Modules s) = IsModulePast ws s
IsPassedLimitAt ws (faults.Limit limits.Types s) = (length ws ≤ 256) × IsPastAt limits.Types ws s
IsPassedLimitAt ws (faults.Limit limits.Values s) = (length ws ≤ 256) × IsPastAt limits.Values ws s
IsPassedLimitAt ws e = ⊥

-- ---- names that are given twice

-- a name with its offset, without its place in memory
abbrev pub name_spot : At (String Global) → Name × ℕ
name_spot n = (name_at n, n.at)

-- the names that are assigned, each with its offset
abbrev pub assigned_spots : List Assignment → List (Name × ℕ)
assigned_spots gs = map (λ g. (name_of (assignment_tree_of g), name_place g)) gs

-- the names that are imported, each with its offset
abbrev pub import_spots : List Import → List (Name × ℕ)
import_spots [] = []
import_spots (i ∷ is) = map name_spot i.names.items ++ import_spots is

-- The offset that is reported for name x, which is number k of the assigned names and the imported ones after them. It
-- is x's own; but for an imported name that is assigned too, it is that of the assignment, since assignments come after
-- imports in the text.
pub data IsSpotOf (as' : List (Name × ℕ)) (k : ℕ) (x : Name) (own at : ℕ) : Type 0 where
  itself : (length as' ≤ k → OccursIn (names_of as') x → ⊥) → at ≡ own → IsSpotOf as' k x own at
  of_assignment : length as' ≤ k → OccursIn as' (x, at) → IsSpotOf as' k x own at

-- x is the first of these names, assigned and then imported ones, that is also before its place; this is its offset
pub record IsAgain (as' is : List (Name × ℕ)) (x : Name) (at : ℕ) : Type 0 where
  pub number : ℕ
  pub own : ℕ
  pub there : slice_get (as' ++ is) number ≡ Some (x, own)
  pub again : OccursIn (names_of (take number (as' ++ is))) x
  pub before : AreDifferent (names_of (take number (as' ++ is)))
  pub reported : IsSpotOf as' number x own at

-- The fault has the first name that is given twice in these modules, and its offset. The modules before this one have
-- distinct names, and so have their assignments and imports. The name of the module goes before its assignments, and
-- these before its imports.
pub record IsFirstSpot (ws : List ModuleSyntax) (s : SourceLocation) : Type 0 where
  pub number : ℕ
  pub written : ModuleSyntax
  pub there : slice_get ws number ≡ Some written
  pub named : fault_module s ≡ name_at written.name
  pub modules : AreDifferent (map (λ (m : ModuleTree). m.name) (map module_tree_of (take number ws)))
  pub names : (m : ModuleTree) → OccursIn (map module_tree_of (take number ws)) m → AreDifferent (names_in m)
  pub first :
      ((fault_name s ≡ fault_module s)
      × OccursIn (map (λ (m : ModuleTree). m.name) (map module_tree_of (take number ws))) (fault_module s)
      × (s.at ≡ written.name.at))
      ⊎ ((OccursIn (map (λ (m : ModuleTree). m.name) (map module_tree_of (take number ws))) (fault_module s) → ⊥)
      × IsAgain (assigned_spots written.assignments.items) (import_spots written.imports.items) (fault_name s) s.at)

-- Twice has the first name that is given twice in these modules, and its offset; `Memory` says nothing
abbrev pub IsTwiceOf : List ModuleSyntax → NameFault → Type 0
IsTwiceOf ws faults.Memory = Unit {0}
IsTwiceOf ws (faults.Twice s) = IsFirstSpot ws s
IsTwiceOf ws e = ⊥

-- ---- exports and imports as they are written

-- a name that is imported from this module, with the offsets of the name and of the module's name after FROM
abbrev pub import_spot : At (String Global) → At (String Global) → Name × ImportSpot
import_spot from n = (name_at n, record { own = n.at; other = name_at from; from = from.at })

-- the names that are imported, in order, with their offsets and modules
abbrev pub written_imports : List Import → List (Name × ImportSpot)
written_imports [] = []
written_imports (i ∷ is) = map (import_spot i.module) i.names.items ++ written_imports is

-- the exports and imports of a module, with their offsets
abbrev pub written_spots : ModuleSyntax → Spots
written_spots m = record {
  exports = option_map (λ xs. map name_spot xs.items) m.exports;
  imports = written_imports m.imports.items;
}

-- the names of these modules, with the offsets of their exports and imports
abbrev pub all_written : List ModuleSyntax → List (Name × Spots)
all_written ws = map (λ m. (name_at m.name, written_spots m)) ws

-- ---- exports

-- the fault has the first of these names without an assignment, which module M exports, and its offset
pub record IsFirstLost
    (M : Name) (ns : List (Name × ℕ)) (as' : List (Name × Assigned)) (s : SourceLocation) : Type 0 where
  pub number : ℕ
  pub there : slice_get ns number ≡ Some (fault_name s, s.at)
  pub within : fault_module s ≡ M
  pub lost : OccursIn (names_of as') (fault_name s) → ⊥
  pub before : (k : ℕ) (x : Name) → k < number → slice_get (names_of ns) k ≡ Some x → OccursIn (names_of as') x

-- UnknownName has the first of these names without an assignment, which module M exports; `Memory` says nothing
abbrev pub ReportsUnknown : Name → List (Name × ℕ) → List (Name × Assigned) → NameFault → Type 0
ReportsUnknown M ns as' faults.Memory = Unit {0}
ReportsUnknown M ns as' (faults.UnknownName s) = IsFirstLost M ns as' s
ReportsUnknown M ns as' e = ⊥

-- the same of the exports of module M, if it has a list of them
abbrev pub IsFirstExport : Name → Option (List (Name × ℕ)) → List (Name × Assigned) → NameFault → Type 0
IsFirstExport M None as' e = ⊥
IsFirstExport M (Some ns) as' e = ReportsUnknown M ns as' e

-- ---- imports

-- UnknownModule has the second offset, that of the module's name after FROM. A fault of an imported name has the first
-- one, that of the name.
abbrev pub IsImportAt : (own from : ℕ) → NameFault → Type 0
IsImportAt own from faults.Memory = Unit {0}
IsImportAt own from (faults.UnknownModule s) = s.at ≡ from
IsImportAt own from (faults.UnknownName s) = s.at ≡ own
IsImportAt own from (faults.NotExported s) = s.at ≡ own
IsImportAt own from e = ⊥

-- the fault has the first import of module M that isn't offered, and its offset
pub record IsFirstImport
    (ss : List (Name × Module)) (M : Name) (is : List (Name × ImportSpot)) (e : NameFault) : Type 0 where
  pub number : ℕ
  pub name : Name
  pub spot : ImportSpot
  pub there : slice_get is number ≡ Some (name, spot)
  pub fault : IsImportFault ss M spot.other name e
  pub at : IsImportAt spot.own spot.from e
  pub before : (k : ℕ) (i : Name × ImportSpot) → k < number → slice_get is k ≡ Some i → IsOffered ss i.1.other i.0

-- ---- modules

-- a fault of an export of this module comes first; that of an import comes if all exports are assigned
abbrev pub IsFirstOf : List (Name × Module) → Name → Module → Spots → NameFault → Type 0
IsFirstOf ss M m w e =
    IsFirstExport M w.exports m.assigned e ⊎ (ExportAssigned m × IsFirstImport ss M w.imports e)

-- The fault is that of the first module with an unassigned export or with an import that isn't offered. The modules ss
-- have their exports and imports at the offsets in ws.
pub record IsFirstExports (ss : List (Name × Module)) (ws : List (Name × Spots)) (e : NameFault) : Type 0 where
  pub number : ℕ
  pub name : Name
  pub scope : Module
  pub spots : Spots
  pub there : slice_get ss number ≡ Some (name, scope)
  pub written : slice_get ws number ≡ Some (name, spots)
  pub fault : IsFirstOf ss name scope spots e
  pub before : (k : ℕ) (m : Name × Module) → k < number → slice_get ss k ≡ Some m →
      ExportAssigned m.1 × ImportOffered ss m.1.imports
