-- Modules whose names, types and values are gathered, and what can be wrong with names in them.
use Rattle.std.specs.Prelude.{◌≡◌, ℕ, List, ◌++◌, Some, String, map, length}
use Rattle.std.specs.Global.{Global}
use Rattle.trees.specs.declared.location.At.{At}
use Rattle.trees.specs.Values.{Name}
use Rattle.trees.specs.declared.module.Assignment.{Assignment}
use Rattle.trees.specs.declared.module.Module.{Module as ModuleSyntax}
use Rattle.trees.specs.declared.module.TagDefault.{TagDefault}
use Rattle.trees.specs.declared.types.TypeSyntax.{TypeSyntax}
use Rattle.trees.specs.declared.value.ValueSyntax.{ValueSyntax}
use Rattle.trees.specs.Modules.{AssignmentTree, ModuleTree}
use Rattle.names.specs.declared.fault.NameFault.{NameFault}
use Rattle.names.specs.declared.fault.NameFault.TheVariants as faults
use Rattle.names.specs.declared.gather.Tables.{Tables}
use Rattle.names.specs.declared.gather.ModuleTables.{ModuleTables}
use Rattle.names.specs.declared.scope.Assigned.{Assigned}
use Rattle.names.specs.declared.scope.Origin.{Origin}
use Rattle.names.specs.declared.sources.AssignedAt.{AssignedAt}
use Rattle.names.specs.declared.sources.Source.{Source as SourceAt}
use Rattle.names.specs.declared.sources.ValueAt.{ValueAt}
use Rattle.names.specs.ByNumber.{named_from, roots_from, values_from, owned_by, scopes_from, headers_of, owned_from, roots_of, values_of}
use Rattle.names.specs.Faults.{IsFirstAgain, IsFirstTwice, IsNamesFault, fault_module, fault_name}
use Rattle.names.specs.Modules.{OccursIn, AreDifferent, names_in}
use Rattle.names.specs.Names.{Module, under, names_of}
use Rattle.names.specs.First.{IsAgain, all_written, name_place}
use Rattle.names.specs.Scopes.{all_spots, meanings, scopes, seen}
use Rattle.names.specs.Sources.{Source, Value, assignment_of, header_of, sources_of, value_seen}
use Rattle.names.specs.Written.{assigned_type, assigned_values, written_places, written_types, written_values}

-- the names of assignments that come after those of the tables
abbrev pub named_next : Tables → List AssignmentTree → List (Name × Assigned)
named_next t gs = named_from (length t.assignments.items) (length t.values.items) gs

-- the names that are assigned and those that are imported
abbrev pub named_by : List (String Global × At Assigned) → List (Name × Name) → List Name
named_by as' is = names_of (meanings as') ++ names_of is

-- old tables, and new ones that have the assignments of module k besides
pub record Adds (k : ℕ) (gs : List AssignmentTree) (old new : Tables) : Type 0 where
  pub owned : map assignment_of new.assignments.items ≡ map assignment_of old.assignments.items ++ owned_by k gs
  pub roots : sources_of new.roots.items ≡ sources_of old.roots.items ++ roots_from (length old.assignments.items) gs
  pub values :
      map value_seen new.values.items ≡ map value_seen old.values.items ++ values_from (length old.assignments.items) gs

-- the names, types and values of modules, in which no name has two meanings
pub record AreGathered
    (ms : List ModuleTree)
    (ss : List (Name × Module))
    (hs : List (Name × TagDefault))
    (gs : List (ℕ × Name))
    (rs : List Source)
    (vs : List Value) : Type 0 where
  pub scopes : ss ≡ scopes_from 0 0 ms
  pub headers : hs ≡ headers_of ms
  pub assignments : gs ≡ owned_from 0 ms
  pub roots : rs ≡ roots_of ms
  pub values : vs ≡ values_of ms
  pub distinct : AreDifferent (map (λ m. m.name) ms)
  pub apart : (m : ModuleTree) → OccursIn ms m → AreDifferent (names_in m)

abbrev pub HasGathered : List ModuleTree → ModuleTables → Type 0
HasGathered ms g =
    AreGathered ms
    (scopes g.modules.entries)
    (map header_of g.headers.items)
    (map assignment_of g.tables.assignments.items)
    (sources_of g.tables.roots.items)
    (map value_seen g.tables.values.items)

-- the types of sources, with their places in the text
abbrev pub syntaxes : List SourceAt → List TypeSyntax
syntaxes = map (λ s. s.syntax)

-- the values of value assignments, with their places in the text
abbrev pub value_syntaxes : List ValueAt → List ValueSyntax
value_syntaxes = map (λ v. v.syntax)

-- the offsets of the names of assignments
abbrev pub assignment_places : List AssignedAt → List ℕ
assignment_places = map (λ a. a.name.at)

-- old tables, and new ones that have the names, types and values of these assignments besides, as they are written
pub record AddsWritten (gs : List Assignment) (old new : Tables) : Type 0 where
  pub types : syntaxes new.roots.items ≡ syntaxes old.roots.items ++ map assigned_type gs
  pub values : value_syntaxes new.values.items ≡ value_syntaxes old.values.items ++ assigned_values gs
  pub names : assignment_places new.assignments.items ≡ assignment_places old.assignments.items ++ map name_place gs

-- exports, imports, names, types and values of modules, as they are written
pub record HasWritten (ws : List ModuleSyntax) (g : ModuleTables) : Type 0 where
  pub spots : all_spots g.modules.entries ≡ all_written ws
  pub types : syntaxes g.tables.roots.items ≡ written_types ws
  pub values : value_syntaxes g.tables.values.items ≡ written_values ws
  pub names : assignment_places g.tables.assignments.items ≡ written_places ws

-- ---- faults

-- memory ran out, or the fault is Twice with a module and a name for which Q holds
abbrev pub ReportsTwice : (Name → Name → Type 0) → NameFault → Type 0
ReportsTwice Q faults.Memory = Unit {0}
ReportsTwice Q (faults.Twice s) = Q (fault_module s) (fault_name s)
ReportsTwice Q e = ⊥

-- name x of module M already has an entry in a table of names
abbrev pub IsTwice : {X : Type 0} → Name → Name → List (Name × X) → NameFault → Type 0
IsTwice {X} M x es = ReportsTwice (λ m y. (m ≡ M) × (y ≡ x) × (a : X) × (under x es ≡ Some a))

-- name x of module M is one of these names already
abbrev pub IsTaken : Name → Name → List Name → NameFault → Type 0
IsTaken M x xs = ReportsTwice (λ m y. (m ≡ M) × (y ≡ x) × OccursIn xs x)

-- a name of module M is the first of these that is also before its place
abbrev pub IsRepeated : Name → List Name → NameFault → Type 0
IsRepeated M xs = ReportsTwice (λ m y. (m ≡ M) × IsFirstAgain xs y)

-- memory ran out, or a name is the first that is given twice in these modules
abbrev pub IsTwiceFirst : List ModuleTree → NameFault → Type 0
IsTwiceFirst ms = ReportsTwice (IsFirstTwice ms)

-- the assigned names of a table, each with its offset
abbrev pub offsets : List (String Global × At Assigned) → List (Name × ℕ)
offsets = seen (λ a. a.at)

-- the imported names of a table, each with its offset
abbrev pub origin_offsets : List (String Global × Origin) → List (Name × ℕ)
origin_offsets = seen (λ o. o.at)

-- memory ran out, or a name of module M is the first of these, with their offsets, that is also before its place
abbrev pub IsAgainIn : Name → List (Name × ℕ) → List (Name × ℕ) → NameFault → Type 0
IsAgainIn M as' is faults.Memory = Unit {0}
IsAgainIn M as' is (faults.Twice s) = (fault_module s ≡ M) × IsAgain as' is (fault_name s) s.at
IsAgainIn M as' is e = ⊥

-- memory ran out, or something is wrong with the names of modules
abbrev pub IsNamingFault : List ModuleTree → NameFault → Type 0
IsNamingFault ms faults.Memory = Unit {0}
IsNamingFault ms e = IsNamesFault ms e
