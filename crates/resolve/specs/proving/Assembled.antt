-- The programs of gathered modules.
use Rattle.std.specs.Prelude.{◌≡◌, ◌<◌, ◌≤◌, ◌⊎◌, ℕ, List, Some, map, length, slice_get, Vec}
use Rattle.std.specs.Global.{Global}
use Rattle.trees.specs.Values.{Name}
use Rattle.trees.specs.declared.module.TagDefault.{TagDefault}
use Rattle.names.specs.declared.fault.NameFault.{NameFault}
use Rattle.names.specs.declared.fault.NameFault.TheVariants as faults
use Rattle.names.specs.declared.gather.ModuleTables.{ModuleTables}
use Rattle.names.specs.declared.sources.AssignedAt.{AssignedAt}
use Rattle.names.specs.declared.sources.Header.{Header}
use Rattle.names.specs.declared.sources.ValueAt.{ValueAt}
use Rattle.names.specs.Faults.{fault_module, fault_name}
use Rattle.names.specs.Names.{Module}
use Rattle.names.specs.Scopes.{seen, module_of}
use Rattle.names.specs.Sources.{assignment_of, header_of, sources_of, value_seen}
use Rattle.names.specs.proving.Gathering.{syntaxes, value_syntaxes}
use Rattle.type_table.specs.declared.table.TypeNode.{TypeNode}
use Rattle.type_table.specs.Faults.{IsTableFault}
use Rattle.type_table.specs.Numbering.{AreNumberedTypes}
use Rattle.type_table.specs.Seen.{types_of}
use Rattle.type_table.specs.Table.{Type', AllUnfold}
use Rattle.type_table.specs.proving.Cores.{AreCores}
use Rattle.type_table.specs.Written.{AreWrittenTypes}
use Rattle.resolve.specs.First.{IsWrittenAs}
use Rattle.resolve.specs.Program.{Program, WrittenProgram, IsWhole, program_seen}
use Rattle.resolve.specs.Sound.{IsSoundProgram, IsSoundFault}
use Rattle.resolve.specs.declared.name_index.NameIndex.{NameIndex}
use Rattle.resolve.specs.proving.Ordered.{AreIndexes}

-- these types are those of the gathered modules, each at its number
abbrev pub IsTableFrom : ModuleTables → List Type' → Type 0
IsTableFrom g ts =
    AreNumberedTypes (seen module_of g.modules.entries) (map header_of g.headers.items)
    (map assignment_of g.tables.assignments.items) (sources_of g.tables.roots.items) ts

-- the gathered modules with these types
abbrev pub program_from : ModuleTables → List Type' → Program
program_from g ts = record {
  modules = seen module_of g.modules.entries;
  headers = map header_of g.headers.items;
  assignments = map assignment_of g.tables.assignments.items;
  types = ts;
  values = map value_seen g.tables.values.items;
}

-- a program of the gathered modules
pub record IsOf (g : ModuleTables) (p : Program) : Type 0 where
  pub is : p ≡ program_from g p.types
  pub types : IsTableFrom g p.types

pub record IsAssembled (g : ModuleTables) (p : Program) : Type 0 where
  pub program : IsOf g p
  pub few : length p.types ≤ 65536
  pub unfolds : AllUnfold p.types
  pub sound : IsSoundProgram p

-- the types, values and assignments of the program are the gathered ones, as they are written
pub record IsTextFrom (g : ModuleTables) (p : WrittenProgram) : Type 0 where
  pub same : IsWrittenAs p.program p.types p.values
  pub types : AreWrittenTypes (syntaxes g.tables.roots.items) p.types
  pub values : value_syntaxes p.values ≡ value_syntaxes g.tables.values.items
  pub assigned : map assignment_of p.assignments ≡ p.program.assignments
  pub names : p.assignments ≡ g.tables.assignments.items

-- a reason why the types of the gathered modules can't be linked
abbrev pub IsTablesFault : ModuleTables → NameFault → Type 0
IsTablesFault g e =
    IsTableFault (seen module_of g.modules.entries) (map header_of g.headers.items)
    (map assignment_of g.tables.assignments.items) (sources_of g.tables.roots.items) e

-- the module of each assignment is there
abbrev pub ArePlaced : List AssignedAt → List Header → Type 0
ArePlaced gs hs = (k : ℕ) (a : AssignedAt) → slice_get gs k ≡ Some a → a.module < length hs

-- `Memory`; or `Circular`, with the module and the assignment of the type
abbrev pub ReportsType : List (Name × TagDefault) → List (ℕ × Name) → Type' → NameFault → Type 0
ReportsType hs gs t faults.Memory = Unit {0}
ReportsType hs gs t (faults.Circular s) =
    (owner : ℕ)
    × (default : TagDefault)
    × (slice_get gs t.assignment ≡ Some (owner, fault_name s))
    × (slice_get hs owner ≡ Some (fault_module s, default))
ReportsType hs gs t e = ⊥

-- `Memory`; or `Circular` with this offset
abbrev pub IsCircularAt : ℕ → NameFault → Type 0
IsCircularAt n faults.Memory = Unit {0}
IsCircularAt n (faults.Circular s) = s.at ≡ n
IsCircularAt n e = ⊥

-- the invariant of Linked: a whole program, the cores of its types, and the indexes of the names that types list
abbrev pub IsKept :
    List (Name × Module) → List Header → List AssignedAt → List TypeNode → List ValueAt → Vec ℕ Global
    → List NameIndex → Type 0
IsKept ms hs gs ts vs cores indexes =
    IsWhole (program_seen ms hs gs ts vs) × AreCores (types_of ts) cores.items × AreIndexes ts indexes

-- a reason why the program can't be put together
abbrev pub IsAssemblyFault : ModuleTables → NameFault → Type 0
IsAssemblyFault g e = IsTablesFault g e ⊎ ((p : Program) × IsOf g p × IsSoundFault p e)
