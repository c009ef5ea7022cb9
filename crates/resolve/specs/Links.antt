-- Modules that are linked, and why modules can't be (X.680, clauses 13, 14, 16, 19, 20, 22, 25, 27 and 29).
use Rattle.std.specs.Prelude.{◌≡◌, ◌≤◌, ◌⊎◌, List, length}
use Rattle.trees.specs.Modules.{ModuleTree}
use Rattle.names.specs.declared.fault.NameFault.{NameFault}
use Rattle.names.specs.declared.fault.NameFault.TheVariants as faults
use Rattle.names.specs.ByNumber.{scopes_from, headers_of, owned_from, roots_of, values_of}
use Rattle.names.specs.Faults.{IsNamesFault}
use Rattle.names.specs.Modules.{AreNamed, AreFew}
use Rattle.type_table.specs.Faults.{IsTableFault}
use Rattle.type_table.specs.Numbering.{AreNumberedTypes}
use Rattle.type_table.specs.Table.{AllUnfold}
use Rattle.resolve.specs.Program.{Program}
use Rattle.resolve.specs.Sound.{IsSoundProgram, IsSoundFault}

-- the program is that of these modules: what names are assigned, and all types and values by number
pub record IsProgramOf (ms : List ModuleTree) (p : Program) : Type 0 where
  pub modules : p.modules ≡ scopes_from 0 0 ms
  pub headers : p.headers ≡ headers_of ms
  pub assignments : p.assignments ≡ owned_from 0 ms
  pub values : p.values ≡ values_of ms
  -- each reference has a meaning
  pub types : AreNumberedTypes p.modules p.headers p.assignments (roots_of ms) p.types

-- Each name has one meaning, the names and numbers of a list are distinct, no type comes back to itself, and no limit
-- is passed.
pub record Links (ms : List ModuleTree) (p : Program) : Type 0 where
  pub named : AreNamed ms
  pub few : AreFew ms
  pub program : IsProgramOf ms p
  -- the program has at most 65,536 written types (own rule: a limit)
  pub types : length p.types ≤ 65536
  -- references and tags lead from each type to one that is neither
  pub unfolds : AllUnfold p.types
  pub sound : IsSoundProgram p

-- The fault is a true one: an allocation failed, or there is something wrong with the names, with the types that they
-- mean, or with what these types contain.
abbrev pub IsLinkFault : List ModuleTree → NameFault → Type 0
IsLinkFault ms faults.Memory = Unit {0}
IsLinkFault ms e =
    IsNamesFault ms e
    ⊎ (IsTableFault (scopes_from 0 0 ms) (headers_of ms) (owned_from 0 ms) (roots_of ms) e
    ⊎ ((p : Program) × IsProgramOf ms p × IsSoundFault p e))

-- modules with a fault other than `Memory` can't be linked
abbrev pub FaultsExclude : Type 0
FaultsExclude = (ms : List ModuleTree) (p : Program) (e : NameFault) →
    (e ≡ faults.Memory → ⊥) →
    IsLinkFault ms e →
    Links ms p →
    ⊥
