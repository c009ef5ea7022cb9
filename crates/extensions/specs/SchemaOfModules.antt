-- What an accepted program keeps besides its tags and constraints, and the schema that it has (X.680, clauses 16, 20,
-- 25, 27 and 29).
use Rattle.std.specs.Prelude.{◌≡◌, ℕ, Some, List, slice_get}
use Rattle.asn_base.specs.Abstract.{AbstractValue}
use Rattle.asn_base.specs.Schemas.{IsSchema}
use Rattle.asn_base.specs.Types.{Resolved}
use Rattle.trees.specs.Values.{Name, Tree}
use Rattle.names.specs.Names.{IsApart}
use Rattle.names.specs.Sources.{Value}
use Rattle.resolve.specs.Program.{Program, IsAssignment}
use Rattle.resolve.specs.Sound.{IsSoundProgram}
use Rattle.value_notations.specs.Values.{IsTyped}
use Rattle.settled.specs.values.Allowing.{Allows, AllowsCode}
use Rattle.settled.specs.additions.Additions.{KeepAdditions}
use Rattle.settled.specs.spelled.Spelled.{AreSpelled}
use Rattle.settled.specs.Settled.{AreTypedDefaults, IsProgramSchema}

-- The result of parsing and linking modules. Each name has one meaning, the lists and the names in them keep the rules,
-- and they are spelled by the rules of the notation.
pub record IsLinkedProgram (p : Program) : Type 0 where
  pub apart : IsApart p.modules
  pub sound : IsSoundProgram p
  pub spelled : AreSpelled p.types

-- notation n, read in module M, stands for a value of type i of program p
abbrev pub HasTypedValue : Program → Name → ℕ → Tree → Type 0
HasTypedValue p M i n = (v : AbstractValue) × IsTyped p (Allows p) (AllowsCode p) M i n v

-- the notation of each value assignment of program p stands for a value of its type (X.680, clause 16)
abbrev pub AreTypedValues : Program → Type 0
AreTypedValues p = (i : ℕ) (v : Value) (M x : Name) →
    slice_get p.values i ≡ Some v →
    IsAssignment p v.assignment M x →
    HasTypedValue p M v.ty v.notation

-- Additions after markers are at allowed places in program p, and DEFAULTs and value assignments stand for values of
-- their types (X.680, clauses 16, 20, 25, 27 and 29).
pub record IsWellTyped (p : Program) : Type 0 where
  pub additions : KeepAdditions p.types
  pub defaults : AreTypedDefaults p
  pub values : AreTypedValues p

-- the additions, DEFAULTs and values of program p are as required, and s are the types of its schema
pub record HaveSchema (p : Program) (s : List Resolved) : Type 0 where
  pub asked : IsWellTyped p
  pub settled : IsProgramSchema p s

-- the additions, DEFAULTs and values of program p are as required, s is its schema, and that is an accepted one
pub record SchemaOfModules (p : Program) (s : List Resolved) : Type 0 where
  pub asked : IsWellTyped p
  pub settled : IsProgramSchema p s
  pub accepted : IsSchema s
