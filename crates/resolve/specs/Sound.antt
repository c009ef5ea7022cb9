-- The rules for lists in written types and for names in notations (X.680, clauses 14.6, 19, 20, 22, 25, 27 and 29), and
-- the meaning of faults in other programs.
use Rattle.std.specs.Prelude.{◌≡◌, ◌⊎◌, ℕ, Some, slice_get}
use Rattle.trees.specs.Values.{Name}
use Rattle.names.specs.declared.fault.NameFault.{NameFault}
use Rattle.names.specs.declared.fault.NameFault.TheVariants as faults
use Rattle.names.specs.declared.scope.Assigned.TheVariants as assigned
use Rattle.names.specs.Faults.{fault_module, fault_name}
use Rattle.names.specs.Modules.{OccursIn}
use Rattle.names.specs.Names.{Refers}
use Rattle.names.specs.Sources.{Value}
use Rattle.circles.specs.Circles.{IsWrittenDefaultCircle, NoDefaultCircles}
use Rattle.type_table.specs.Lists.{AreSound}
use Rattle.type_table.specs.ListFaults.{IsTwiceIn, HasPassed}
use Rattle.type_table.specs.Table.{WrittenKind, Type'}
use Rattle.resolve.specs.Program.{Program, IsAssignment, IsTypeIn, IsValueIn}
use Rattle.resolve.specs.Qualified.{qualified, qualified_in, MeanValues}

-- names after modules' names in the DEFAULTs and constraints of types mean values (X.680, clause 14.6)
abbrev pub TypesMean : Program → Type 0
TypesMean p = (i : ℕ) (t : Type') (M x : Name) →
    slice_get p.types i ≡ Some t →
    IsAssignment p t.assignment M x →
    MeanValues p.modules M (qualified_in t)

-- names after modules' names in the values that are assigned mean values (X.680, clause 14.6)
abbrev pub ValuesMean : Program → Type 0
ValuesMean p = (i : ℕ) (v : Value) (M x : Name) →
    slice_get p.values i ≡ Some v →
    IsAssignment p v.assignment M x →
    MeanValues p.modules M (qualified v.notation)

-- the lists of a program, and the names in its types and values, keep the rules for linked modules
pub record IsSoundProgram (p : Program) : Type 0 where
  -- the names and numbers of a list are distinct, and no limit is passed
  pub lists : AreSound p.types
  pub types : TypesMean p
  pub values : ValuesMean p
  -- no type of a component with a DEFAULT leads back to its list (own rule)
  pub defaults : NoDefaultCircles p.types

-- ---- faults

-- N.x for a module's name N isn't a value in module M
pub record IsNoValue (p : Program) (M x : Name) : Type 0 where
  pub owner : Name
  pub assigns : Name
  pub written :
      IsTypeIn p M assigns (λ t. OccursIn (qualified_in t) (owner, x))
      ⊎ IsValueIn p M assigns (λ v. OccursIn (qualified v.notation) (owner, x))
  pub nothing : (i : ℕ) → Refers p.modules M (Some owner) x (assigned.Value i) → ⊥

-- name x is twice in the list of a type in module M, or its number is
pub record IsListedTwice (p : Program) (M x : Name) : Type 0 where
  pub assigns : Name
  pub written : IsTypeIn p M assigns (λ t. IsTwiceIn t.kind x)

-- the list of a type in the assignment of name x in module M is in a circle of DEFAULTs
pub record IsInCircle (p : Program) (M x : Name) : Type 0 where
  pub number : ℕ
  pub written : Type'
  pub there : slice_get p.types number ≡ Some written
  pub is_so : IsAssignment p written.assignment M x
  pub circle : IsWrittenDefaultCircle p.types number

-- Q holds for the kind of a type in the assignment of name x in module M
abbrev pub HasKind : Program → Name → Name → (WrittenKind → Type 0) → Type 0
HasKind p M x Q = IsTypeIn p M x (λ t. Q t.kind)

-- a reason why the lists or names of a program break a rule
abbrev pub IsSoundFault : Program → NameFault → Type 0
IsSoundFault p faults.Memory = Unit {0}
IsSoundFault p (faults.Twice s) = IsListedTwice p (fault_module s) (fault_name s)
IsSoundFault p (faults.Limit l s) = HasKind p (fault_module s) (fault_name s) (HasPassed l)
IsSoundFault p (faults.UnknownName s) = IsNoValue p (fault_module s) (fault_name s)
IsSoundFault p (faults.Circular s) = IsInCircle p (fault_module s) (fault_name s)
IsSoundFault p e = ⊥
