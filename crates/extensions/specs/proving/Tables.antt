-- The values of all DEFAULTs, by the numbers of the types that they are in, and the results of the parts of the walk.
use Rattle.std.specs.Prelude.{◌≡◌, ◌<◌, ℕ, List, Option, Some, length, map, option_map, slice_get, Vec}
use Rattle.std.specs.declared.alloc.Global.{Global}
use Rattle.extensions.specs.declared.pool.Shared.{Shared}
use Rattle.asn_base.specs.Abstract.{AbstractValue, abstract}
use Rattle.asn_base.specs.declared.value.Value.{Value}
use Rattle.asn_base.specs.Types.{Resolved}
use Rattle.trees.specs.Values.{Name}
use Rattle.type_table.specs.declared.table.ListMember.{ListMember}
use Rattle.type_table.specs.Seen.{part_of}
use Rattle.type_table.specs.Table.{Part}
use Rattle.names.specs.declared.sources.ValueAt.{ValueAt}
use Rattle.names.specs.Sources.{value_seen}
use Rattle.resolve.specs.Program.{Program, WrittenProgram, IsAssignment}
use Rattle.value_notations.specs.Written.{IsWrittenWith}
use Rattle.typed_values.specs.declared.fault.ValueFault.{ValueFault}
use Rattle.settled.specs.values.Allowing.{Allows, AllowsCode}
use Rattle.settled.specs.schema_of.SchemaOf.{IsTypeOf}
use Rattle.settled.specs.Settled.{IsProgramType}
use Rattle.extensions.specs.proving.Defaults.{AreDefaultsOf}
use Rattle.extensions.specs.Faults.{IsList, IsFirstIn, IsWrong}
use Rattle.extensions.specs.declared.wrong.Wrong.{Wrong}
use Rattle.extensions.specs.declared.wrong.Wrong.TheVariants.{Memory, At}

-- `Memory`, or a fault for which P holds
abbrev pub Reports : (ValueFault → Type 0) → Wrong → Type 0
Reports P Memory = Unit {0}
Reports P (At f) = P f

-- there are n members, and R holds for each member with its number
pub record AreEach {B : Type 0} (R : ℕ → B → Type 0) (n : ℕ) (bs : List B) : Type 0 where
  pub as_many : length bs ≡ n
  pub each : (i : ℕ) (b : B) → slice_get bs i ≡ Some b → R i b

-- the value of a shared one
abbrev pub shared_seen : Shared → AbstractValue
shared_seen s = abstract s.held.value

abbrev pub defaults_seen : List (Option Shared) → List (Option AbstractValue)
defaults_seen = map (option_map shared_seen)

abbrev pub row_seen : Vec (Option Shared) Global → List (Option AbstractValue)
row_seen v = defaults_seen v.items

abbrev pub table_seen : List (Vec (Option Shared) Global) → List (List (Option AbstractValue))
table_seen = map row_seen

-- the types of these components are below n
abbrev pub HaveTypes : ℕ → List Part → Type 0
HaveTypes n cs = (i : ℕ) (c : Part) → slice_get cs i ≡ Some c → c.ty < n

-- type i isn't a list, or these are the values of its DEFAULTs
abbrev pub AreDefaultsAt : Program → ℕ → List (Option AbstractValue) → Type 0
AreDefaultsAt p i vs = (M : Name) (cs : List Part) → IsList p i M cs → AreDefaultsOf p M cs vs

-- these are the values of the DEFAULTs of the first n types
abbrev pub AreTabled : Program → ℕ → List (List (Option AbstractValue)) → Type 0
AreTabled p n table = AreEach (AreDefaultsAt p) n table

-- f is the fault of the first DEFAULT of type i without a value
pub record IsFirstAt (w : WrittenProgram) (i : ℕ) (f : ValueFault) : Type 0 where
  pub within : Name
  pub parts : List ListMember
  pub list : IsList w.program i within (map part_of parts)
  pub text : IsWrittenWith w i parts
  pub first : IsFirstIn w within parts f

-- f is the fault of value assignment i
pub record IsWrongValue (w : WrittenProgram) (i : ℕ) (f : ValueFault) : Type 0 where
  pub value : ValueAt
  pub there : slice_get w.program.values i ≡ Some (value_seen value)
  pub text : slice_get w.values i ≡ Some value
  pub within : Name
  pub assigns : Name
  pub is_so : IsAssignment w.program value.assignment within assigns
  pub wrong : IsWrong w within value.ty value.syntax f

-- resolved type r is that of type i in a schema
pub record IsResolved (p : Program) (i : ℕ) (r : Resolved) : Type 0 where
  pub is : IsTypeOf p (Allows p) (AllowsCode p) i r.kind
  pub settled : IsProgramType p i r
