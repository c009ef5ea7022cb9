-- What the faults of bounded modules mean, which are given as they are written (X.680, clauses 16, 20, 25, 27 and 29).
-- A fault is the first one in this order. Markers and additions come first. Then come the DEFAULTs, by the numbers of
-- the types that they are in and then by component, and at last the value assignments, by number.
use Rattle.std.specs.Prelude.{◌≡◌, ◌<◌, ℕ, Bool, Some, [], List, map, slice_get}
use Rattle.trees.specs.declared.types.ListKind.{ListKind}
use Rattle.trees.specs.declared.value.ValueSyntax.{ValueSyntax}
use Rattle.trees.specs.Values.{Name}
use Rattle.names.specs.declared.sources.ValueAt.{ValueAt}
use Rattle.names.specs.Sources.{Value, value_seen}
use Rattle.type_table.specs.declared.table.ListMember.{ListMember}
use Rattle.type_table.specs.Seen.{part_of}
use Rattle.type_table.specs.Table.{Part, Type', members}
use Rattle.resolve.specs.Program.{Program, WrittenProgram, IsAssignment}
use Rattle.settled.specs.additions.Additions.{KeepAdditions}
use Rattle.settled.specs.additions.Faults as additions
use Rattle.settled.specs.additions.declared.fault.ExtFault.TheVariants as markers
use Rattle.value_notations.specs.Written.{IsWrittenWith}
use Rattle.typed_values.specs.Faults as typed
use Rattle.typed_values.specs.declared.fault.Cause.TheVariants as causes
use Rattle.typed_values.specs.declared.fault.ValueFault.{ValueFault}
use Rattle.settled.specs.Settled.{AreTypedDefaults, IsTypedDefault}
use Rattle.extensions.specs.SchemaOfModules.{HasTypedValue}
use Rattle.extensions.specs.declared.fault.ExtFault.{ExtFault}
use Rattle.extensions.specs.declared.fault.ExtFault.TheVariants.{Memory, Additions, Default, Assigned}

-- Notation n, with its offsets in the text of module M, has fault f, other than `Memory`, under type i. So it isn't
-- the notation of a value of that type.
pub record IsWrong (w : WrittenProgram) (M : Name) (i : ℕ) (n : ValueSyntax) (f : ValueFault) : Type 0 where
  pub caused : f.cause ≡ causes.Memory → ⊥
  pub is_so : typed.IsRightValueFault w 64 16777216 [] M i n f

-- the DEFAULT of component c of a list in module M has fault f
abbrev pub IsWrongDefault : WrittenProgram → Name → ListMember → ValueFault → Type 0
IsWrongDefault w M c f = (n : ValueSyntax) × typed.IsWrittenDefault c.presence n × IsWrong w M c.ty n f

-- f is the fault of the first DEFAULT of these components without a value
pub record IsFirstIn (w : WrittenProgram) (M : Name) (cs : List ListMember) (f : ValueFault) : Type 0 where
  pub number : ℕ
  pub part : ListMember
  pub there : slice_get cs number ≡ Some part
  pub wrong : IsWrongDefault w M part f
  pub before : (m : ℕ) (c : Part) → m < number → slice_get (map part_of cs) m ≡ Some c → IsTypedDefault w.program M c

-- type i is a list with these components, and it is in module M
pub record IsList (p : Program) (i : ℕ) (M : Name) (cs : List Part) : Type 0 where
  pub type : Type'
  pub there : slice_get p.types i ≡ Some type
  pub assigns : Name
  pub is_so : IsAssignment p type.assignment M assigns
  pub list : ListKind
  pub marked : Bool
  pub is : type.kind ≡ members list marked cs

-- each DEFAULT of type i, if that is a list, has a value
abbrev pub HasTypedDefaults : Program → ℕ → Type 0
HasTypedDefaults p i = (M : Name) (cs : List Part) (m : ℕ) (c : Part) →
    IsList p i M cs →
    slice_get cs m ≡ Some c →
    IsTypedDefault p M c

-- f is the fault of the first DEFAULT of the program without a value
pub record IsFirstDefault (w : WrittenProgram) (f : ValueFault) : Type 0 where
  pub number : ℕ
  pub within : Name
  pub parts : List ListMember
  pub list : IsList w.program number within (map part_of parts)
  pub text : IsWrittenWith w number parts
  pub first : IsFirstIn w within parts f
  pub before : (j : ℕ) → j < number → HasTypedDefaults w.program j

-- the notation of value assignment i is that of a value of its type
abbrev pub IsTypedValue : Program → ℕ → Type 0
IsTypedValue p i = (v : Value) (M x : Name) →
    slice_get p.values i ≡ Some v →
    IsAssignment p v.assignment M x →
    HasTypedValue p M v.ty v.notation

-- f is the fault of the first value assignment of the program without a value
pub record IsFirstValue (w : WrittenProgram) (f : ValueFault) : Type 0 where
  pub number : ℕ
  pub value : ValueAt
  pub there : slice_get w.program.values number ≡ Some (value_seen value)
  pub text : slice_get w.values number ≡ Some value
  pub within : Name
  pub assigns : Name
  pub is_so : IsAssignment w.program value.assignment within assigns
  pub wrong : IsWrong w within value.ty value.syntax f
  pub before : (j : ℕ) → j < number → IsTypedValue w.program j

-- The fault is one of these modules, and the first in order. `Memory` has no condition.
abbrev pub IsRightExtensionFault : WrittenProgram → ExtFault → Type 0
IsRightExtensionFault w Memory = Unit {0}
IsRightExtensionFault w (Additions f) = (f ≡ markers.Memory → ⊥) × additions.IsRightAdditionsFault w f
IsRightExtensionFault w (Default f) = KeepAdditions w.program.types × IsFirstDefault w f
IsRightExtensionFault w (Assigned f) =
    KeepAdditions w.program.types × AreTypedDefaults w.program × IsFirstValue w f
