-- Steps that are those of a type, and the values that they need.
use Rattle.std.specs.Prelude.{◌≡◌, ℕ, zero, suc, ◌-◌, ◌≤◌, ◌⊎◌, ℤ, Bool, true, false, if◌then◌else◌, List, [], ◌∷◌}
use Rattle.std.specs.Prelude.{◌++◌, map, Option, Some, None, slice_get}
use Rattle.std.specs.List.{AllByRecursion}
use Rattle.asn_base.specs.Abstract.{AbstractValue, integer, fields, Row, end, absent, present, abstract}
use Rattle.asn_base.specs.Same.{IsLeaf}
use Rattle.asn_base.specs.Schemas.{components, AreBounds, IsSize}
use Rattle.asn_base.specs.Typed.{ValueIn}
use Rattle.asn_base.specs.Types.{Alternative, Component, Constraint, Kind, Resolved, TypeNumber, an_integer}
use Rattle.asn_base.specs.Types.{a_choice, a_sequence_of, a_set_of}
use Rattle.packed_code.specs.declared.step.PackedField.{PackedField}
use Rattle.packed_code.specs.declared.step.PackedStep.{PackedStep}
use Rattle.packed_code.specs.declared.step.PackedStep.TheVariants as steps
use Rattle.packed_code.specs.Meaning.{any_written, is_written, bits_at, members_of, next_fields, step_bits}
use Rattle.packed_code.specs.Routines.{field_of, root_calls, more_calls}
use Rattle.packed_encodings.specs.Computed.{bits_of, kind_at, open_bits}
use Rattle.packed_encodings.specs.Lengths.{Bits, Items}
use Rattle.packed_encodings.specs.Orders.{Member}
use Rattle.packed_writer.specs.declared.typed.Typed.{Typed}
use Rattle.packed_writer.specs.declared.typed.Elements.{Elements}

-- ---- values

-- the component at a place, or None if it is absent
abbrev pub row_at : Row → ℕ → Option AbstractValue
row_at end i = None
row_at (absent ws) zero = None
row_at (present w ws) zero = Some w
row_at (absent ws) (suc i) = row_at ws i
row_at (present w ws) (suc i) = row_at ws i

abbrev pub value_at : AbstractValue → ℕ → Option AbstractValue
value_at (fields ws) i = row_at ws i
value_at v i = None

abbrev pub IsNumber : AbstractValue → Type 0
IsNumber v = (z : ℤ) × (v ≡ integer z)

-- a value of its type, with at most its number of levels
pub record IsIn (s : List Resolved) (x : Typed) : Type 0 where
  pub few : x.levels ≤ 64
  pub is : ValueIn s x.levels x.id.index (abstract x.value.now)

pub record AreIn (s : List Resolved) (x : Elements) : Type 0 where
  pub few : x.levels ≤ 64
  pub are : AllByRecursion (ValueIn s x.levels x.id.index) (map abstract x.values.now)

-- the bits of each element
abbrev pub all_items : List Resolved → TypeNumber → List AbstractValue → Items
all_items s u = map (λ w. bits_of s w u)

-- ---- fields

abbrev pub HasComponent : List Resolved → TypeNumber → ℕ → Component → Type 0
HasComponent s t i c = slice_get (components (kind_at s t)) i ≡ Some c

-- the field is that of a component of the type
pub record FieldFits (s : List Resolved) (t : TypeNumber) (f : PackedField) : Type 0 where
  pub component : Component
  pub there : HasComponent s t f.place component
  pub is : f ≡ field_of f.place component

abbrev pub FieldOf : List Resolved → TypeNumber → PackedStep → Type 0
FieldOf s t (steps.Field f) = FieldFits s t f
FieldOf s t (steps.Added f) = FieldFits s t f
FieldOf s t (steps.Member f) = FieldFits s t f
FieldOf s t st = Unit {0}

abbrev pub FieldsFit : List Resolved → TypeNumber → List PackedStep → Type 0
FieldsFit s t = AllByRecursion (FieldOf s t)

-- the fields of steps of the root or of a group
abbrev pub fields_in : List PackedStep → List PackedField
fields_in [] = []
fields_in (steps.Field f ∷ ss) = f ∷ fields_in ss
fields_in (steps.Member f ∷ ss) = f ∷ fields_in ss
fields_in (st ∷ ss) = fields_in ss

pub record LeftOut (s : List Resolved) (t : TypeNumber) (v : AbstractValue) (f : PackedField) : Type 0 where
  pub not_written : is_written (members_of s t v) f.place ≡ false
  pub no_bits : bits_at (members_of s t v) f.place ≡ []

pub record Written (s : List Resolved) (t : TypeNumber) (v : AbstractValue) (f : PackedField) (levels : ℕ)
    (w : AbstractValue) : Type 0 where
  pub written : is_written (members_of s t v) f.place ≡ true
  pub bits : bits_at (members_of s t v) f.place ≡ bits_of s w f.ty.index
  pub is : ValueIn s (levels - 1) f.ty.index w

-- the bit of the first step, if it is that of an addition
abbrev pub first_map : List (Member Bits) → List PackedStep → Bits
first_map ms [] = []
first_map ms (steps.Added f ∷ ss) = is_written ms f.place ∷ []
first_map ms (steps.Group n ∷ ss) = any_written ms (next_fields n ss) ∷ []
first_map ms (st ∷ ss) = []

abbrev pub added_bits : List (Member Bits) → ℕ → Bits
added_bits ms i = if is_written ms i then open_bits (bits_at ms i) else []

-- ---- steps

pub record IsPick (s : List Resolved) (t : TypeNumber) (ss : List PackedStep) : Type 0 where
  pub root : List Alternative
  pub extensible : Bool
  pub more : List Alternative
  pub kind : kind_at s t ≡ a_choice root extensible more
  pub calls : ss ≡ root_calls s extensible root root ++ more_calls 0 more

-- the step is one of type t's routine, before others
abbrev pub CallFits : List Resolved → TypeNumber → PackedStep → List PackedStep → Type 0
CallFits s t steps.Bit ss = IsLeaf (kind_at s t)
CallFits s t (steps.Number l n) ss = (c : Constraint) × (kind_at s t ≡ an_integer c)
CallFits s t steps.Leaf ss = IsLeaf (kind_at s t)
CallFits s t (steps.Each u) ss = (c : Constraint) × (kind_at s t ≡ a_sequence_of c u.index)
CallFits s t (steps.EachSorted u) ss = (c : Constraint) × (kind_at s t ≡ a_set_of c u.index)
CallFits s t (steps.Pick n) ss = IsPick s t ss
CallFits s t st ss = Unit {0}

abbrev pub StepsFit : List Resolved → TypeNumber → List PackedStep → Type 0
StepsFit s t [] = Unit {0}
StepsFit s t (st ∷ ss) = FieldOf s t st × CallFits s t st ss × StepsFit s t ss

-- the bits of the first step
abbrev pub first_bits : List Resolved → TypeNumber → AbstractValue → List PackedStep → Bits
first_bits s t v [] = []
first_bits s t v (st ∷ ss) = step_bits s t v st ss

-- ---- lists

-- the type is a SEQUENCE OF or SET OF
abbrev pub IsListKind : Kind → Type 0
IsListKind (a_sequence_of c u) = Unit {0}
IsListKind (a_set_of c u) = Unit {0}
IsListKind k = ⊥

abbrev pub IsList : List Resolved → TypeNumber → Type 0
IsList s t = IsListKind (kind_at s t)

-- the type is a SEQUENCE OF or SET OF with this constraint on its size
pub record IsListOf (s : List Resolved) (t : TypeNumber) (c : Constraint) : Type 0 where
  pub element : TypeNumber
  pub kind : (kind_at s t ≡ a_sequence_of c element) ⊎ (kind_at s t ≡ a_set_of c element)
  pub bounds : AreBounds IsSize c

-- the value is of the type that an alternative's step names
abbrev pub IsCalled : List Resolved → ℕ → AbstractValue → Option PackedStep → Type 0
IsCalled s n w (Some (steps.Root r)) = ValueIn s n r.ty.index w
IsCalled s n w (Some (steps.More i u)) = ValueIn s n u.index w
IsCalled s n w o = Unit {0}
