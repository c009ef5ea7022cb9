-- Which fault a decoder reports for a message whose value isn't one of the type, and at which part of the value.
use Rattle.std.specs.Prelude.{◌≡◌, ℕ, suc, ℤ, List, [], ◌∷◌, ◌++◌, Option, Some, None, slice_get}
use Rattle.asn_base.specs.Abstract.{AbstractValue, enumerated, fields, list, alternative, Row, end, absent, present}
use Rattle.asn_base.specs.Schemas.{components}
use Rattle.asn_base.specs.Typed.{IsValue}
use Rattle.asn_base.specs.Types.{TypeNumber, Alternative, Component, Kind, a_null, a_sequence_of, a_set_of, a_choice}
use Rattle.asn_base.specs.Types.{Resolved}
use Rattle.ber_reader.specs.declared.open.OpenValue.{OpenValue}
use Rattle.ber_reader.specs.declared.open.Part.{Part}
use Rattle.ber_reader.specs.declared.open.Part.TheVariants as a_part
use Rattle.ber_reader.specs.Opened.{entered, on_last}
use Rattle.ber_reader.specs.Paths.{AreOpenBefore}
use Rattle.asn_base.specs.Additions.{without_additions}
use Rattle.decode_faults.specs.declared.read_fault.ReadFault.{ReadFault}
use Rattle.decode_faults.specs.declared.read_fault.ReadFault.TheVariants.{BadContents, Missing, OutsideConstraint}
use Rattle.decode_faults.specs.declared.read_fault.ReadFault.TheVariants.{TooDeep}
use Rattle.octet_answers.specs.States.{Token}

-- ---- the parts of a value

-- a value, and the type of which it should be a value
pub record Piece : Type 0 where
  pub type : TypeNumber
  pub value : AbstractValue

abbrev pub piece : TypeNumber → AbstractValue → Piece
piece t v = record { type = t; value = v }

-- a part of a value: which part it is, the type of the part, and the value there
pub record Placed : Type 0 where
  pub part : Part
  pub piece : Piece

abbrev pub placed : Part → TypeNumber → AbstractValue → Placed
placed p t v = record { part = p; piece = piece t v }

-- the kind of a type; a type that the schema lacks counts as NULL, which has no parts
abbrev pub kind_at : List Resolved → TypeNumber → Kind
kind_at s t = elim (slice_get s t) [ None ↦ a_null | Some r ↦ r.kind ]

-- the type of the elements of a SEQUENCE OF or SET OF
abbrev pub element_of : Kind → Option TypeNumber
element_of (a_sequence_of c u) = Some u
element_of (a_set_of c u) = Some u
element_of k = None

-- the alternatives of a CHOICE
abbrev pub alternatives : Kind → List Alternative
alternatives (a_choice root e more) = root ++ more
alternatives k = []

-- component i, if it is present
abbrev pub component_piece : ℕ → Option Component → Option AbstractValue → List Placed
component_piece i (Some c) (Some v) = placed (a_part.Component i) c.type v ∷ []
component_piece i (Some c) None = []
component_piece i None o = []

-- the components that are present, in order of definition; the first of the list has the number i
abbrev pub component_pieces : ℕ → List Component → Row → List Placed
component_pieces i [] vs = []
component_pieces i (c ∷ cs) end = []
component_pieces i (c ∷ cs) (absent vs) = component_pieces (suc i) cs vs
component_pieces i (c ∷ cs) (present v vs) =
    placed (a_part.Component i) c.type v ∷ component_pieces (suc i) cs vs

-- the elements in order; the first of the list has the number i
abbrev pub element_pieces : ℕ → TypeNumber → Row → List Placed
element_pieces i u end = []
element_pieces i u (absent vs) = element_pieces i u vs
element_pieces i u (present v vs) = placed (a_part.Element i) u v ∷ element_pieces (suc i) u vs

-- the components, elements or alternative of a value of this kind
abbrev pub parts : Kind → AbstractValue → List Placed
parts k (fields vs) = component_pieces 0 (components k) vs
parts k (list vs) = elim (element_of k) [ None ↦ [] | Some u ↦ element_pieces 0 u vs ]
parts k (alternative i v) = elim (slice_get (alternatives k) i) [
  | None ↦ []
  | Some a ↦ placed (a_part.Alternative i) a.type v ∷ []
]
parts k v = []

abbrev pub parts_of : List Resolved → Piece → List Placed
parts_of s p = parts (kind_at s p.type) p.value

-- ---- the innermost value that isn't one of its type

-- the value isn't one of its type
abbrev pub IsWrong : List Resolved → Piece → Type 0
IsWrong s p = IsValue s p.type p.value → ⊥

-- the first part that isn't a value of its type; None if each part is one
pub data FirstWrong (s : List Resolved) : List Placed → Option Placed → Type 0 where
  none_wrong : FirstWrong s [] None
  wrong_here : {p : Placed} {ps : List Placed} → IsWrong s p.piece → FirstWrong s (p ∷ ps) (Some p)
  right_here : {p : Placed} {ps : List Placed} {o : Option Placed}
      → IsValue s p.piece.type p.piece.value
      → FirstWrong s ps o
      → FirstWrong s (p ∷ ps) o

-- the open value is of the type, and this part of it is being decoded
pub record IsOpenAt (o : OpenValue) (t : TypeNumber) (p : Part) : Type 0 where
  pub of_type : o.ty.index ≡ t
  pub at_part : o.part ≡ Some p

-- The innermost value within a value that isn't one of its type, and the way there. If each part of the value is a
-- value of its type, it is the value itself, and the way is empty. Otherwise it is within the first part that isn't a
-- value of its type, and the way starts with this part.
pub data Innermost (s : List Resolved) : Piece → List OpenValue → Piece → Type 0 where
  is_itself : {p : Piece} → IsWrong s p → FirstWrong s (parts_of s p) None → Innermost s p [] p
  is_within : {p r : Piece} {q : Placed} {o : OpenValue} {os : List OpenValue}
      → FirstWrong s (parts_of s p) (Some q)
      → IsOpenAt o p.type q.part
      → Innermost s q.piece os r
      → Innermost s p (o ∷ os) r

-- the open values are the way to the innermost value that isn't one of its type
pub record IsPathToWrong (s : List Resolved) (p : Piece) (os : List OpenValue) : Type 0 where
  pub inner : Piece
  pub is_innermost : Innermost s p os inner

-- the open values are others and, after these, the way to the innermost value that isn't one of its type
pub record Extends (s : List Resolved) (p : Piece) (others all : List OpenValue) : Type 0 where
  pub path : List OpenValue
  pub whole : all ≡ others ++ path
  pub path_to_wrong : IsPathToWrong s p path

-- Among the tokens, `most` values begin before the innermost value that isn't one of its type. The values that are open
-- there are the way to it.
pub record IsBeforeWrong (s : List Resolved) (p : Piece) (emitted : List Token) (most : ℕ) : Type 0 where
  pub values : List OpenValue
  pub before : AreOpenBefore emitted most values
  pub path_to_wrong : IsPathToWrong s p (on_last entered values)

-- ---- the fault of a value

-- the components are a value of the type if all additions are made absent
abbrev pub IsValueInRoot : List Resolved → TypeNumber → Row → Type 0
IsValueInRoot s t vs = IsValue s t (fields (without_additions (components (kind_at s t)) vs))

-- the value isn't that of an ENUMERATED, a SEQUENCE, a SET or a CHOICE
abbrev pub IsOther : AbstractValue → Type 0
IsOther (enumerated z) = ⊥
IsOther (fields vs) = ⊥
IsOther (alternative i v) = ⊥
IsOther v = Unit {0}

-- The fault of a value that isn't one of type t, if each of its parts is a value of its type. `BadContents`: the
-- enumeration lacks the number (X.680, 20). `Missing`: a component of a group is missing (25), and the components are a
-- value without additions. `TooDeep`: a part or a DEFAULT has too many levels. `OutsideConstraint`: a constraint isn't
-- met.
pub data IsOwn (s : List Resolved) (t : TypeNumber) : AbstractValue → ReadFault → Type 0 where
  lacks_number : {z : ℤ} → IsOwn s t (enumerated z) BadContents
  half_a_group : {vs : Row} → IsValueInRoot s t vs → IsOwn s t (fields vs) Missing
  deep_component : {vs : Row} → (IsValueInRoot s t vs → ⊥) → IsOwn s t (fields vs) TooDeep
  deep_alternative : {i : ℕ} {v : AbstractValue} → IsOwn s t (alternative i v) TooDeep
  outside : {v : AbstractValue} → IsOther v → IsOwn s t v OutsideConstraint

-- the fault is that of the innermost value in v that isn't one of its type
pub record IsJudged (s : List Resolved) (t : TypeNumber) (v : AbstractValue) (f : ReadFault) : Type 0 where
  pub inner : Piece
  pub path : List OpenValue
  pub is_innermost : Innermost s (piece t v) path inner
  pub own : IsOwn s inner.type inner.value f
