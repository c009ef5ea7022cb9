-- Elements of a list that are SEQUENCEs, read while nothing is kept of where they are open.
use Rattle.std.specs.Prelude.{◌≡◌, ℕ, ◌+◌, true, false, List, ◌∷◌, ◌++◌, [], length}
use Rattle.asn_base.specs.declared.schema.TypeId.{TypeId}
use Rattle.asn_base.specs.Tags.{First}
use Rattle.asn_base.specs.Types.{Resolved}
use Rattle.codec_code.specs.Routines.{routine_at}
use Rattle.codec_code.specs.declared.step.Field.{Field}
use Rattle.codec_code.specs.declared.step.Head.{Head}
use Rattle.codec_code.specs.declared.step.Step.{Step}
use Rattle.codec_code.specs.declared.step.Step.TheVariants.{Head as HeadStep, Leaf as LeafStep, Field as FieldStep, End}
use Rattle.encodings.specs.Header.{Octets}
use Rattle.encodings.specs.declared.leaf_kind.LeafKind.{LeafKind}
use Rattle.primitive_reader.specs.Leaves.{ReadsContents}
use Rattle.octet_answers.specs.Units.{UnitAt}
use Rattle.octet_answers.specs.States.{State, Token, component, begun, held, ended}
use Rattle.ber_source.specs.Seen.{IsBare}
use Rattle.ber_source.specs.declared.small.ShortValue.{ShortValue}

-- the state with other contents, which begin at a place, other tokens and another budget
abbrev pub moved : State → Octets → ℕ → List Token → ℕ → State
moved a o at ts left = record {
  schema = a.schema;
  here = record { constructed = a.here.constructed; octets = o; at = at; from = a.here.from };
  outer = a.outer;
  values = a.values;
  marks = a.marks;
  emitted = ts;
  budget = left;
}

-- the state within an element of type t, with contents o that begin at a place; rest follows the element
abbrev pub in_row : State → TypeId → Octets → ℕ → Octets → ℕ → List Token → ℕ → State
in_row a t rest next o at ts left = record {
  schema = a.schema;
  here = record { constructed = true; octets = o; at = at; from = length a.marks };
  outer = a.outer ++ record { constructed = a.here.constructed; octets = rest; at = next; from = a.here.from } ∷ [];
  values = a.values ++ t ∷ [];
  marks = a.marks;
  emitted = ts;
  budget = left;
}

-- a component comes next, and is a value with this header, in two octets, and with contents of this kind; these octets
-- and this place follow it, and its tokens are added
pub record IsComponentRead (own : List Resolved) (f : Field) (h : Head) (k : LeafKind) (o : Octets) (at : ℕ)
    (ts : List Token) (rest : Octets) (next : ℕ) (us : List Token) : Type 0 where
  pub short : ShortValue
  pub primitive : h.constructed ≡ false
  pub first : First own f.ty.index h.tag
  pub unit : UnitAt h.tag false 2 short.contents.now short.rest.now o
  pub read : ReadsContents k short.contents.now short.leaf
  pub is_rest : rest ≡ short.rest.now
  pub is_next : next ≡ at + (2 + length short.contents.now)
  pub tokens : us
      ≡ (((ts ++ component f.place ∷ []) ++ begun f.ty ∷ []) ++ held k false short.contents.now (at + 2) ∷ [])
      ++ ended ∷ []

-- the same by the routine of its type
pub record ReadsComponent (s own : List Resolved) (f : Field) (o : Octets) (at : ℕ) (ts : List Token) (rest : Octets)
    (next : ℕ) (us : List Token) : Type 0 where
  pub header : Head
  pub kind : LeafKind
  pub routine : routine_at s f.ty.index ≡ HeadStep header ∷ LeafStep kind ∷ End ∷ []
  pub is_read : IsComponentRead own f header kind o at ts rest next us

-- the header with which these steps begin, if any, is primitive, and a component by the schema own can begin with it
abbrev pub BeginsPlain : List Resolved → Field → List Step → Type 0
BeginsPlain own f (HeadStep h ∷ ss) = (h.constructed ≡ false) × First own f.ty.index h.tag
BeginsPlain own f ss = Unit {0}

-- the values of a component hold no others, and begin as the routine r of its type says
pub record IsPlain (own : List Resolved) (r : List Step) (f : Field) : Type 0 where
  pub bare : IsBare (routine_at own f.ty.index)
  pub begins : BeginsPlain own f r

-- the steps are for such components, and then the end
pub data ArePlain (s own : List Resolved) : List Step → Type 0 where
  no_component : ArePlain s own (End ∷ [])
  and_component : {f : Field} {ss : List Step} → IsPlain own (routine_at s f.ty.index) f → ArePlain s own ss
      → ArePlain s own (FieldStep f ∷ ss)
