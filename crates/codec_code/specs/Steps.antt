-- What a routine means when a value is written, step by step.
use Rattle.std.specs.Prelude.{◌≡◌, ℕ, ◌<◌, zero, suc, Bool, true, false, List, [], ◌∷◌, ◌++◌, drop, Option, Some, None}
use Rattle.std.specs.Prelude.{slice_get}
use Rattle.asn_base.specs.declared.schema.TypeId.{TypeId}
use Rattle.asn_base.specs.declared.tag.Tag.{Tag}
use Rattle.asn_base.specs.Abstract.{AbstractValue, fields, list, alternative, Row, end, absent, present}
use Rattle.asn_base.specs.Types.{TypeNumber, default, Component, Kind, Resolved, Is}
use Rattle.asn_base.specs.Same.{Same}
use Rattle.asn_base.specs.Schemas.{components}
use Rattle.encodings.specs.Header.{Octets}
use Rattle.encodings.specs.Leaves.{HasContents}
use Rattle.encodings.specs.declared.leaf_kind.LeafKind.{LeafKind}
use Rattle.codec_code.specs.declared.step.FieldPresence.{FieldPresence}
use Rattle.codec_code.specs.declared.step.FieldPresence.TheVariants.{Mandatory, Default}
use Rattle.codec_code.specs.declared.step.Head.{Head as Head'}
use Rattle.codec_code.specs.declared.step.Field.{Field as Field'}
use Rattle.codec_code.specs.declared.step.Step.{Step}
use Rattle.codec_code.specs.declared.step.Step.TheVariants.{Head, Leaf, Field, SetComponent, Each, EachSorted, Pick}
use Rattle.codec_code.specs.declared.step.Step.TheVariants.{Call, Rest, End}
use Rattle.codec_code.specs.Events.{Event, opens, puts, closes, leaves_out, ends_member}
use Rattle.codec_code.specs.Routines.{routine_at}

-- the component at a place: None if there is no such place, or else a value or its absence
abbrev pub component_at : Row → ℕ → Option (Option AbstractValue)
component_at end i = None
component_at (absent ws) zero = Some None
component_at (present w ws) zero = Some (Some w)
component_at (absent ws) (suc i) = component_at ws i
component_at (present w ws) (suc i) = component_at ws i

-- the component has a DEFAULT, and w is the same as it
pub record IsTheDefault (s : List Resolved) (c : Component) (w : AbstractValue) : Type 0 where
  pub value : AbstractValue
  pub has_default : c.presence ≡ default value
  pub same : Same s c.type w value

-- component i of type t has a DEFAULT, and w is the same as it
pub record IsDefaultAt (s : List Resolved) (t : TypeNumber) (i : ℕ) (w : AbstractValue) : Type 0 where
  pub tags : List Tag
  pub kind : Kind
  pub is : Is s t tags kind
  pub component : Component
  pub is_at : slice_get (components kind) i ≡ Some component
  pub is_the_default : IsTheDefault s component w

abbrev pub may_be_absent : FieldPresence → Bool
may_be_absent Mandatory = false
may_be_absent n = true

abbrev pub has_default : FieldPresence → Bool
has_default Default = true
has_default n = false

-- the component isn't written: it is absent, or the same as its DEFAULT (11.5)
pub data IsLeftOut (s : List Resolved) (t : TypeNumber) (f : Field') (ws : Row) : Type 0 where
  is_absent : may_be_absent f.need ≡ true → component_at ws f.place ≡ Some None → IsLeftOut s t f ws
  is_default : {w : AbstractValue}
      → has_default f.need ≡ true
      → component_at ws f.place ≡ Some (Some w)
      → IsDefaultAt s t f.place w
      → IsLeftOut s t f ws

-- the component is present with the value w, and is written
pub record IsWritten (s : List Resolved) (t : TypeNumber) (f : Field') (ws : Row) (w : AbstractValue) : Type 0 where
  pub is_at : component_at ws f.place ≡ Some (Some w)
  pub no_default : has_default f.need ≡ true → IsDefaultAt s t f.place w → ⊥

mutual
  -- these steps, of the routine of type t, emit these events for the value
  pub data Steps (s : List Resolved) : TypeNumber → List Step → AbstractValue → List Event → Type 0 where
    finished : {t : TypeNumber} {v : AbstractValue} → Steps s t [] v []
    head : {t : TypeNumber} {h : Head'} {ss : List Step} {v : AbstractValue} {es : List Event}
        → Steps s t ss v es
        → Steps s t (Head h ∷ ss) v (opens h.tag h.constructed h.row ∷ es)
    ending : {t : TypeNumber} {ss : List Step} {v : AbstractValue} {es : List Event}
        → Steps s t ss v es
        → Steps s t (End ∷ ss) v (closes ∷ es)
    rest : {t : TypeNumber} {ss : List Step} {v : AbstractValue} {es : List Event}
        → Steps s t ss v es
        → Steps s t (Rest ∷ ss) v es
    leaf : {t : TypeNumber} {k : LeafKind} {x : Octets} {ss : List Step} {v : AbstractValue} {es : List Event}
        → HasContents k v x
        → Steps s t ss v es
        → Steps s t (Leaf k ∷ ss) v (puts x ∷ es)
    left_out : {t : TypeNumber} {f : Field'} {ss : List Step} {ws : Row} {es : List Event}
        → IsLeftOut s t f ws
        → Steps s t ss (fields ws) es
        → Steps s t (Field f ∷ ss) (fields ws) (leaves_out (has_default f.need) ∷ es)
    written : {t : TypeNumber} {f : Field'} {ss : List Step} {ws : Row} {w : AbstractValue} {xs es all : List Event}
        → IsWritten s t f ws w
        → Steps s f.ty.index (routine_at s f.ty.index) w xs
        → Steps s t ss (fields ws) es
        → all ≡ xs ++ es
        → Steps s t (Field f ∷ ss) (fields ws) all
    ranked_left_out : {t : TypeNumber} {f : Field'} {r : ℕ} {ss : List Step} {ws : Row} {es : List Event}
        → IsLeftOut s t f ws
        → Steps s t ss (fields ws) es
        → Steps s t (SetComponent f r ∷ ss) (fields ws) (leaves_out (has_default f.need) ∷ es)
    ranked_written : {t : TypeNumber} {f : Field'} {r : ℕ} {ss : List Step} {ws : Row} {w : AbstractValue}
        {xs es all : List Event}
        → IsWritten s t f ws w
        → Steps s f.ty.index (routine_at s f.ty.index) w xs
        → Steps s t ss (fields ws) es
        → all ≡ xs ++ ends_member r ∷ es
        → Steps s t (SetComponent f r ∷ ss) (fields ws) all
    each : {t : TypeNumber} {u : TypeId} {ss : List Step} {ws : Row} {xs es all : List Event}
        → Elements s u.index ws xs
        → Steps s t ss (list ws) es
        → all ≡ xs ++ es
        → Steps s t (Each u ∷ ss) (list ws) all
    each_sorted : {t : TypeNumber} {u : TypeId} {ss : List Step} {ws : Row} {xs es all : List Event}
        → SortedElements s u.index ws xs
        → Steps s t ss (list ws) es
        → all ≡ xs ++ es
        → Steps s t (EachSorted u ∷ ss) (list ws) all
    -- the call of the alternative, and then the steps after all calls
    pick : {t : TypeNumber} {n i : ℕ} {u : TypeId} {ss : List Step} {w : AbstractValue} {xs es all : List Event}
        → i < n
        → slice_get ss i ≡ Some (Call u)
        → Steps s u.index (routine_at s u.index) w xs
        → Steps s t (drop n ss) (alternative i w) es
        → all ≡ xs ++ es
        → Steps s t (Pick n ∷ ss) (alternative i w) all

  -- a type's routine emits these events for the elements, one after the other
  pub data Elements (s : List Resolved) : TypeNumber → Row → List Event → Type 0 where
    no_element : {u : TypeNumber} → Elements s u end []
    element : {u : TypeNumber} {w : AbstractValue} {ws : Row} {xs es all : List Event}
        → Steps s u (routine_at s u) w xs
        → Elements s u ws es
        → all ≡ xs ++ es
        → Elements s u (present w ws) all

  -- a type's routine emits these events for the elements, each of which is a part
  pub data SortedElements (s : List Resolved) : TypeNumber → Row → List Event → Type 0 where
    no_part : {u : TypeNumber} → SortedElements s u end []
    part : {u : TypeNumber} {w : AbstractValue} {ws : Row} {xs es all : List Event}
        → Steps s u (routine_at s u) w xs
        → SortedElements s u ws es
        → all ≡ xs ++ ends_member 0 ∷ es
        → SortedElements s u (present w ws) all
