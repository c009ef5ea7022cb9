-- The events of frames, and how many steps frames can take.
use Rattle.std.specs.Prelude.{◌≡◌, ℕ, suc, ◌+◌, ◌*◌, ◌<◌, List, [], ◌∷◌, ◌++◌, length, map, Option, Some, None}
use Rattle.asn_base.specs.Abstract.{AbstractValue, abstract, fields, Row, row_of_list}
use Rattle.asn_base.specs.Types.{TypeNumber, Resolved}
use Rattle.asn_base.specs.declared.value.Value.{Value}
use Rattle.codec_code.specs.declared.step.Field.{Field as Field'}
use Rattle.codec_code.specs.declared.step.Head.{Head as Head'}
use Rattle.encodings.specs.declared.leaf_kind.LeafKind.{LeafKind}
use Rattle.codec_code.specs.declared.step.RowKind.TheVariants.{Leaf as LeafRow}
use Rattle.codec_code.specs.declared.step.Step.{Step}
use Rattle.codec_code.specs.Events.{Event, opens, puts, closes, ends_member}
use Rattle.codec_code.specs.Routines.{routine_at}
use Rattle.codec_code.specs.Steps.{Steps, Elements, SortedElements, IsLeftOut, IsWritten}
use Rattle.encodings.specs.Leaves.{HasContents}
use Rattle.codec_machine.specs.declared.fault.RunFault.{RunFault}
use Rattle.codec_machine.specs.declared.fault.RunFault.TheVariants.{NotOfType}
use Rattle.codec_machine.specs.declared.frame.Frame.{Frame}
use Rattle.codec_machine.specs.declared.frame.Frame.TheVariants.{Routine, Elements as ElementsLeft, SortedElements as SortedLeft}
use Rattle.codec_machine.specs.declared.frame.Frame.TheVariants.{MemberEnd as EndOfMember}
use Rattle.codec_machine.specs.Weights.{inner, weights, total}

-- contents octets of the value were added
abbrev pub AddsLeaf : {S : Type 0} → (S → List Event → S → Type 0) → LeafKind → AbstractValue → S → S → Type 0
AddsLeaf adds k v a b = (x : List ℕ) × HasContents k v x × adds a (puts x ∷ []) b

-- a header with contents octets of the value was added
abbrev pub AddsWhole : {S : Type 0} → (S → List Event → S → Type 0) → Head' → LeafKind → AbstractValue → S → S → Type 0
AddsWhole adds h k v a b =
    (x : List ℕ) × HasContents k v x × adds a (opens h.tag h.constructed h.row ∷ puts x ∷ closes ∷ []) b

-- no octets are contents of this kind for the value
abbrev pub HasNoContents : LeafKind → AbstractValue → Type 0
HasNoContents k v = (x : List ℕ) → HasContents k v x → ⊥

-- The routine of type t writes v with one header, in which are the contents octets of w of kind k, and no others.
pub record EmitsLeaf (s : List Resolved) (t : TypeNumber) (v : AbstractValue)
    (h : Head') (k : LeafKind) (w : AbstractValue) : Type 0 where
  pub row : h.row ≡ LeafRow
  pub emits : (x : List ℕ)
      → HasContents k w x
      → Steps s t (routine_at s t) v (opens h.tag h.constructed h.row ∷ puts x ∷ closes ∷ [])
  pub only : (es : List Event) → Steps s t (routine_at s t) v es → (x : List ℕ) × HasContents k w x

-- a run that stops with `NotOfType` had a value without events
abbrev pub EmitsNothing : (List Event → Type 0) → RunFault → Type 0
EmitsNothing T fault = fault ≡ NotOfType → (es : List Event) → T es → ⊥

-- the events that are left for a frame
abbrev pub FrameEmits : List Resolved → Frame → List Event → Type 0
FrameEmits s (Routine t steps v) es = Steps s t.index steps.now (abstract v.now) es
FrameEmits s (ElementsLeft u vs) es = Elements s u.index (row_of_list (map abstract vs.now)) es
FrameEmits s (SortedLeft u vs) es = SortedElements s u.index (row_of_list (map abstract vs.now)) es
FrameEmits s (EndOfMember r) es = es ≡ ends_member r ∷ []

-- the events that are left for these frames, of which the last one comes first
abbrev pub AllEmit : List Resolved → List Frame → List Event → Type 0
AllEmit s [] es = es ≡ []
AllEmit s (f ∷ fs) es = (xs : List Event) × (ys : List Event) × AllEmit s fs xs × FrameEmits s f ys × (es ≡ xs ++ ys)

-- some list of events meets T
pub record EmitsSome (T : List Event → Type 0) : Type 0 where
  pub events : List Event
  pub emitted : T events

-- these frames, and the next one if there is one
abbrev pub and_next : List Frame → Option Frame → List Frame
and_next fs None = fs
and_next fs (Some f) = fs ++ f ∷ []

-- the two frames, or none
abbrev pub paired : Option (Frame × Frame) → List Frame
paired None = []
paired (Some p) = p.0 ∷ p.1 ∷ []

abbrev pub frame_weight : ℕ → Frame → ℕ
frame_weight l (Routine t steps v) = suc (length steps.now * (2 + inner l (abstract v.now)))
frame_weight l (ElementsLeft u vs) = suc (weights l (row_of_list (map abstract vs.now)))
frame_weight l (SortedLeft u vs) = suc (weights l (row_of_list (map abstract vs.now)))
frame_weight l (EndOfMember r) = 1

abbrev pub weighs : ℕ → List Frame → ℕ
weighs l [] = 0
weighs l (f ∷ fs) = frame_weight l f + weighs l fs

-- Frames were pushed. After the events es, each list of events that is left for them makes a list that meets T. If some
-- list of events meets T, some list is left for them. They can take fewer than w steps.
pub record Replaced (s : List Resolved) (T : List Event → Type 0) (w : ℕ) (es : List Event) (olds news : List Frame)
    : Type 0 where
  pub pushed : List Frame
  pub is : news ≡ olds ++ pushed
  pub left : (rest : List Event) → AllEmit s pushed rest → T (es ++ rest)
  pub stays : (all : List Event) → T all → EmitsSome (AllEmit s pushed)
  pub less : weighs (total s) pushed < w

-- Events were added to the state. Each list of events that is left, which meets U, makes with them a list that meets T.
-- If some list of events meets T, some list is left.
pub record Progress {S : Type 0} (adds : S → List Event → S → Type 0) (T : List Event → Type 0) (a : S)
    (U : List Event → Type 0) (b : S) : Type 0 where
  pub events : List Event
  pub added : adds a events b
  pub left : (rest : List Event) → U rest → T (events ++ rest)
  pub stays : (all : List Event) → T all → EmitsSome U

-- the same, and the events were added to the state
pub record Acted {S : Type 0} (s : List Resolved) (adds : S → List Event → S → Type 0) (T : List Event → Type 0) (w : ℕ)
    (olds : List Frame) (a : S) (news : List Frame) (b : S) : Type 0 where
  pub events : List Event
  pub added : adds a events b
  pub replaced : Replaced s T w events olds news

-- a component that isn't encoded
pub record LeavesOut (s : List Resolved) (t : TypeNumber) (f : Field') (v : AbstractValue) : Type 0 where
  pub row : Row
  pub is : v ≡ fields row
  pub left_out : IsLeftOut s t f row

-- a component that is encoded
pub record WritesIt (s : List Resolved) (t : TypeNumber) (f : Field') (v w : AbstractValue) : Type 0 where
  pub row : Row
  pub is : v ≡ fields row
  pub written : IsWritten s t f row w

-- the component is neither left out nor encoded
abbrev pub HasNoField : List Resolved → TypeNumber → Field' → AbstractValue → Type 0
HasNoField s t f v = (LeavesOut s t f v → ⊥) × ((w : AbstractValue) → WritesIt s t f v w → ⊥)

-- the weight of some steps of a routine
abbrev pub steps_weight : ℕ → List Step → AbstractValue → ℕ
steps_weight l ss v = suc (length ss * (2 + inner l v))

-- the same for steps of the routine of type t
abbrev pub ReplacedBy : List Resolved → TypeNumber → List Step → AbstractValue → List Event → List Frame → List Frame
    → Type 0
ReplacedBy s t ss v = Replaced s (Steps s t ss v) (steps_weight (total s) ss v)

abbrev pub ActedBy : {S : Type 0}
    → List Resolved
    → (S → List Event → S → Type 0)
    → TypeNumber
    → List Step
    → AbstractValue
    → List Frame
    → S
    → List Frame
    → S
    → Type 0
ActedBy s adds t ss v = Acted s adds (Steps s t ss v) (steps_weight (total s) ss v)

-- the step was taken, whichever steps are after it
abbrev pub StepTaken : {S : Type 0}
    → List Resolved
    → (S → List Event → S → Type 0)
    → TypeNumber
    → Step
    → AbstractValue
    → S
    → S
    → Type 0
StepTaken s adds t x v a b = (ss : List Step) → Progress adds (Steps s t (x ∷ ss) v) a (Steps s t ss v) b

-- there are no events of the step, whichever steps are after it
abbrev pub NoStep : List Resolved → TypeNumber → Step → AbstractValue → RunFault → Type 0
NoStep s t x v fault = (ss : List Step) → EmitsNothing (Steps s t (x ∷ ss) v) fault

-- the events of elements, each by the routine of type t
abbrev pub ElementsEmit : List Resolved → TypeNumber → List Value → List Event → Type 0
ElementsEmit s t vs es = Elements s t (row_of_list (map abstract vs)) es

-- the events of the members of a SET OF, each by the routine of type t
abbrev pub MembersEmit : List Resolved → TypeNumber → List Value → List Event → Type 0
MembersEmit s t vs es = SortedElements s t (row_of_list (map abstract vs)) es

-- the weight of some elements
abbrev pub elements_weight : ℕ → List Value → ℕ
elements_weight l vs = suc (weights l (row_of_list (map abstract vs)))

abbrev pub NoEvents : List Resolved → TypeNumber → List Step → AbstractValue → RunFault → Type 0
NoEvents s t ss v = EmitsNothing (Steps s t ss v)

-- Some events were added, and each list of events that is left for the new frames completes one for the old frames. If
-- some list is left for the old frames, some list is left for the new ones.
pub record Turned {S : Type 0} (s : List Resolved) (adds : S → List Event → S → Type 0) (olds : List Frame) (a : S)
    (news : List Frame) (b : S) : Type 0 where
  pub events : List Event
  pub added : adds a events b
  pub left : (rest : List Event) → AllEmit s news rest → AllEmit s olds (events ++ rest)
  pub stays : (all : List Event) → AllEmit s olds all → EmitsSome (AllEmit s news)
  -- the machine can take fewer steps than before
  pub less : weighs (total s) news < weighs (total s) olds

-- the same after any number of steps
pub record Reached {S : Type 0} (s : List Resolved) (adds : S → List Event → S → Type 0) (olds : List Frame) (a : S)
    (news : List Frame) (b : S) : Type 0 where
  pub events : List Event
  pub added : adds a events b
  pub left : (rest : List Event) → AllEmit s news rest → AllEmit s olds (events ++ rest)
  pub stays : (all : List Event) → AllEmit s olds all → EmitsSome (AllEmit s news)

-- the events of a type's routine were added
pub record Ran {S : Type 0} (s : List Resolved) (t : TypeNumber) (v : AbstractValue)
    (adds : S → List Event → S → Type 0) (a b : S) : Type 0 where
  pub events : List Event
  pub steps : Steps s t (routine_at s t) v events
  pub added : adds a events b
