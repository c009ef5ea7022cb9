-- The questions that a routine asks a source when it reads, and the answers.
use Rattle.std.specs.Prelude.{◌≡◌, Bool, List, Option}
use Rattle.asn_base.specs.declared.schema.TypeId.{TypeId}
use Rattle.codec_code.specs.declared.step.Head.{Head}
use Rattle.encodings.specs.declared.leaf_kind.LeafKind.{LeafKind}
use Rattle.codec_code.specs.declared.step.Field.{Field}
use Rattle.codec_code.specs.declared.step.Step.{Step}

pub data Event : Type 0 where
  -- a value of this type begins, and it ends
  begins : TypeId → Event
  ends : Event
  -- a header comes next, and the nearest open header is at its end
  opens : Head → Event
  closes : Event
  -- contents of this kind come next
  holds : LeafKind → Event
  -- additions that the type lacks are skipped
  skips : Event
  -- whether a component of a SEQUENCE comes next
  comes : Field → (yes : Bool) → Event
  -- whether one more element of a list comes next; the elements of a SET OF are sorted by their encodings
  more : TypeId → (sorted : Bool) → (yes : Bool) → Event
  -- which component of a SET comes next, by its type, of those with which these steps start; None if there is none
  among : List Step → Option TypeId → Event
  -- which alternative comes next, by its type, of those that these calls are for
  picks : List Step → TypeId → Event

-- a question to a source
pub data Question : Type 0 where
  to_begin : TypeId → Question
  to_end : Question
  to_open : Head → Question
  to_close : Question
  to_hold : LeafKind → Question
  to_skip : Question
  -- whether a component of a SEQUENCE comes next, and whether one more element does
  whether_comes : Field → Question
  whether_more : TypeId → (sorted : Bool) → Question
  -- which component of a SET comes next, and which alternative
  which_comes : List Step → Question
  which_picked : List Step → Question

-- two answers to one question
pub data Alike : Event → Event → Type 0 where
  both_begin : {t : TypeId} → Alike (begins t) (begins t)
  both_end : Alike ends ends
  both_open : {h : Head} → Alike (opens h) (opens h)
  both_close : Alike closes closes
  both_hold : {k : LeafKind} → Alike (holds k) (holds k)
  both_skip : Alike skips skips
  both_come : {f : Field} {b c : Bool} → Alike (comes f b) (comes f c)
  both_more : {t : TypeId} {s b c : Bool} → Alike (more t s b) (more t s c)
  both_among : {ss : List Step} {t u : Option TypeId} → Alike (among ss t) (among ss u)
  both_pick : {ss : List Step} {t u : TypeId} → Alike (picks ss t) (picks ss u)

-- a question has at most one answer, after which the source is in one state
abbrev pub IsOneAnswer : {S : Type 0} → (S → Event → S → Type 0) → Type 0
IsOneAnswer {S} takes = (a b c : S) (e f : Event) → Alike e f → takes a e b → takes a f c → (e ≡ f) × (b ≡ c)
