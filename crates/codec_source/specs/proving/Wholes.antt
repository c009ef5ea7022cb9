-- What a routine reads at once.
use Rattle.std.specs.Prelude.{◌≡◌, ℕ, ◌≤◌, ◌∷◌, Bool, true, false, List, length, Some}
use Rattle.asn_base.specs.declared.schema.TypeId.{TypeId}
use Rattle.codec_code.specs.declared.step.Field.{Field as Field'}
use Rattle.codec_code.specs.declared.step.Head.{Head as Head'}
use Rattle.codec_code.specs.declared.step.Step.{Step}
use Rattle.codec_code.specs.declared.step.Step.TheVariants.{Each, Head}
use Rattle.codec_source.specs.Events.{Event, begins, comes, more, opens}
use Rattle.codec_source.specs.Reading.{Asks, Reads}

-- a component of a SEQUENCE comes next, and a value of it was read
pub record ReadsField {S : Type 0} (r : ℕ → List Step) (takes : S → Event → S → Type 0) (f : Field') (x z : S)
    : Type 0 where
  pub next_at : S
  pub is_next : takes x (comes f true) next_at
  pub value : Reads r takes f.ty next_at z

-- one more element of a list comes next, and was read
pub record ReadsElement {S : Type 0} (r : ℕ → List Step) (takes : S → Event → S → Type 0) (t : TypeId) (sorted : Bool)
    (x z : S) : Type 0 where
  pub next_at : S
  pub is_next : takes x (more t sorted true) next_at
  pub value : Reads r takes t next_at z

-- the first step asks for a value that comes next, and the value was read; the steps that follow are no more
pub record ReadsNext {S : Type 0} (r : ℕ → List Step) (takes : S → Event → S → Type 0) (ss following : List Step)
    (x z : S) : Type 0 where
  pub type : TypeId
  pub next_at : S
  pub asks : Asks takes ss x following (Some type) next_at
  pub value : Reads r takes type next_at z
  pub few : length following ≤ length ss

-- such values are read, one after the other, if there are any
pub data Chain {S : Type 0} (P : S → S → Type 0) : S → S → Type 0 where
  no_link : {x : S} → Chain P x x
  and_link : {x y z : S} → Chain P x y → P y z → Chain P x z

-- The values for which the first steps ask come next, one after the other, if there are any, and were read. The steps
-- that follow are no more.
pub data ReadsOn {S : Type 0} (r : ℕ → List Step) (takes : S → Event → S → Type 0) : List Step → List Step → S → S
    → Type 0 where
  not_once : {ss : List Step} {x : S} → ReadsOn r takes ss ss x x
  and_once : {ss ts following : List Step} {x y z : S}
      → ReadsOn r takes ss ts x y
      → ReadsNext r takes ts following y z
      → ReadsOn r takes ss following x z

-- One more element of a list comes next, and its value begins. By the routine of its type a header opens. The values
-- for which the first steps after it ask were read, and the others are left.
pub record ReadsFront {S : Type 0} (r : ℕ → List Step) (takes : S → Event → S → Type 0) (t : TypeId) (left : List Step)
    (x z : S) : Type 0 where
  pub header : Head'
  pub fields : List Step
  pub routine : r t.index ≡ Head header ∷ fields
  pub next_at : S
  pub begun_at : S
  pub opened_at : S
  pub is_next : takes x (more t false true) next_at
  pub begun : takes next_at (begins t) begun_at
  pub opened : takes begun_at (opens header) opened_at
  pub read : ReadsOn r takes fields left opened_at z

-- elements of a list were read, one after the other, if there are any, and then the front of one more
pub record ReadsInto {S : Type 0} (r : ℕ → List Step) (takes : S → Event → S → Type 0) (t : TypeId) (left : List Step)
    (x z : S) : Type 0 where
  pub front_at : S
  pub wholes : Chain (ReadsElement r takes t false) x front_at
  pub front : ReadsFront r takes t left front_at z

-- the same where the first step asks for the elements
pub record StepsInto {S : Type 0} (r : ℕ → List Step) (takes : S → Event → S → Type 0) (ss left : List Step) (x z : S)
    : Type 0 where
  pub type : TypeId
  pub following : List Step
  pub is : ss ≡ Each type ∷ following
  pub into : ReadsInto r takes type left x z
