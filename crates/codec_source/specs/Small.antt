-- Values that hold no others, as the answers to all their questions, one after the other.
use Rattle.std.specs.Prelude.{◌≡◌, ℕ, Bool, List, [], ◌∷◌, true}
use Rattle.asn_base.specs.declared.schema.TypeId.{TypeId}
use Rattle.codec_code.specs.declared.step.Head.{Head as Head'}
use Rattle.codec_code.specs.declared.step.Field.{Field}
use Rattle.codec_code.specs.declared.step.Step.{Step}
use Rattle.codec_code.specs.declared.step.Step.TheVariants.{Head, Leaf, End}
use Rattle.encodings.specs.declared.leaf_kind.LeafKind.{LeafKind}
use Rattle.codec_source.specs.Events.{Event, begins, ends, opens, closes, holds, comes, more, picks}

-- a value of the type begins, its header and its contents are read, and it ends
pub record TakesValue {S : Type 0} (takes : S → Event → S → Type 0) (t : TypeId) (h : Head') (k : LeafKind) (x z : S)
    : Type 0 where
  pub begun_at : S
  pub opened_at : S
  pub held_at : S
  pub closed_at : S
  pub begun : takes x (begins t) begun_at
  pub opened : takes begun_at (opens h) opened_at
  pub held : takes opened_at (holds k) held_at
  pub closed : takes held_at closes closed_at
  pub ended : takes closed_at ends z

-- a component of a SEQUENCE comes next, and is such a value
pub record TakesComponent {S : Type 0} (takes : S → Event → S → Type 0) (f : Field) (h : Head') (k : LeafKind) (x z : S)
    : Type 0 where
  pub next_at : S
  pub is_next : takes x (comes f true) next_at
  pub value : TakesValue takes f.ty h k next_at z

-- one more element of a list comes next, and is such a value; the elements of a SET OF are sorted
pub record TakesElement {S : Type 0} (takes : S → Event → S → Type 0) (t : TypeId) (sorted : Bool) (h : Head')
    (k : LeafKind) (x z : S) : Type 0 where
  pub next_at : S
  pub is_next : takes x (more t sorted true) next_at
  pub value : TakesValue takes t h k next_at z

-- A value of a CHOICE without a tag begins, and the alternative that comes next is found, of those that the calls are
-- for. By the routine r of its type it is such a value, and is read; then the value of the CHOICE ends.
pub record TakesChoice {S : Type 0} (r : ℕ → List Step) (takes : S → Event → S → Type 0) (t : TypeId)
    (calls : List Step) (x z : S) : Type 0 where
  pub alternative : TypeId
  pub header : Head'
  pub kind : LeafKind
  pub routine : r alternative.index ≡ Head header ∷ Leaf kind ∷ End ∷ []
  pub begun_at : S
  pub chosen_at : S
  pub read_at : S
  pub begun : takes x (begins t) begun_at
  pub picked : takes begun_at (picks calls alternative) chosen_at
  pub value : TakesValue takes alternative header kind chosen_at read_at
  pub ended : takes read_at ends z

-- a component of a SEQUENCE comes next, and is such a value of a CHOICE
pub record TakesChoiceComponent {S : Type 0} (r : ℕ → List Step) (takes : S → Event → S → Type 0) (f : Field)
    (calls : List Step) (x z : S) : Type 0 where
  pub next_at : S
  pub is_next : takes x (comes f true) next_at
  pub value : TakesChoice r takes f.ty calls next_at z
