-- What octets answer to a reader's question, and the state of the reader after the answer (X.690, 8.1 to 8.14).
use Rattle.std.specs.Prelude.{◌≡◌, ◌⊎◌, ℕ, suc, ◌+◌, ◌<◌, Bool, true, false, List, [], ◌∷◌, ◌++◌, length, drop}
use Rattle.std.specs.Prelude.{Option, Some, None}
use Rattle.asn_base.specs.declared.tag.Tag.{Tag}
use Rattle.asn_base.specs.declared.schema.TypeId.{TypeId}
use Rattle.asn_base.specs.Abstract.{AbstractValue}
use Rattle.asn_base.specs.Tags.{First}
use Rattle.asn_base.specs.Names.{IsMember}
use Rattle.encodings.specs.Header.{Octets}
use Rattle.codec_code.specs.declared.step.Head.{Head}
use Rattle.encodings.specs.declared.leaf_kind.LeafKind.{LeafKind}
use Rattle.codec_code.specs.declared.step.Field.{Field}
use Rattle.codec_code.specs.declared.step.Step.{Step}
use Rattle.codec_code.specs.Steps.{may_be_absent}
use Rattle.codec_code.specs.Routines.{routine_at}
use Rattle.primitive_reader.specs.Leaves.{IsReadAs}
use Rattle.segmented_strings.specs.Joining.{IsJoinedAs}
use Rattle.codec_source.specs.Events.{Event, Alike, begins, ends, opens, closes, holds, skips, comes, more, among, picks}
use Rattle.octet_answers.specs.Units.{UnitAt}
use Rattle.octet_answers.specs.States.{OpenContents, State, component, chosen, with_token, begun_at, ended_at, opened_at, closed_at}
use Rattle.octet_answers.specs.States.{held_at, marked}
use Rattle.octet_answers.specs.Found.{IsChosen, is_extensible, last_steps, AreRead, Passes}

-- a value of type t begins; at most 64 values are open inside each other, and a.room counts how many may still begin
pub record Begins (a : State) (t : TypeId) (b : State) : Type 0 where
  pub left : ℕ
  pub has_budget : a.budget ≡ suc left
  pub few_levels : length a.values < 64
  pub is : b ≡ begun_at a t left

pub record Ends (a b : State) : Type 0 where
  pub value : TypeId
  pub others : List TypeId
  pub is_open : a.values ≡ others ++ value ∷ []
  pub is : b ≡ ended_at a others

-- a header with this tag comes next, constructed if it must be, inside fewer than 400 open headers; a string may be
-- constructed too
pub record Opens (a : State) (h : Head) (b : State) : Type 0 where
  pub constructed : Bool
  pub count : ℕ
  pub contents : Octets
  pub rest : Octets
  pub unit : UnitAt h.tag constructed count contents rest a.here.octets
  pub form : h.constructed ≡ true → constructed ≡ true
  pub few_levels : length a.outer < 400
  pub is : b ≡ opened_at a constructed count contents rest

-- the contents are read to their end
pub record Closes (a b : State) : Type 0 where
  pub open_contents : OpenContents
  pub others : List OpenContents
  pub none_left : a.here.octets ≡ []
  pub is_open : a.outer ≡ others ++ open_contents ∷ []
  pub is : b ≡ closed_at a open_contents others

-- all that is left here are the contents octets of a value that holds no others, within the limit of 400 levels of
-- headers. They are its own octets, or those of a string in segments
abbrev pub AreContents : Bool → LeafKind → AbstractValue → ℕ → Octets → Type 0
AreContents false k v levels x = IsReadAs k v x
AreContents true k v levels x = IsJoinedAs k v levels x

pub record Holds (a : State) (k : LeafKind) (b : State) : Type 0 where
  pub value : AbstractValue
  pub levels : ℕ
  pub few_levels : levels + length a.outer ≡ 400
  pub contents : AreContents a.here.constructed k value levels a.here.octets
  pub is : b ≡ held_at a k

-- what is left of the contents are additions that the type of the innermost open value lacks; all are passed
pub record Skips (a b : State) : Type 0 where
  pub value : TypeId
  pub others : List TypeId
  pub is_open : a.values ≡ others ++ value ∷ []
  pub pass : Passes a.schema (last_steps (routine_at a.schema value.index)) true a None b

-- the next tag can be the first one of component f
pub record IsNext (a : State) (f : Field) (b : State) : Type 0 where
  pub tag : Tag
  pub constructed : Bool
  pub count : ℕ
  pub contents : Octets
  pub rest : Octets
  pub unit : UnitAt tag constructed count contents rest a.here.octets
  pub first : First a.schema f.ty.index tag
  pub is : b ≡ with_token a (component f.place)

-- an encoding comes next whose tag can't be the first one of component f
pub record IsOther (a : State) (f : Field) : Type 0 where
  pub tag : Tag
  pub constructed : Bool
  pub count : ℕ
  pub contents : Octets
  pub rest : Octets
  pub unit : UnitAt tag constructed count contents rest a.here.octets
  pub not_first : First a.schema f.ty.index tag → ⊥

-- the contents are at their end, or another encoding comes next, and component f may be absent
pub record IsAbsent (a : State) (f : Field) (b : State) : Type 0 where
  pub may_be : may_be_absent f.need ≡ true
  pub next : (a.here.octets ≡ []) ⊎ IsOther a f
  pub is : b ≡ a

-- more octets are left in the contents
pub record HasMore (a b : State) : Type 0 where
  pub some : 0 < length a.here.octets
  pub is : b ≡ a

pub record HasNoMore (a b : State) : Type 0 where
  pub none : a.here.octets ≡ []
  pub is : b ≡ a

-- after additions that the type lacks comes a component of a SET that was not read before
pub record HasComponent (a : State) (ss : List Step) (t : TypeId) (b : State) : Type 0 where
  pub field : Field
  pub next : State
  pub pass : Passes a.schema ss (is_extensible ss) a (Some field) next
  pub is_type : t ≡ field.ty
  pub is_new : IsMember field.place (drop next.here.from next.marks) → ⊥
  pub is : b ≡ marked next field.place

-- or the contents are at their end, and all mandatory components were read
pub record HasNoComponent (a : State) (ss : List Step) (b : State) : Type 0 where
  pub pass : Passes a.schema ss (is_extensible ss) a None b
  pub all_read : AreRead (drop b.here.from b.marks) ss

-- the next tag can be the first one of an alternative
pub record Chooses (a : State) (calls : List Step) (t : TypeId) (b : State) : Type 0 where
  pub tag : Tag
  pub constructed : Bool
  pub count : ℕ
  pub contents : Octets
  pub rest : Octets
  pub unit : UnitAt tag constructed count contents rest a.here.octets
  pub index : ℕ
  pub alternative : IsChosen a.schema tag calls index t
  pub is : b ≡ with_token a (chosen index)

abbrev pub FieldNext : State → Field → Bool → State → Type 0
FieldNext a f true b = IsNext a f b
FieldNext a f false b = IsAbsent a f b

abbrev pub MoreNext : State → Bool → State → Type 0
MoreNext a true b = HasMore a b
MoreNext a false b = HasNoMore a b

abbrev pub NextInSet : State → List Step → Option TypeId → State → Type 0
NextInSet a ss (Some t) b = HasComponent a ss t b
NextInSet a ss None b = HasNoComponent a ss b

-- an answer to any question, with the state after it
abbrev pub Answers : State → Event → State → Type 0
Answers a (begins t) b = Begins a t b
Answers a ends b = Ends a b
Answers a (opens h) b = Opens a h b
Answers a closes b = Closes a b
Answers a (holds k) b = Holds a k b
Answers a skips b = Skips a b
Answers a (comes f there) b = FieldNext a f there b
Answers a (more t sorted there) b = MoreNext a there b
Answers a (among ss t) b = NextInSet a ss t b
Answers a (picks ss t) b = Chooses a ss t b

-- an answer to its question that is the only one
pub record Takes (a : State) (e : Event) (b : State) : Type 0 where
  pub answer : Answers a e b
  pub only : (f : Event) (c : State) → Alike e f → Answers a f c → (e ≡ f) × (b ≡ c)
