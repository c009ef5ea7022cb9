-- Values that hold no others, with a header of two octets.
use Rattle.std.specs.Prelude.{◌≡◌, ℕ, ◌+◌, ◌<◌, Bool, false, List, ◌∷◌, ◌++◌, [], length}
use Rattle.asn_base.specs.declared.tag.Tag.{Tag}
use Rattle.asn_base.specs.declared.schema.TypeId.{TypeId}
use Rattle.codec_code.specs.declared.step.Head.{Head}
use Rattle.codec_code.specs.declared.step.Step.{Step}
use Rattle.encodings.specs.Header.{Octets}
use Rattle.encodings.specs.declared.leaf_kind.LeafKind.{LeafKind}
use Rattle.primitive_reader.specs.Leaves.{ReadsContents}
use Rattle.octet_answers.specs.Found.{IsChosen}
use Rattle.octet_answers.specs.Units.{UnitAt}
use Rattle.octet_answers.specs.States.{State, following, begun, chosen, held, ended}
use Rattle.ber_source.specs.declared.small.ShortValue.{ShortValue}

-- a value with this header, in two octets, and with contents of this kind comes next, and may begin
pub record IsShortValue (a : State) (h : Head) (k : LeafKind) (s : ShortValue) : Type 0 where
  pub primitive : h.constructed ≡ false
  pub unit : UnitAt h.tag false 2 s.contents.now s.rest.now a.here.octets
  pub read : ReadsContents k s.contents.now s.leaf
  pub has_budget : 0 < a.budget
  pub few_values : length a.values < 64
  pub few_headers : length a.outer < 400

-- the state after a value of type t with a header of two octets and contents x of kind k
abbrev pub short_at : State → TypeId → LeafKind → Octets → Octets → ℕ → State
short_at a t k x rest left = record {
  schema = a.schema;
  here = following a.here 2 x rest;
  outer = a.outer;
  values = a.values;
  marks = a.marks;
  emitted = ((a.emitted ++ begun t ∷ []) ++ held k false x (a.here.at + 2) ∷ []) ++ ended ∷ [];
  budget = left;
}

-- an encoding comes next whose tag can be the first one of alternative i, of type t, and of none before it
pub record IsAlternativeNext (a : State) (calls : List Step) (i : ℕ) (t : TypeId) : Type 0 where
  pub tag : Tag
  pub constructed : Bool
  pub count : ℕ
  pub contents : Octets
  pub rest : Octets
  pub unit : UnitAt tag constructed count contents rest a.here.octets
  pub is_chosen : IsChosen a.schema tag calls i t

-- the state after a value of t, a CHOICE without a tag, whose alternative i is such a value of type u
abbrev pub choice_at : State → TypeId → ℕ → TypeId → LeafKind → Octets → Octets → ℕ → State
choice_at a t i u k x rest left = record {
  schema = a.schema;
  here = following a.here 2 x rest;
  outer = a.outer;
  values = a.values;
  marks = a.marks;
  emitted = (((((a.emitted ++ begun t ∷ []) ++ chosen i ∷ []) ++ begun u ∷ []) ++ held k false x (a.here.at + 2) ∷ [])
      ++ ended ∷ [])
      ++ ended ∷ [];
  budget = left;
}
