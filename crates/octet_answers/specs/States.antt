-- The state of a reader of octets.
use Rattle.std.specs.Prelude.{ℕ, ◌+◌, Bool, true, List, ◌∷◌, ◌++◌, [], length, take}
use Rattle.asn_base.specs.declared.schema.TypeId.{TypeId}
use Rattle.asn_base.specs.Types.{Resolved}
use Rattle.encodings.specs.Header.{Octets}
use Rattle.encodings.specs.declared.leaf_kind.LeafKind.{LeafKind}

-- Contents octets that are not read yet, and whether they are constructed. `at` is the place in the message of the
-- first of them. `from` is how many components of the SETs around them were read.
pub record OpenContents : Type 0 where
  pub constructed : Bool
  pub octets : Octets
  pub at : ℕ
  pub from : ℕ

-- what was read: values in order, with everything in them
pub data Token : Type 0 where
  -- the component at a place follows, or the alternative with a number
  component : (place : ℕ) → Token
  chosen : (index : ℕ) → Token
  -- a value of a type begins, and ends
  begun : TypeId → Token
  ended : Token
  -- contents octets, which begin at a place in the message
  held : LeafKind → (constructed : Bool) → Octets → (at : ℕ) → Token
  -- an addition that the type lacks was skipped
  passed : Token

-- `here` are the contents of the innermost open header; `outer` are the contents after each of the open ones, the
-- outermost first. `values` are the types of the open values, the outermost first. `marks` are the places of the
-- components that were read of the open SETs. `emitted` is what was read, and `budget` how many values may still begin.
pub record State : Type 0 where
  pub schema : List Resolved
  pub here : OpenContents
  pub outer : List OpenContents
  pub values : List TypeId
  pub marks : List ℕ
  pub emitted : List Token
  pub budget : ℕ

-- the contents after a header of k octets and its contents x
abbrev pub following : OpenContents → ℕ → Octets → Octets → OpenContents
following w k x rest = record { constructed = w.constructed; octets = rest; at = w.at + (k + length x); from = w.from }

-- the contents x of a header of k octets; marks is how many components of SETs were read before
abbrev pub inside : OpenContents → Bool → ℕ → Octets → ℕ → OpenContents
inside w c k x marks = record { constructed = c; octets = x; at = w.at + k; from = marks }

-- the end of the contents
abbrev pub at_end : OpenContents → OpenContents
at_end w = record { constructed = w.constructed; octets = []; at = w.at + length w.octets; from = w.from }

abbrev pub with_token : State → Token → State
with_token a t = record {
  schema = a.schema;
  here = a.here;
  outer = a.outer;
  values = a.values;
  marks = a.marks;
  emitted = a.emitted ++ t ∷ [];
  budget = a.budget;
}

-- the state after an addition that the type lacks
abbrev pub passing : State → ℕ → Octets → Octets → State
passing a k x rest = record {
  schema = a.schema;
  here = following a.here k x rest;
  outer = a.outer;
  values = a.values;
  marks = a.marks;
  emitted = a.emitted ++ passed ∷ [];
  budget = a.budget;
}

-- the state inside a value of type t
abbrev pub begun_at : State → TypeId → ℕ → State
begun_at a t left = record {
  schema = a.schema;
  here = a.here;
  outer = a.outer;
  values = a.values ++ t ∷ [];
  marks = a.marks;
  emitted = a.emitted ++ begun t ∷ [];
  budget = left;
}

-- the state after a value, with the others that are open
abbrev pub ended_at : State → List TypeId → State
ended_at a others = record {
  schema = a.schema;
  here = a.here;
  outer = a.outer;
  values = others;
  marks = a.marks;
  emitted = a.emitted ++ ended ∷ [];
  budget = a.budget;
}

-- the state inside the contents of a header
abbrev pub opened_at : State → Bool → ℕ → Octets → Octets → State
opened_at a c k x rest = record {
  schema = a.schema;
  here = inside a.here c k x (length a.marks);
  outer = a.outer ++ following a.here k x rest ∷ [];
  values = a.values;
  marks = a.marks;
  emitted = a.emitted;
  budget = a.budget;
}

-- the state after contents
abbrev pub closed_at : State → OpenContents → List OpenContents → State
closed_at a w others = record {
  schema = a.schema;
  here = w;
  outer = others;
  values = a.values;
  marks = take a.here.from a.marks;
  emitted = a.emitted;
  budget = a.budget;
}

-- the state after the contents octets of a value that holds no others
abbrev pub held_at : State → LeafKind → State
held_at a k = record {
  schema = a.schema;
  here = at_end a.here;
  outer = a.outer;
  values = a.values;
  marks = a.marks;
  emitted = a.emitted ++ held k a.here.constructed a.here.octets a.here.at ∷ [];
  budget = a.budget;
}

-- the state before a component of a SET
abbrev pub marked : State → ℕ → State
marked a place = record {
  schema = a.schema;
  here = a.here;
  outer = a.outer;
  values = a.values;
  marks = a.marks ++ place ∷ [];
  emitted = a.emitted ++ component place ∷ [];
  budget = a.budget;
}

-- the state at the start of a message, in which room values may begin
abbrev pub front : List Resolved → Octets → ℕ → State
front s o budget = record {
  schema = s;
  here = record { constructed = true; octets = o; at = 0; from = 0 };
  outer = [];
  values = [];
  marks = [];
  emitted = [];
  budget = budget;
}
