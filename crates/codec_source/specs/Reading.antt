-- What a routine means when a value is read, step by step: a run from one state of a source to another. What was read
-- is a part of the state.
use Rattle.std.specs.Prelude.{ℕ, true, false, List, [], ◌∷◌, take, drop, Option, Some, None}
use Rattle.asn_base.specs.declared.schema.TypeId.{TypeId}
use Rattle.codec_code.specs.declared.step.Head.{Head as Head'}
use Rattle.encodings.specs.declared.leaf_kind.LeafKind.{LeafKind}
use Rattle.codec_code.specs.declared.step.Field.{Field as Field'}
use Rattle.codec_code.specs.declared.step.Step.{Step}
use Rattle.codec_code.specs.declared.step.Step.TheVariants.{Head, Leaf, Field, SetComponent, Each, EachSorted, Pick}
use Rattle.codec_code.specs.declared.step.Step.TheVariants.{Call, Rest, End}
use Rattle.codec_source.specs.Events.{Event, begins, ends, opens, closes, holds, skips, comes, more, among, picks}

-- the steps after the components of a SET
abbrev pub past_components : List Step → List Step
past_components [] = []
past_components (SetComponent f r ∷ ss) = past_components ss
past_components (s ∷ ss) = s ∷ ss

-- The answer that the first of these steps takes, and the steps that go on after it. If there is a type, a value of it
-- is read before they do.
pub data Asks {S : Type 0} (takes : S → Event → S → Type 0)
    : List Step → S → List Step → Option TypeId → S → Type 0 where
  head : {h : Head'} {ss : List Step} {x y : S} → takes x (opens h) y → Asks takes (Head h ∷ ss) x ss None y
  ending : {ss : List Step} {x y : S} → takes x closes y → Asks takes (End ∷ ss) x ss None y
  leaf : {k : LeafKind} {ss : List Step} {x y : S} → takes x (holds k) y → Asks takes (Leaf k ∷ ss) x ss None y
  rest : {ss : List Step} {x y : S} → takes x skips y → Asks takes (Rest ∷ ss) x ss None y
  left_out : {f : Field'} {ss : List Step} {x y : S}
      → takes x (comes f false) y
      → Asks takes (Field f ∷ ss) x ss None y
  field : {f : Field'} {ss : List Step} {x y : S}
      → takes x (comes f true) y
      → Asks takes (Field f ∷ ss) x ss (Some f.ty) y
  -- the components of a SET in any order, until none comes next
  component : {f : Field'} {r : ℕ} {t : TypeId} {ss : List Step} {x y : S}
      → takes x (among (SetComponent f r ∷ ss) (Some t)) y
      → Asks takes (SetComponent f r ∷ ss) x (SetComponent f r ∷ ss) (Some t) y
  no_component : {f : Field'} {r : ℕ} {ss : List Step} {x y : S}
      → takes x (among (SetComponent f r ∷ ss) None) y
      → Asks takes (SetComponent f r ∷ ss) x (past_components ss) None y
  element : {t : TypeId} {ss : List Step} {x y : S}
      → takes x (more t false true) y
      → Asks takes (Each t ∷ ss) x (Each t ∷ ss) (Some t) y
  no_element : {t : TypeId} {ss : List Step} {x y : S}
      → takes x (more t false false) y
      → Asks takes (Each t ∷ ss) x ss None y
  sorted_element : {t : TypeId} {ss : List Step} {x y : S}
      → takes x (more t true true) y
      → Asks takes (EachSorted t ∷ ss) x (EachSorted t ∷ ss) (Some t) y
  no_sorted_element : {t : TypeId} {ss : List Step} {x y : S}
      → takes x (more t true false) y
      → Asks takes (EachSorted t ∷ ss) x ss None y
  -- one of the calls, and then the steps after all calls
  pick : {n : ℕ} {t : TypeId} {ss : List Step} {x y : S}
      → takes x (picks (take n ss) t) y
      → Asks takes (Pick n ∷ ss) x (drop n ss) (Some t) y
  call : {t : TypeId} {ss : List Step} {x : S} → Asks takes (Call t ∷ ss) x ss (Some t) x

-- these steps lead from one state to another, with a routine for each type
pub data Does {S : Type 0} (routine : ℕ → List Step) (takes : S → Event → S → Type 0)
    : List Step → S → S → Type 0 where
  finished : {x : S} → Does routine takes [] x x
  goes_on : {ss following : List Step} {x y z : S}
      → Asks takes ss x following None y
      → Does routine takes following y z
      → Does routine takes ss x z
  reads : {ss following : List Step} {t : TypeId} {x y a b c z : S}
      → Asks takes ss x following (Some t) y
      → takes y (begins t) a
      → Does routine takes (routine t.index) a b
      → takes b ends c
      → Does routine takes following c z
      → Does routine takes ss x z

-- the type's routine reads a value
pub record Reads {S : Type 0} (routine : ℕ → List Step) (takes : S → Event → S → Type 0) (t : TypeId) (x z : S)
    : Type 0 where
  pub first : S
  pub last : S
  pub begun : takes x (begins t) first
  pub done : Does routine takes (routine t.index) first last
  pub ended : takes last ends z
