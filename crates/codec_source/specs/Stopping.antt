-- Where a run stops: the steps lead to a state in which the next question has no answer.
use Rattle.std.specs.Prelude.{ℕ, true, false, List, [], ◌∷◌, take, Option, Some, None}
use Rattle.asn_base.specs.declared.schema.TypeId.{TypeId}
use Rattle.codec_code.specs.declared.step.Step.{Step}
use Rattle.codec_code.specs.declared.step.Step.TheVariants.{Head, Leaf, Field, SetComponent, Each, EachSorted, Pick}
use Rattle.codec_code.specs.declared.step.Step.TheVariants.{Call, Rest, End}
use Rattle.codec_source.specs.Events.{Event, begins, ends, Question, to_begin, to_end, to_open, to_close, to_hold, to_skip}
use Rattle.codec_source.specs.Events.{whether_comes, whether_more, which_comes, which_picked}
use Rattle.codec_source.specs.Reading.{Asks, Does}

-- the question of the first of these steps; after the last step the value should end
abbrev pub asked : List Step → Question
asked [] = to_end
asked (Head h ∷ ss) = to_open h
asked (End ∷ ss) = to_close
asked (Leaf k ∷ ss) = to_hold k
asked (Rest ∷ ss) = to_skip
asked (Field f ∷ ss) = whether_comes f
asked (SetComponent f r ∷ ss) = which_comes (SetComponent f r ∷ ss)
asked (Each t ∷ ss) = whether_more t false
asked (EachSorted t ∷ ss) = whether_more t true
asked (Pick n ∷ ss) = which_picked (take n ss)
asked (Call t ∷ ss) = to_begin t

-- the question of the first step has no answer in this state
abbrev pub AsksNothing : {S : Type 0} → (S → Event → S → Type 0) → List Step → S → Type 0
AsksNothing {S} takes ss x = (following : List Step) (t : Option TypeId) (y : S) → Asks takes ss x following t y → ⊥

mutual
  -- These steps, with a routine for each type, come to a question without an answer. This question leaves the source in
  -- the last state.
  pub data Stops {S : Type 0} (routine : ℕ → List Step) (takes : S → Event → S → Type 0)
      (refuses : S → Question → S → Type 0)
      : List Step → S → S → Type 0 where
    unanswered : {s : Step} {ss : List Step} {x z : S}
        → AsksNothing takes (s ∷ ss) x
        → refuses x (asked (s ∷ ss)) z
        → Stops routine takes refuses (s ∷ ss) x z
    answered : {ss following : List Step} {t : Option TypeId} {x y z : S}
        → Asks takes ss x following t y
        → StopsThen routine takes refuses t following y z
        → Stops routine takes refuses ss x z

  -- a value of the type, if there is one, or then these steps come to a question without an answer
  pub data StopsThen {S : Type 0} (routine : ℕ → List Step) (takes : S → Event → S → Type 0)
      (refuses : S → Question → S → Type 0)
      : Option TypeId → List Step → S → S → Type 0 where
    stops_on : {ss : List Step} {x z : S}
        → Stops routine takes refuses ss x z
        → StopsThen routine takes refuses None ss x z
    not_begun : {t : TypeId} {ss : List Step} {x z : S}
        → ((a : S) → takes x (begins t) a → ⊥)
        → refuses x (to_begin t) z
        → StopsThen routine takes refuses (Some t) ss x z
    stops_within : {t : TypeId} {ss : List Step} {x a z : S}
        → takes x (begins t) a
        → Stops routine takes refuses (routine t.index) a z
        → StopsThen routine takes refuses (Some t) ss x z
    not_ended : {t : TypeId} {ss : List Step} {x a b z : S}
        → takes x (begins t) a
        → Does routine takes (routine t.index) a b
        → ((c : S) → takes b ends c → ⊥)
        → refuses b to_end z
        → StopsThen routine takes refuses (Some t) ss x z
    stops_after : {t : TypeId} {ss : List Step} {x a b c z : S}
        → takes x (begins t) a
        → Does routine takes (routine t.index) a b
        → takes b ends c
        → Stops routine takes refuses ss c z
        → StopsThen routine takes refuses (Some t) ss x z

-- the type's routine comes to a question without an answer when it reads a value
abbrev pub StopsReading : {S : Type 0} → (ℕ → List Step) → (S → Event → S → Type 0) → (S → Question → S → Type 0)
    → TypeId → S → S → Type 0
StopsReading routine takes refuses t x z = StopsThen routine takes refuses (Some t) [] x z
