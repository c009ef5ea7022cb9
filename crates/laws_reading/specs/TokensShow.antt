-- What tokens show: values that were read.
use Rattle.std.specs.Prelude.{◌≡◌, ℕ, zero, suc, ◌≤◌, Bool, List, [], ◌∷◌, ◌++◌, length, replicate, Some, slice_get}
use Rattle.asn_base.specs.declared.tag.Tag.{Tag}
use Rattle.asn_base.specs.Abstract.{AbstractValue, fields, list, alternative, Row, end, absent, present}
use Rattle.asn_base.specs.Types.{TypeNumber, Constraint, Alternative, Kind, a_sequence, a_set, a_sequence_of, a_set_of, a_choice, Component, Resolved, Is}
use Rattle.encodings.specs.Header.{Octets}
use Rattle.encodings.specs.declared.leaf_kind.LeafKind.{LeafKind}
use Rattle.codec_code.specs.declared.step.Step.TheVariants.{Leaf}
use Rattle.codec_code.specs.Routines.{id_of, body}
use Rattle.octet_answers.specs.States.{Token, component, chosen, begun, ended, held, passed}
use Rattle.octet_answers.specs.Answers.{AreContents}

-- a row of absent components
abbrev pub blank : List Component → Row
blank [] = end
blank (c ∷ cs) = absent (blank cs)

-- the row with a value at a place that was empty; the row itself if the place is taken or there is no such place
abbrev pub with_at : Row → ℕ → AbstractValue → Row
with_at end i w = end
with_at (absent ws) zero w = present w ws
with_at (present v ws) zero w = present v ws
with_at (absent ws) (suc i) w = absent (with_at ws i w)
with_at (present v ws) (suc i) w = present v (with_at ws i w)

abbrev pub IsAbsentAt : Row → ℕ → Type 0
IsAbsentAt end i = Unit {0}
IsAbsentAt (absent ws) zero = Unit {0}
IsAbsentAt (present w ws) zero = ⊥
IsAbsentAt (absent ws) (suc i) = IsAbsentAt ws i
IsAbsentAt (present w ws) (suc i) = IsAbsentAt ws i

-- how many additions were skipped
abbrev pub skipped_in : List Token → ℕ
skipped_in [] = 0
skipped_in (passed ∷ ts) = suc (skipped_in ts)
skipped_in (component i ∷ ts) = skipped_in ts
skipped_in (chosen i ∷ ts) = skipped_in ts
skipped_in (begun t ∷ ts) = skipped_in ts
skipped_in (ended ∷ ts) = skipped_in ts
skipped_in (held k c x at ∷ ts) = skipped_in ts

mutual
  -- these tokens show value w of type t
  pub data TokensShow (s : List Resolved) : TypeNumber → AbstractValue → List Token → Type 0 where
    shows : {t : TypeNumber} {tags : List Tag} {k : Kind} {w : AbstractValue} {ts all : List Token}
        → Is s t tags k
        → ShowsOf s k w ts
        → all ≡ begun (id_of t) ∷ (ts ++ ended ∷ [])
        → TokensShow s t w all

  -- what comes between the begin and the end of a value
  pub data ShowsOf (s : List Resolved) : Kind → AbstractValue → List Token → Type 0 where
    shows_leaf : {k : Kind} {lk : LeafKind} {w : AbstractValue} {c : Bool} {at : ℕ} {x : Octets} (levels : ℕ)
        → levels ≤ 400
        → body s k ≡ Leaf lk ∷ []
        → AreContents c lk w levels x
        → ShowsOf s k w (held lk c x at ∷ [])
    -- components in order, and additions that the type lacks after them
    shows_sequence : {e : Bool} {cs : List Component} {ws : Row} {ts all : List Token} (n : ℕ)
        → ShowsFields s 0 cs ws ts
        → all ≡ ts ++ replicate n passed
        → ShowsOf s (a_sequence e cs) (fields ws) all
    shows_set : {e : Bool} {cs : List Component} {ws : Row} {ts : List Token}
        → ShowsMixed s cs ws ts
        → ShowsOf s (a_set e cs) (fields ws) ts
    shows_sequence_of : {c : Constraint} {u : TypeNumber} {ws : Row} {ts : List Token}
        → ShowsElements s u ws ts
        → ShowsOf s (a_sequence_of c u) (list ws) ts
    shows_set_of : {c : Constraint} {u : TypeNumber} {ws : Row} {ts : List Token}
        → ShowsElements s u ws ts
        → ShowsOf s (a_set_of c u) (list ws) ts
    shows_choice : {i : ℕ} {e : Bool} {root more : List Alternative} {a : Alternative} {w : AbstractValue}
        {ts : List Token}
        → slice_get (root ++ more) i ≡ Some a
        → TokensShow s a.type w ts
        → ShowsOf s (a_choice root e more) (alternative i w) (chosen i ∷ ts)

  -- components in order of definition, from place i
  pub data ShowsFields (s : List Resolved) : ℕ → List Component → Row → List Token → Type 0 where
    no_field : {i : ℕ} → ShowsFields s i [] end []
    absent_field : {i : ℕ} {c : Component} {cs : List Component} {ws : Row} {ts : List Token}
        → ShowsFields s (suc i) cs ws ts
        → ShowsFields s i (c ∷ cs) (absent ws) ts
    present_field : {i : ℕ} {c : Component} {cs : List Component} {w : AbstractValue} {ws : Row}
        {xs ts all : List Token}
        → TokensShow s c.type w xs
        → ShowsFields s (suc i) cs ws ts
        → all ≡ component i ∷ (xs ++ ts)
        → ShowsFields s i (c ∷ cs) (present w ws) all

  -- components of a SET in any order, and additions that it lacks among them
  pub data ShowsMixed (s : List Resolved) : List Component → Row → List Token → Type 0 where
    nothing_mixed : {cs : List Component} → ShowsMixed s cs (blank cs) []
    passed_mixed : {cs : List Component} {ws : Row} {ts : List Token}
        → ShowsMixed s cs ws ts
        → ShowsMixed s cs ws (passed ∷ ts)
    component_mixed : {i : ℕ} {cs : List Component} {c : Component} {w : AbstractValue} {ws vs : Row}
        {xs ts all : List Token}
        → slice_get cs i ≡ Some c
        → IsAbsentAt ws i
        → TokensShow s c.type w xs
        → ShowsMixed s cs ws ts
        → vs ≡ with_at ws i w
        → all ≡ component i ∷ (xs ++ ts)
        → ShowsMixed s cs vs all

  pub data ShowsElements (s : List Resolved) : TypeNumber → Row → List Token → Type 0 where
    no_element_shown : {u : TypeNumber} → ShowsElements s u end []
    element_shown : {u : TypeNumber} {w : AbstractValue} {ws : Row} {xs ts all : List Token}
        → TokensShow s u w xs
        → ShowsElements s u ws ts
        → all ≡ xs ++ ts
        → ShowsElements s u (present w ws) all

-- octets of a message, the first of them at this place
pub record IsSliceAt (message : Octets) (at : ℕ) (x : Octets) : Type 0 where
  pub before : Octets
  pub following : Octets
  pub whole : message ≡ before ++ (x ++ following)
  pub place : length before ≡ at

-- all contents octets are at their places in the message
abbrev pub AreSlicesOf : Octets → List Token → Type 0
AreSlicesOf message [] = Unit {0}
AreSlicesOf message (held k c x at ∷ ts) = IsSliceAt message at x × AreSlicesOf message ts
AreSlicesOf message (component i ∷ ts) = AreSlicesOf message ts
AreSlicesOf message (chosen i ∷ ts) = AreSlicesOf message ts
AreSlicesOf message (begun t ∷ ts) = AreSlicesOf message ts
AreSlicesOf message (ended ∷ ts) = AreSlicesOf message ts
AreSlicesOf message (passed ∷ ts) = AreSlicesOf message ts
