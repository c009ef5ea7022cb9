-- What steps ask for: one thing each.
use Rattle.std.proofs.Common.{arith, ◌≡◌, ℕ, zero, suc, ◌-◌, ◌<◌, ◌≤◌, Bool, true, false, List, [], ◌∷◌, length, take, drop, refl, sym, ap, subst, ◌∙◌}
use Rattle.std.specs.Prelude.{Option, Some, None}
use Rattle.asn_base.specs.declared.schema.TypeId.{TypeId}
use Rattle.codec_code.specs.declared.step.Head.{Head as Head'}
use Rattle.encodings.specs.declared.leaf_kind.LeafKind.{LeafKind}
use Rattle.codec_code.specs.declared.step.Field.{Field as Field'}
use Rattle.codec_code.specs.declared.step.Step.{Step}
use Rattle.codec_code.specs.declared.step.Step.TheVariants.{Head, Leaf, Field, SetComponent, Each, EachSorted, Pick, Call, Rest, End}
use Rattle.codec_source.specs.Events.{Event, opens, closes, holds, skips, comes, more, among, picks, both_open, both_close, both_hold, both_skip, both_come, both_more, both_among, both_pick, IsOneAnswer}
use Rattle.codec_source.specs.Reading.{past_components, Asks, head, ending, leaf, rest, left_out, field, component, no_component, element, no_element, sorted_element, no_sorted_element, pick, call}
use Rattle.codec_source.specs.Stopping.{AsksNothing}
use Rattle.codec_source.specs.proving.Frames.{is_ranked}

abbrev answer : Event → Bool
answer (comes f b) = b
answer (more t s b) = b
answer e = false

abbrev type_of : Event → Option TypeId
type_of (among ss t) = t
type_of (picks ss t) = Some t
type_of e = None

not_both : {A : Type 0} → true ≡ false → A
not_both e = absurd (cc)

none_some : {A : Type 0} {t : TypeId} → None ≡ Some t → A
none_some e = absurd (cc)

-- what a step asks for: the steps after it, the value before them, and the state
pub record One {S : Type 0} (b c : List Step) (t u : Option TypeId) (y z : S) : Type 0 where
  pub following : b ≡ c
  pub value : t ≡ u
  pub state : y ≡ z

module _ {S : Type 0} (takes : S → Event → S → Type 0) (one : IsOneAnswer takes) where
  pub one_ask : {ss b c : List Step} {t u : Option TypeId} {x y z : S} → Asks takes ss x b t y → Asks takes ss x c u z → One b c t u y z
  one_ask {x = x} {y = y} {z = z} (head a) (head b) = record { following = refl; value = refl; state = (one x y z _ _ both_open a b).1 }
  one_ask {x = x} {y = y} {z = z} (ending a) (ending b) = record { following = refl; value = refl; state = (one x y z _ _ both_close a b).1 }
  one_ask {x = x} {y = y} {z = z} (leaf a) (leaf b) = record { following = refl; value = refl; state = (one x y z _ _ both_hold a b).1 }
  one_ask {x = x} {y = y} {z = z} (rest a) (rest b) = record { following = refl; value = refl; state = (one x y z _ _ both_skip a b).1 }
  one_ask {x = x} {y = y} {z = z} (left_out a) (left_out b) = record { following = refl; value = refl; state = (one x y z _ _ both_come a b).1 }
  one_ask {x = x} {y = y} {z = z} (left_out a) (field b) = not_both (ap answer (one x z y _ _ both_come b a).0)
  one_ask {x = x} {y = y} {z = z} (field a) (left_out b) = not_both (ap answer (one x y z _ _ both_come a b).0)
  one_ask {x = x} {y = y} {z = z} (field a) (field b) = record { following = refl; value = refl; state = (one x y z _ _ both_come a b).1 }
  one_ask {x = x} {y = y} {z = z} (component a) (component b) = let o = one x y z _ _ both_among a b in record { following = refl; value = ap type_of o.0; state = o.1 }
  one_ask {x = x} {y = y} {z = z} (component a) (no_component b) = none_some (ap type_of (one x z y _ _ both_among b a).0)
  one_ask {x = x} {y = y} {z = z} (no_component a) (component b) = none_some (ap type_of (one x y z _ _ both_among a b).0)
  one_ask {x = x} {y = y} {z = z} (no_component a) (no_component b) = record { following = refl; value = refl; state = (one x y z _ _ both_among a b).1 }
  one_ask {x = x} {y = y} {z = z} (element a) (element b) = record { following = refl; value = refl; state = (one x y z _ _ both_more a b).1 }
  one_ask {x = x} {y = y} {z = z} (element a) (no_element b) = not_both (ap answer (one x y z _ _ both_more a b).0)
  one_ask {x = x} {y = y} {z = z} (no_element a) (element b) = not_both (ap answer (one x z y _ _ both_more b a).0)
  one_ask {x = x} {y = y} {z = z} (no_element a) (no_element b) = record { following = refl; value = refl; state = (one x y z _ _ both_more a b).1 }
  one_ask {x = x} {y = y} {z = z} (sorted_element a) (sorted_element b) = record { following = refl; value = refl; state = (one x y z _ _ both_more a b).1 }
  one_ask {x = x} {y = y} {z = z} (sorted_element a) (no_sorted_element b) = not_both (ap answer (one x y z _ _ both_more a b).0)
  one_ask {x = x} {y = y} {z = z} (no_sorted_element a) (sorted_element b) = not_both (ap answer (one x z y _ _ both_more b a).0)
  one_ask {x = x} {y = y} {z = z} (no_sorted_element a) (no_sorted_element b) = record { following = refl; value = refl; state = (one x y z _ _ both_more a b).1 }
  one_ask {x = x} {y = y} {z = z} (pick a) (pick b) = let o = one x y z _ _ both_pick a b in record { following = refl; value = ap type_of o.0; state = o.1 }
  one_ask (call) (call) = record { following = refl; value = refl; state = refl }

module _ {S : Type 0} (takes : S → Event → S → Type 0) where
  -- nothing is asked of no steps
  pub none_asked : (b : List Step) (t : Option TypeId) (x y : S) → Asks takes [] x b t y → ⊥
  none_asked b t x y a = elim a [ ]

  pub no_head : (h : Head') (ss : List Step) (x : S) → ((y : S) → takes x (opens h) y → ⊥) → AsksNothing takes (Head h ∷ ss) x
  no_head h ss x n b t y (head a) = n y a

  pub no_end : (ss : List Step) (x : S) → ((y : S) → takes x closes y → ⊥) → AsksNothing takes (End ∷ ss) x
  no_end ss x n b t y (ending a) = n y a

  pub no_leaf : (k : LeafKind) (ss : List Step) (x : S) → ((y : S) → takes x (holds k) y → ⊥) → AsksNothing takes (Leaf k ∷ ss) x
  no_leaf k ss x n b t y (leaf a) = n y a

  pub no_rest : (ss : List Step) (x : S) → ((y : S) → takes x skips y → ⊥) → AsksNothing takes (Rest ∷ ss) x
  no_rest ss x n b t y (rest a) = n y a

  pub no_field : (f : Field') (ss : List Step) (x : S) → ((yes : Bool) (y : S) → takes x (comes f yes) y → ⊥) → AsksNothing takes (Field f ∷ ss) x
  no_field f ss x n b t y (left_out a) = n false y a
  no_field f ss x n b t y (field a) = n true y a

  pub no_ranked : (f : Field') (r : ℕ) (ss : List Step) (x : S) → ((t : Option TypeId) (y : S) → takes x (among (SetComponent f r ∷ ss) t) y → ⊥) → AsksNothing takes (SetComponent f r ∷ ss) x
  no_ranked f r ss x n b t y (component a) = n _ y a
  no_ranked f r ss x n b t y (no_component a) = n None y a

  pub no_each : (t : TypeId) (ss : List Step) (x : S) → ((yes : Bool) (y : S) → takes x (more t false yes) y → ⊥) → AsksNothing takes (Each t ∷ ss) x
  no_each t ss x n b u y (element a) = n true y a
  no_each t ss x n b u y (no_element a) = n false y a

  pub no_sorted : (t : TypeId) (ss : List Step) (x : S) → ((yes : Bool) (y : S) → takes x (more t true yes) y → ⊥) → AsksNothing takes (EachSorted t ∷ ss) x
  no_sorted t ss x n b u y (sorted_element a) = n true y a
  no_sorted t ss x n b u y (no_sorted_element a) = n false y a

  pub no_pick : (n : ℕ) (ss : List Step) (x : S) → ((t : TypeId) (y : S) → takes x (picks (take n ss) t) y → ⊥) → AsksNothing takes (Pick n ∷ ss) x
  no_pick n ss x h b t y (pick a) = h _ y a

-- ---- lengths

after_length : (ss : List Step) → length (past_components ss) ≤ length ss
after_length [] = omega arith
after_length (SetComponent f r ∷ ss) = let h = after_length ss in omega (arith, h)
after_length (Head h ∷ ss) = omega arith
after_length (Leaf k ∷ ss) = omega arith
after_length (Field f ∷ ss) = omega arith
after_length (Each t ∷ ss) = omega arith
after_length (EachSorted t ∷ ss) = omega arith
after_length (Pick n ∷ ss) = omega arith
after_length (Call t ∷ ss) = omega arith
after_length (Rest ∷ ss) = omega arith
after_length (End ∷ ss) = omega arith

drop_length : (n : ℕ) (ss : List Step) → length (drop n ss) ≤ length ss
drop_length zero ss = omega arith
drop_length (suc n) [] = omega arith
drop_length (suc n) (s ∷ ss) = let h = drop_length n ss in omega (arith, h)

-- without a value to be read first, fewer steps are left; with one, as many at most
abbrev pub IsShorter : Option TypeId → List Step → List Step → Type 0
IsShorter None b ss = length b < length ss
IsShorter (Some t) b ss = length b ≤ length ss

module _ {S : Type 0} (takes : S → Event → S → Type 0) where
  pub shorter : {ss b : List Step} {t : Option TypeId} {x y : S} → Asks takes ss x b t y → IsShorter t b ss
  shorter (head a) = omega arith
  shorter (ending a) = omega arith
  shorter (leaf a) = omega arith
  shorter (rest a) = omega arith
  shorter (left_out a) = omega arith
  shorter (field a) = omega arith
  shorter (component a) = omega arith
  shorter (no_component {ss = ss} a) = let h = after_length ss in omega (arith, h)
  shorter (element a) = omega arith
  shorter (no_element a) = omega arith
  shorter (sorted_element a) = omega arith
  shorter (no_sorted_element a) = omega arith
  shorter (pick {n = n} {ss = ss} a) = let h = drop_length n ss in omega (arith, h)
  shorter call = omega arith

  pub no_more_budget : (budget : S → ℕ) → ((a b : S) (e : Event) → takes a e b → budget b ≤ budget a) → {ss b : List Step} {t : Option TypeId} {x y : S} → Asks takes ss x b t y → budget y ≤ budget x
  no_more_budget budget keeps {x = x} {y = y} (head a) = keeps x y _ a
  no_more_budget budget keeps {x = x} {y = y} (ending a) = keeps x y _ a
  no_more_budget budget keeps {x = x} {y = y} (leaf a) = keeps x y _ a
  no_more_budget budget keeps {x = x} {y = y} (rest a) = keeps x y _ a
  no_more_budget budget keeps {x = x} {y = y} (left_out a) = keeps x y _ a
  no_more_budget budget keeps {x = x} {y = y} (field a) = keeps x y _ a
  no_more_budget budget keeps {x = x} {y = y} (component a) = keeps x y _ a
  no_more_budget budget keeps {x = x} {y = y} (no_component a) = keeps x y _ a
  no_more_budget budget keeps {x = x} {y = y} (element a) = keeps x y _ a
  no_more_budget budget keeps {x = x} {y = y} (no_element a) = keeps x y _ a
  no_more_budget budget keeps {x = x} {y = y} (sorted_element a) = keeps x y _ a
  no_more_budget budget keeps {x = x} {y = y} (no_sorted_element a) = keeps x y _ a
  no_more_budget budget keeps {x = x} {y = y} (pick a) = keeps x y _ a
  no_more_budget budget keeps call = omega arith

-- ---- parts of steps

pub take_all : (n : ℕ) (ss : List Step) → length ss ≤ n → ss ≡ take n ss
take_all zero [] l = refl
take_all (suc n) [] l = refl
take_all zero (s ∷ ss) l = absurd (omega arith)
take_all (suc n) (s ∷ ss) l = ap (λ q. s ∷ q) (take_all n ss (omega arith))

pub drop_all : (n : ℕ) (ss : List Step) → length ss ≤ n → [] ≡ drop n ss
drop_all zero [] l = refl
drop_all (suc n) [] l = refl
drop_all zero (s ∷ ss) l = absurd (omega arith)
drop_all (suc n) (s ∷ ss) l = drop_all n ss (omega arith)

drop_count : (n : ℕ) (ss : List Step) → length (drop n ss) ≡ length ss - n
drop_count zero ss = omega arith
drop_count (suc n) [] = omega arith
drop_count (suc n) (s ∷ ss) = let h = drop_count n ss in omega (arith, h)

pub rest_is : (n : ℕ) (ss : List Step) → take (length ss - n) (drop n ss) ≡ drop n ss
rest_is n ss = let h = drop_count n ss in sym (take_all (length ss - n) (drop n ss) (omega (arith, h)))

pub one_component : (s : Step) (ss all : List Step) → all ≡ s ∷ ss → is_ranked s ≡ true → past_components all ≡ past_components ss
one_component s ss all e i = ap past_components e ∙ skip s i
  where
    skip : (s : Step) → is_ranked s ≡ true → past_components (s ∷ ss) ≡ past_components ss
    skip (SetComponent f r) i = refl
    skip (Head h) i = not_both (sym i)
    skip (Leaf k) i = not_both (sym i)
    skip (Field f) i = not_both (sym i)
    skip (Each t) i = not_both (sym i)
    skip (EachSorted t) i = not_both (sym i)
    skip (Pick n) i = not_both (sym i)
    skip (Call t) i = not_both (sym i)
    skip Rest i = not_both (sym i)
    skip End i = not_both (sym i)

pub other_step : (s : Step) (ss all : List Step) → all ≡ s ∷ ss → is_ranked s ≡ false → all ≡ past_components all
other_step s ss all e i = e ∙ stay s i ∙ ap past_components (sym e)
  where
    stay : (s : Step) → is_ranked s ≡ false → s ∷ ss ≡ past_components (s ∷ ss)
    stay (SetComponent f r) i = not_both i
    stay (Head h) i = refl
    stay (Leaf k) i = refl
    stay (Field f) i = refl
    stay (Each t) i = refl
    stay (EachSorted t) i = refl
    stay (Pick n) i = refl
    stay (Call t) i = refl
    stay Rest i = refl
    stay End i = refl

pub no_step : (ss : List Step) → length ss ≡ 0 → ss ≡ past_components ss
no_step [] l = refl
no_step (s ∷ ss) l = absurd (omega arith)

-- ---- components of a SET

module _ {S : Type 0} (takes : S → Event → S → Type 0) where
  pub ranked_some : (f : Field') (r : ℕ) (ss all : List Step) (x y : S) (q : Option TypeId) (t : TypeId) → all ≡ SetComponent f r ∷ ss → takes x (among all q) y → q ≡ Some t → Asks takes (SetComponent f r ∷ ss) x all (Some t) y
  ranked_some f r ss all x y q t e a i =
      subst (λ k. Asks takes (SetComponent f r ∷ ss) x k (Some t) y) (sym e)
      (component (subst (λ k. takes x (among (SetComponent f r ∷ ss) k) y) i (subst (λ k. takes x (among k q) y) e a)))

  pub ranked_none : (f : Field') (r : ℕ) (ss all b : List Step) (x y : S) (q : Option TypeId) → all ≡ SetComponent f r ∷ ss → takes x (among all q) y → q ≡ None → b ≡ past_components ss → Asks takes (SetComponent f r ∷ ss) x b None y
  ranked_none f r ss all b x y q e a i h =
      subst (λ k. Asks takes (SetComponent f r ∷ ss) x k None y) (sym h)
      (no_component (subst (λ k. takes x (among (SetComponent f r ∷ ss) k) y) i (subst (λ k. takes x (among k q) y) e a)))

  pub ranked_never : (f : Field') (r : ℕ) (ss all : List Step) (x : S) → all ≡ SetComponent f r ∷ ss → ((t : Option TypeId) (y : S) → takes x (among all t) y → ⊥) → AsksNothing takes (SetComponent f r ∷ ss) x
  ranked_never f r ss all x e n = no_ranked takes f r ss x (λ t y a. n t y (subst (λ k. takes x (among k t) y) (sym e) a))
