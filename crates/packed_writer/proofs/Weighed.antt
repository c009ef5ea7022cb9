-- The weight of members from a place on.
use Rattle.std.proofs.Common.{arith, ◌≡◌, ℕ, zero, suc, ◌+◌, ◌-◌, ◌<◌, ◌≤◌, List, [], ◌∷◌, length, map, drop, get_or, refl, sym, ap, ◌∙◌}
use Rattle.std.specs.Prelude.{Option, Some, None}
use Rattle.asn_base.specs.Abstract.{AbstractValue, row_of_options, row_of_list}
use Rattle.packed_encodings.specs.Weights.{weight, row_weight}

drop_at : {A B : Type 0} (f : A → B) (xs : List A) (i : ℕ) (d : A) → i < length xs → drop i (map f xs) ≡ f (get_or xs i d) ∷ drop (i + 1) (map f xs)
drop_at f [] i d h = absurd (omega arith)
drop_at f (x ∷ xs) zero d h = refl
drop_at f (x ∷ xs) (suc i) d h =
    let e : suc (i + 1) ≡ suc i + 1 = omega arith in
    drop_at f xs i d (omega arith) ∙ ap (λ k. f (get_or xs i d) ∷ drop k (f x ∷ map f xs)) e

pub drop_is : {A B : Type 0} (f : A → B) (xs : List A) (i : ℕ) (d : A) (y : B) → i < length xs → d ≡ get_or xs i d → f d ≡ y → drop i (map f xs) ≡ y ∷ drop (i + 1) (map f xs)
drop_is f xs i d y h e g = drop_at f xs i d h ∙ ap (λ x. f x ∷ drop (i + 1) (map f xs)) (sym e) ∙ ap (λ x. x ∷ drop (i + 1) (map f xs)) g

pub drop_end : {A B : Type 0} (f : A → B) (xs : List A) (i : ℕ) → length xs ≤ i → drop i (map f xs) ≡ []
drop_end f [] zero h = refl
drop_end f [] (suc i) h = refl
drop_end f (x ∷ xs) zero h = absurd (omega arith)
drop_end f (x ∷ xs) (suc i) h = drop_end f xs i (omega arith)

less : (before after one rest all : ℕ) → after ≡ before - one → before - (one + rest) ≡ all → after - rest ≡ all
less before after one rest all e f = omega arith

-- after one more component, or element
pub one_absent : (os : List (Option AbstractValue)) (i before all : ℕ) → drop i os ≡ None ∷ drop (i + 1) os → before - row_weight (row_of_options (drop i os)) ≡ all → before - row_weight (row_of_options (drop (i + 1) os)) ≡ all
one_absent os i before all e h = ap (λ q. before - row_weight (row_of_options q)) (sym e) ∙ h

pub one_present : (os : List (Option AbstractValue)) (i before after all : ℕ) (v : AbstractValue) → drop i os ≡ Some v ∷ drop (i + 1) os → after ≡ before - weight v → before - row_weight (row_of_options (drop i os)) ≡ all → after - row_weight (row_of_options (drop (i + 1) os)) ≡ all
one_present os i before after all v e g h =
    less before after (weight v) (row_weight (row_of_options (drop (i + 1) os))) all g (ap (λ q. before - row_weight (row_of_options q)) (sym e) ∙ h)

pub one_element : (vs : List AbstractValue) (i before after all : ℕ) (v : AbstractValue) → drop i vs ≡ v ∷ drop (i + 1) vs → after ≡ before - weight v → before - row_weight (row_of_list (drop i vs)) ≡ all → after - row_weight (row_of_list (drop (i + 1) vs)) ≡ all
one_element vs i before after all v e g h =
    less before after (weight v) (row_weight (row_of_list (drop (i + 1) vs))) all g (ap (λ q. before - row_weight (row_of_list q)) (sym e) ∙ h)

-- no component is left, and no element
pub none_left : (os : List (Option AbstractValue)) (before all : ℕ) → os ≡ [] → before - row_weight (row_of_options os) ≡ all → before ≡ all
none_left os before all e h = let z : before ≡ before - 0 = omega arith in z ∙ ap (λ q. before - row_weight (row_of_options q)) (sym e) ∙ h

pub no_element_left : (vs : List AbstractValue) (before all : ℕ) → vs ≡ [] → before - row_weight (row_of_list vs) ≡ all → before ≡ all
no_element_left vs before all e h = let z : before ≡ before - 0 = omega arith in z ∙ ap (λ q. before - row_weight (row_of_list q)) (sym e) ∙ h
