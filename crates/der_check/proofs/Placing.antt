-- Components and elements that are copied one after another.
use Rattle.std.proofs.Common.{arith, ◌≡◌, ℕ, zero, suc, ◌+◌, ◌<◌, ◌≤◌, List, [], ◌∷◌, ◌++◌, ◌^◌, lit<, length, drop, refl, sym, ap, ◌∙◌, append_assoc}
use Rattle.std.specs.Prelude.{Option}
use Rattle.asn_base.specs.Abstract.{AbstractValue, Row, end, present, row_of_list}
use Rattle.std.proofs.lemmas.List.{append-nil}
use Rattle.views.specs.Tree.{ViewMembers, ViewTree, no_member, member, component_value, element_values, placed, value_of}
use Rattle.der_check.specs.Strict.{components_of}

-- these values, and then those of a row
abbrev pub onto : List AbstractValue → Row → Row
onto [] r = r
onto (v ∷ vs) r = present v (onto vs r)

pub onto_more : (vs : List AbstractValue) (v : AbstractValue) (r : Row) → onto (vs ++ v ∷ []) r ≡ onto vs (present v r)
onto_more [] v r = refl
onto_more (w ∷ vs) v r = ap (present w) (onto_more vs v r)

pub onto_end : (vs : List AbstractValue) → onto vs end ≡ row_of_list vs
onto_end [] = refl
onto_end (w ∷ vs) = ap (present w) (onto_end vs)

placed_at : {A : Type 0} (n : ℕ) (f : ℕ → Option A) (i : ℕ) → i < n → drop i (placed n f) ≡ f i ∷ drop (suc i) (placed n f)
placed_at zero f i l = absurd (omega (arith, l))
placed_at (suc n) f zero l = refl
placed_at (suc n) f (suc i) l =
    let e : i + 1 ≡ suc i = omega arith in
    placed_at n (λ j. f (j + 1)) i (omega (arith, l)) ∙ ap (λ k. f k ∷ drop (suc i) (placed n (λ j. f (j + 1)))) e

pub place_is : {A : Type 0} (n : ℕ) (f : ℕ → Option A) (i : ℕ) → i < n → drop i (placed n f) ≡ f i ∷ drop (i + 1) (placed n f)
place_is n f i l =
    let e : i + 1 ≡ suc i = omega arith in
    placed_at n f i l ∙ ap (λ k. f i ∷ drop k (placed n f)) (sym e)

pub no_place : {A : Type 0} (n : ℕ) (f : ℕ → Option A) (i : ℕ) → n ≤ i → drop i (placed n f) ≡ []
no_place zero f zero l = refl
no_place zero f (suc i) l = refl
no_place (suc n) f zero l = absurd (omega (arith, l))
no_place (suc n) f (suc i) l = no_place n (λ j. f (j + 1)) i (omega (arith, l))

pub more_placed : {A : Type 0} (n : ℕ) (f : ℕ → Option A) (i : ℕ) (before after : List (Option A)) (o : Option A) → i < n → before ++ drop i (placed n f) ≡ placed n f → after ≡ before ++ o ∷ [] → o ≡ f i → after ++ drop (i + 1) (placed n f) ≡ placed n f
more_placed n f i before after o l e a h =
    ap (λ q. q ++ drop (i + 1) (placed n f)) a
    ∙ append_assoc before (o ∷ []) (drop (i + 1) (placed n f))
    ∙ ap (λ q. before ++ q ∷ drop (i + 1) (placed n f)) h
    ∙ ap (λ q. before ++ q) (sym (place_is n f i l))
    ∙ e

pub all_placed : {A : Type 0} (n : ℕ) (f : ℕ → Option A) (i : ℕ) (before : List (Option A)) → n ≤ i → before ++ drop i (placed n f) ≡ placed n f → before ≡ placed n f
all_placed n f i before l e = sym (append-nil before) ∙ ap (λ q. before ++ q) (sym (no_place n f i l)) ∙ e

pub more_onto : (vs ws : List AbstractValue) (v : AbstractValue) (k : ℕ) (t : ViewTree) (left after : ViewMembers) (r : Row) → onto vs (element_values left) ≡ r → left ≡ member k t after → v ≡ value_of t → ws ≡ vs ++ v ∷ [] → onto ws (element_values after) ≡ r
more_onto vs ws v k t left after r e s h a =
    ap (λ q. onto q (element_values after)) a
    ∙ onto_more vs v (element_values after)
    ∙ ap (λ q. onto vs (present q (element_values after))) h
    ∙ ap (λ q. onto vs (element_values q)) (sym s)
    ∙ e

pub all_onto : (vs : List AbstractValue) (left : ViewMembers) (r : Row) → onto vs (element_values left) ≡ r → left ≡ no_member → row_of_list vs ≡ r
all_onto vs left r e s = sym (onto_end vs) ∙ ap (λ q. onto vs (element_values q)) (sym s) ∙ e

-- ---- components that are asked for in turn

-- the members that are left have the components from place i on
abbrev pub AreLeft : ℕ → ViewMembers → ViewMembers → Type 0
AreLeft i ms left = (j : ℕ) → i ≤ j → component_value ms j ≡ component_value left j

pub places : {A : Type 0} (n : ℕ) (f : ℕ → Option A) → length (placed n f) ≡ n
places zero f = refl
places (suc n) f = ap suc (places n (λ j. f (j + 1)))

-- a value with few components has no place of more than 32 bits
pub small_place : (n i : ℕ) (ms : ViewMembers) → i < n → length (components_of n ms) ≤ 320 → i < 2 ^ 32
small_place n i ms l f = let e = places n (λ i. component_value ms i) in let p : 320 < 2 ^ 32 = lit< tt in omega (arith, l, f, e, p)

pub place_taken : (n i : ℕ) (ms left : ViewMembers) (o : Option AbstractValue) → i < n → AreLeft i ms left → component_value left i ≡ o → drop i (components_of n ms) ≡ o ∷ drop (i + 1) (components_of n ms)
place_taken n i ms left o l a e = place_is n (λ i. component_value ms i) i l ∙ ap (λ q. q ∷ drop (i + 1) (components_of n ms)) (a i (omega arith) ∙ e)

pub later_left : (i : ℕ) (ms left after : ViewMembers) → AreLeft i ms left → ((j : ℕ) → i < j → component_value after j ≡ component_value left j) → AreLeft (i + 1) ms after
later_left i ms left after a f j l = a j (omega (arith, l)) ∙ sym (f j (omega (arith, l)))
