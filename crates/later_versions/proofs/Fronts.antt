-- Lists that begin with the elements of others, one for one.
use Rattle.std.proofs.Common.{arith, ◌≡◌, ℕ, zero, suc, ◌+◌, ◌<◌, ◌≤◌, List, [], ◌∷◌, length, map, drop, get_or, refl, sym, ap, subst, ◌∙◌, inl, inr, true, false}
use Rattle.std.specs.Prelude.{slice_get, ◌⊎◌, ◌↔◌, IsTrue, Some, option_map, Bool}
use mathlib.Core.Bool.{beq, not}
use Rattle.std.proofs.lemmas.Bool.{cases_lt}
use Rattle.std.proofs.lemmas.List.{drop_more, get_or-map, length-map}
use Rattle.std.proofs.lemmas.Option.{slice_get_read, slice_get_within, slice_get-get_or, slice_get-map, same_Some}
use Rattle.later_versions.specs.Differences.{AreSameTo}
use Rattle.later_versions.specs.Later.{IsFront}

pub yes : {P : Type 0} → P → IsTrue Bool.true ↔ P
yes p = (λ t. p, λ q. refl)

pub no : {P : Type 0} → (P → ⊥) → IsTrue Bool.false ↔ P
no n = (λ t. absurd (cc), λ p. absurd (n p))

pub onward : {P Q R : Type 0} → P ↔ Q → (Q → R) → (R → Q) → P ↔ R
onward a f g = (λ p. f (a.0 p), λ r. a.1 (g r))

-- a list has an element at each place before its end
pub slice_get_some : {A : Type 0} (xs : List A) (i : ℕ) → i < length xs → (x : A) × (slice_get xs i ≡ Some x)
slice_get_some [] i l = absurd (omega (arith, l))
slice_get_some (x ∷ xs) zero l = (x, refl)
slice_get_some (x ∷ xs) (suc i) l = slice_get_some xs i (omega (arith, l))

-- the element at a place of a mapped list
pub mapped_at : {A B : Type 0} (f : A → B) (xs : List A) (i : ℕ) (x : A)
    → i < length xs
    → x ≡ get_or xs i x
    → slice_get (map f xs) i ≡ Some (f x)
mapped_at f xs i x l e = slice_get-map f xs i ∙ ap (option_map f) (slice_get_read xs (length xs) i x refl l e)

-- elements at places below n keep to the relation
abbrev pub FrontTo : {A : Type 0} (R : A → A → Type 0) (xs ys : List A) (n : ℕ) → Type 0
FrontTo {A} R xs ys n = (i : ℕ) (x y : A) → i < n → slice_get xs i ≡ Some x → slice_get ys i ≡ Some y → R x y

pub front_next : {A B : Type 0} (f : A → B) (R : B → B → Type 0) (xs ys : List A) (i : ℕ) (x y : A)
    → i < length xs
    → i < length ys
    → x ≡ get_or xs i x
    → y ≡ get_or ys i y
    → R (f x) (f y)
    → FrontTo R (map f xs) (map f ys) i
    → FrontTo R (map f xs) (map f ys) (i + 1)
front_next f R xs ys i x y l m e g r so = λ j u v h a b. elim (cases_lt j i) [
  | inl k ↦ so j u v k a b
  | inr k ↦ (
      let s : i ≡ j = omega (arith, h, k) in
      let t = same_Some (f x) u (sym (mapped_at f xs i x l e) ∙ ap (slice_get (map f xs)) s ∙ a) in
      let w = same_Some (f y) v (sym (mapped_at f ys i y m g) ∙ ap (slice_get (map f ys)) s ∙ b) in
      subst (λ q. R q v) t (subst (R (f x)) w r)
      )
]

pub front_all : {A B : Type 0} (f : A → B) (R : B → B → Type 0) (xs ys : List A) (i : ℕ)
    → length xs ≤ i
    → length xs ≤ length ys
    → FrontTo R (map f xs) (map f ys) i
    → IsFront R (map f xs) (map f ys)
front_all f R xs ys i l m so = record {
  none_dropped = (let a = length-map xs f in let b = length-map ys f in omega (arith, a, b, m));
  projected = λ j u v a b. so j u v (let w = slice_get_within (map f xs) j u a in let n = length-map xs f in omega (arith, w, n, l)) a b;
}

-- the lists are the same up to a place where one of them ends
pub same_to_end : {A B : Type 0} (f : A → B) (R : B → B → Type 0) (xs ys : List A) (i : ℕ)
    → i ≤ length xs
    → i ≤ length ys
    → (length xs ≤ i) ⊎ (length ys ≤ i)
    → FrontTo R (map f xs) (map f ys) i
    → AreSameTo R (map f xs) (map f ys) i
same_to_end f R xs ys i l m n so = record {
  in_first = (let a = length-map xs f in omega (arith, a, l));
  in_second = (let b = length-map ys f in omega (arith, b, m));
  before = so;
  other = λ u v a b r. elim n [
    | inl k ↦ absurd (let w = slice_get_within (map f xs) i u a in let c = length-map xs f in omega (arith, w, c, k))
    | inr k ↦ absurd (let w = slice_get_within (map f ys) i v b in let c = length-map ys f in omega (arith, w, c, k))
  ];
}

-- or where their elements differ
pub same_to_other : {A B : Type 0} (f : A → B) (R : B → B → Type 0) (xs ys : List A) (i : ℕ) (x y : A)
    → i < length xs
    → i < length ys
    → x ≡ get_or xs i x
    → y ≡ get_or ys i y
    → (R (f x) (f y) → ⊥)
    → FrontTo R (map f xs) (map f ys) i
    → AreSameTo R (map f xs) (map f ys) i
same_to_other f R xs ys i x y l m e g n so = record {
  in_first = (let a = length-map xs f in omega (arith, a, l));
  in_second = (let b = length-map ys f in omega (arith, b, m));
  before = so;
  other = λ u v a b r. (
      let t = same_Some u (f x) (sym a ∙ mapped_at f xs i x l e) in
      let w = same_Some v (f y) (sym b ∙ mapped_at f ys i y m g) in
      n (subst (λ q. R q (f y)) t (subst (R u) w r))
      );
}

-- lists that are the same to the end of the first one
pub front_whole : {A : Type 0} {R : A → A → Type 0} {xs ys : List A} {i : ℕ}
    → AreSameTo R xs ys i
    → length xs ≤ i
    → IsFront R xs ys
front_whole {xs = xs} h l = record {
  none_dropped = (let b = h.in_second in omega (arith, b, l));
  projected = λ j x y a b. h.before j x y (let w = slice_get_within xs j x a in omega (arith, w, l)) a b;
}

-- and those that are not
pub front_other : {A : Type 0} {R : A → A → Type 0} {xs ys : List A} {i : ℕ}
    → AreSameTo R xs ys i
    → i < length xs
    → IsFront R xs ys
    → ⊥
front_other {xs = xs} {ys = ys} {i = i} h l f =
    let m : i < length ys = (let d = f.none_dropped in omega (arith, d, l)) in
    let a = slice_get_some xs i l in
    let b = slice_get_some ys i m in
    h.other a.0 b.0 a.1 b.1 (f.projected i a.0 b.0 a.1 b.1)

front_tail : {A : Type 0} {R : A → A → Type 0} {x y : A} {xs ys : List A}
    → IsFront R (x ∷ xs) (y ∷ ys)
    → IsFront R xs ys
front_tail h = record {
  none_dropped = (let a = h.none_dropped in omega (arith, a));
  projected = λ i. h.projected (suc i);
}

-- if both have as many elements, what is compared is the same
pub same_mapped : {A B : Type 0} (f : A → B) (xs ys : List A)
    → length xs ≡ length ys
    → IsFront (λ x y. f x ≡ f y) xs ys
    → map f xs ≡ map f ys
same_mapped f [] [] l h = refl
same_mapped f [] (y ∷ ys) l h = absurd (omega (arith, l))
same_mapped f (x ∷ xs) [] l h = absurd (omega (arith, l))
same_mapped f (x ∷ xs) (y ∷ ys) l h =
    ap (λ q. q ∷ map f xs) (h.projected 0 x y refl refl)
    ∙ ap (λ q. f y ∷ q) (same_mapped f xs ys (omega (arith, l)) (front_tail h))

pub same_lists : {A : Type 0} (xs ys : List A) → length xs ≡ length ys → IsFront (λ x y. x ≡ y) xs ys → xs ≡ ys
same_lists [] [] l h = refl
same_lists [] (y ∷ ys) l h = absurd (omega (arith, l))
same_lists (x ∷ xs) [] l h = absurd (omega (arith, l))
same_lists (x ∷ xs) (y ∷ ys) l h =
    ap (λ q. q ∷ xs) (h.projected 0 x y refl refl)
    ∙ ap (λ q. y ∷ q) (same_lists xs ys (omega (arith, l)) (front_tail h))

-- and back
pub mapped_same : {A B : Type 0} (f : A → B) (xs ys : List A)
    → map f xs ≡ map f ys
    → (length xs ≡ length ys) × IsFront (λ x y. f x ≡ f y) xs ys
mapped_same f xs ys e =
    let many : length xs ≡ length ys = sym (length-map xs f) ∙ ap length e ∙ length-map ys f in (
      many,
      record {
        none_dropped = omega (arith, many);
        projected = λ i x y a b. same_Some (f x) (f y)
            (sym (slice_get-map f xs i ∙ ap (option_map f) a) ∙ ap (λ q. slice_get q i) e ∙ slice_get-map f ys i ∙ ap (option_map f) b);
      },
    )

pub lists_same : {A : Type 0} (xs ys : List A) → xs ≡ ys → (length xs ≡ length ys) × IsFront (λ x y. x ≡ y) xs ys
lists_same xs ys e = (
  ap length e,
  record {
    none_dropped = (let l = ap length e in omega (arith, l));
    projected = λ i x y a b. same_Some x y (sym a ∙ ap (λ q. slice_get q i) e ∙ b);
  },
)

-- ---- lists from a place on

pub drop_at : {A B : Type 0} (f : A → B) (xs : List A) (i : ℕ) (d : A)
    → i < length xs
    → drop i (map f xs) ≡ f (get_or xs i d) ∷ drop (i + 1) (map f xs)
drop_at f xs i d h =
    let l = length-map xs f in
    drop_more (map f xs) i (f d) (omega (arith, h, l))
    ∙ ap (λ q. q ∷ drop (i + 1) (map f xs)) (get_or-map f xs i d (f d) h)

-- P holds for the whole exactly if it holds for what is left
pub left_at : {B : Type 0} (P : List B → Type 0) (ys left : List B) (i : ℕ)
    → drop i ys ≡ left
    → P ys ↔ P (drop i ys)
    → P ys ↔ P left
left_at P ys left i e a = subst (λ q. P ys ↔ P q) e a

-- a search that hasn't found it yet
pub not_here : {P Q R : Type 0} → P ↔ (Q ⊎ R) → (Q → ⊥) → P ↔ R
not_here a n = (λ p. elim (a.0 p) [ inl q ↦ absurd (n q) | inr r ↦ r ], λ r. a.1 (inr r))

-- two tests that answer the same
same_truth : {P Q : Type 0} (a b : Bool) → IsTrue a ↔ P → IsTrue b ↔ Q → P ↔ Q → a ≡ b
same_truth true true f g h = refl
same_truth true false f g h = absurd (let e = g.1 (h.0 (f.0 refl)) in cc)
same_truth false true f g h = absurd (let e = f.1 (h.1 (g.0 refl)) in cc)
same_truth false false f g h = refl

both_true : {P Q : Type 0} (a b : Bool) → a ≡ b → IsTrue a ↔ P → IsTrue b ↔ Q → P ↔ Q
both_true a b e f g = (λ p. g.0 (sym e ∙ f.1 p), λ q. f.0 (e ∙ g.1 q))

pub same_beq : (a b : Bool) → not (beq a b) ≡ false → a ≡ b
same_beq true true e = refl
same_beq true false e = absurd cc
same_beq false true e = absurd cc
same_beq false false e = refl

pub beq_true : {P Q : Type 0} (a b : Bool) → not (beq a b) ≡ false → IsTrue a ↔ P → IsTrue b ↔ Q → P ↔ Q
beq_true a b e f g = both_true a b (same_beq a b e) f g

pub other_beq : (a b : Bool) → not (beq a b) ≡ true → a ≡ b → ⊥
other_beq true true e s = absurd cc
other_beq true false e s = absurd cc
other_beq false true e s = absurd cc
other_beq false false e s = absurd cc

pub beq_false : {P Q : Type 0} (a b : Bool) → not (beq a b) ≡ true → IsTrue a ↔ P → IsTrue b ↔ Q → P ↔ Q → ⊥
beq_false a b e f g h = other_beq a b e (same_truth a b f g h)

-- the element at a place as code reads it
pub mapped_got : {A B : Type 0} (f : A → B) (xs : List A) (i : ℕ) (x : A)
    → i < length xs
    → x ≡ get_or xs i x
    → slice_get (map f xs) i ≡ Some (f (get_or xs i x))
mapped_got f xs i x l e = mapped_at f xs i x l e ∙ ap (λ q. Some (f q)) e

pub got : {A : Type 0} (xs : List A) (i : ℕ) (d : A) → i < length xs → slice_get xs i ≡ Some (get_or xs i d)
got xs i d l = slice_get-get_or xs i d l

pub beq_same : (a b : Bool) → IsTrue (beq a b) ↔ (a ≡ b)
beq_same true true = yes refl
beq_same true false = no (λ e. absurd cc)
beq_same false true = no (λ e. absurd cc)
beq_same false false = yes refl
