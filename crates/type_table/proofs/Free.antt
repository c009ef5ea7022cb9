-- The least number that a list leaves free.
use Rattle.std.proofs.Common.{◌≡◌, inl, inr, ℕ, zero, suc, ◌+◌, ◌<◌, ◌≤◌, ◌||◌, Bool, true, false, cond, List, [], ◌∷◌, length, Some, refl, sym, subst, ap, arith}
use Rattle.std.proofs.lemmas.Bool.{cases_order, cases_lt}
use Rattle.std.specs.Prelude.{slice_get, ℤ, pos}
use Rattle.std.specs.List.{AllByRecursion, IsDistinct}
use Rattle.std.specs.Ordering.{int_eq}
use Rattle.std.proofs.lemmas.Cmp.{int_eq_equiv}
use Rattle.std.proofs.lemmas.Bool.Decides.{Decides-int_eq}
use Rattle.std.proofs.lemmas.Map.Made.{length-le_from_is_member}
use Rattle.names.specs.Modules.{OccursIn}
use Rattle.type_table.specs.proving.Sets.{IsFree}
use Rattle.type_table.specs.Items.{is_among, first_free, least_free}

same_number : (m n : ℕ) → pos m ≡ pos n → m ≡ n
same_number m n e = cc

-- ---- being among numbers

on_head : (z y : ℤ) (ys : List ℤ) (b : Bool) → int_eq z y ≡ b → (b || is_among z ys) ≡ true →
    (is_among z ys ≡ true → OccursIn ys z) → OccursIn (y ∷ ys) z
on_head z y ys true e h rest = (0, ap Some (sym ((Decides-int_eq z y).0 e)))
on_head z y ys false e h rest = let r = rest h in (suc r.0, r.1)

pub among_occurs : (z : ℤ) (ys : List ℤ) → is_among z ys ≡ true → OccursIn ys z
among_occurs z [] h = absurd cc
among_occurs z (y ∷ ys) h = on_head z y ys (int_eq z y) refl h (among_occurs z ys)

pub occurs_among_at : (z : ℤ) (ys : List ℤ) (i : ℕ) → slice_get ys i ≡ Some z → is_among z ys ≡ true
occurs_among_at z [] i e = absurd cc
occurs_among_at z (y ∷ ys) zero e =
    let q : y ≡ z = cc in
    let t : int_eq z y ≡ true = (Decides-int_eq z y).1 (sym q) in
    rw t refl
occurs_among_at z (y ∷ ys) (suc i) e = either (int_eq z y) (is_among z ys) (occurs_among_at z ys i e)
  where
    either : (b c : Bool) → c ≡ true → (b || c) ≡ true
    either true c e = refl
    either false c e = e

pub occurs_among : (z : ℤ) (ys : List ℤ) → OccursIn ys z → is_among z ys ≡ true
occurs_among z ys s = occurs_among_at z ys s.0 s.1

pub not_among : (z : ℤ) (ys : List ℤ) → is_among z ys ≡ false → OccursIn ys z → ⊥
not_among z ys e s = let t = occurs_among z ys s in absurd cc

-- ---- as many numbers in a row as a list has at most

-- n, n + 1 .., k numbers
abbrev up : ℕ → ℕ → List ℤ
up n zero = []
up n (suc k) = pos n ∷ up (suc n) k

length_up : (n k : ℕ) → length (up n k) ≡ k
length_up n zero = refl
length_up n (suc k) = ap suc (length_up (suc n) k)

unlike : (m n : ℕ) (b : Bool) → m < n → int_eq (pos m) (pos n) ≡ b → b ≡ false
unlike m n true l e = let q = same_number m n ((Decides-int_eq (pos m) (pos n)).0 e) in absurd (omega (arith, l, q))
unlike m n false l e = refl

head_apart : (m n k : ℕ) → m < n → AllByRecursion (λ y. int_eq (pos m) y ≡ false) (up n k)
head_apart m n zero l = tt
head_apart m n (suc k) l = (unlike m n (int_eq (pos m) (pos n)) l refl, head_apart m (suc n) k (omega (arith, l)))

up_distinct : (n k : ℕ) → IsDistinct int_eq (up n k)
unfolding IsDistinct
up_distinct n zero = tt
up_distinct n (suc k) = (head_apart n (suc n) k (omega arith), up_distinct (suc n) k)

in_up : (n k : ℕ) (z : ℤ) → OccursIn (up n k) z → (m : ℕ) × (z ≡ pos m) × (n ≤ m) × (m < n + k)
in_up n zero z s = let e : slice_get [] s.0 ≡ Some z = s.1 in absurd cc
in_up n (suc k) z (zero, e) = (n, (let q : pos n ≡ z = cc in sym q), omega arith, omega arith)
in_up n (suc k) z (suc i, e) =
    let r = in_up (suc n) k z (i, e) in
    let a = r.2 in
    let b = r.3 in
    (r.0, r.1, omega (arith, a), omega (arith, b))

pub row_fits : (n k : ℕ) (used : List ℤ) → ((m : ℕ) → n ≤ m → m < n + k → OccursIn used (pos m)) → k ≤ length used
row_fits n k used h =
    let l = length-le_from_is_member int_eq_equiv (up n k) used (up_distinct n k) (λ q e.
    let r = in_up n k q (among_occurs q (up n k) e) in
    occurs_among q used (subst (λ z. OccursIn used z) (sym r.1) (h r.0 r.2 r.3))) in
    omega (arith, l, length_up n k)

-- ---- the least number from n on that isn't in the list

pub one_free : (used other : List ℤ) (n y z : ℕ) → ((w : ℤ) → OccursIn used w → OccursIn other w) →
    ((w : ℤ) → OccursIn other w → OccursIn used w) → IsFree used n y → IsFree other n z → y ≡ z
one_free used other n y z f g a b = elim (cases_order y z) [
  | inl e ↦ e
  | inr (inl l) ↦ absurd (a.unused (g (pos y) (b.taken y a.from l)))
  | inr (inr l) ↦ absurd (b.unused (f (pos z) (a.taken z b.from l)))
]

-- numbers from n to m that are all taken
abbrev pub AreTaken : List ℤ → ℕ → ℕ → Type 0
AreTaken used n m = (k : ℕ) → n ≤ k → k < m → OccursIn used (pos k)

pub taken_more : (used : List ℤ) (n m : ℕ) → AreTaken used n m → OccursIn used (pos m) → AreTaken used n (suc m)
taken_more used n m h s k l r = elim (cases_lt k m) [
  | inl a ↦ h k l a
  | inr b ↦ (let e : k ≡ m = omega (arith, b, r) in subst (λ z. OccursIn used (pos z)) (sym e) s)
]

-- if as many numbers are taken as the list has, the next one is free
pub taken_all : (used : List ℤ) (n m : ℕ) → n + length used ≤ m → AreTaken used n m → OccursIn used (pos m) → ⊥
taken_all used n m l h s =
    let all = taken_more used n m h s in
    let d = row_fits n (suc (length used)) used (λ k a b. all k a (omega (arith, l, b))) in
    omega (arith, d)

first_on : (used : List ℤ) (n m k : ℕ) (b : Bool) → is_among (pos m) used ≡ b → n + length used ≤ m + suc k →
    n ≤ m → AreTaken used n m →
    (n + length used ≤ suc m + k → n ≤ suc m → AreTaken used n (suc m) → IsFree used n (first_free k (suc m) used)) → IsFree used n (cond b (first_free k (suc m) used) m)
first_on used n m k true e l f h go = go (omega (arith, l)) (omega (arith, f)) (taken_more used n m h (among_occurs (pos m) used e))
first_on used n m k false e l f h go = record { from = f; unused = not_among (pos m) used e; taken = h }

first_is : (used : List ℤ) (n m k : ℕ) → n + length used ≤ m + k → n ≤ m → AreTaken used n m →
    IsFree used n (first_free k m used)
first_is used n m zero l f h = record { from = f; unused = taken_all used n m (omega (arith, l)) h; taken = h }
first_is used n m (suc k) l f h = first_on used n m k (is_among (pos m) used) refl l f h (λ a b t. first_is used n (suc m) k a b t)

pub free_is : (used : List ℤ) (n : ℕ) → IsFree used n (least_free n used)
free_is used n = first_is used n n (length used) (omega arith) (omega arith) (λ k l r. absurd (omega (arith, l, r)))
