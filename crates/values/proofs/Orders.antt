-- Lists that are others without some of their members, and names in order.
use Rattle.std.proofs.Common.{◌≡◌, ◌⊎◌, inl, inr, ℕ, zero, suc, ◌+◌, ◌<◌, ◌≤◌, List, [], ◌∷◌, ◌++◌, Some, refl, sym, subst, ap, ◌∙◌, take, length, arith}
use Rattle.std.specs.Prelude.{slice_get}
use Rattle.std.proofs.lemmas.Option.{same_Some, none-some}
use Rattle.trees.specs.Values.{Name}
use Rattle.names.specs.Modules.{OccursIn, AreDifferent}
use Rattle.value_notations.specs.Notations.{IsPartOf, none_left, left_out, taken}
use Rattle.value_notations.specs.Wrong.{IsBefore}
use Rattle.values.specs.proving.Arranging.{IsJumbled}

pub part_none : {A : Type 0} (cs : List A) → IsPartOf [] cs
part_none [] = none_left
part_none (c ∷ cs) = left_out (part_none cs)

-- one more member, after the others
pub part_more : {A : Type 0} {us : List A} (cs : List A) (m p : ℕ) (x : A) → IsPartOf us (take m cs) → m ≤ p →
    slice_get cs p ≡ Some x → IsPartOf (us ++ x ∷ []) (take (suc p) cs)
part_more [] m p x h l e = absurd cc
part_more (c ∷ cs) zero zero x none_left l e =
    subst (λ y. IsPartOf (y ∷ []) (c ∷ [])) (same_Some c x e) (taken none_left)
part_more (c ∷ cs) zero (suc p) x none_left l e = left_out (part_more cs zero p x none_left (omega arith) e)
part_more (c ∷ cs) (suc m) zero x h l e = absurd (omega (arith, l))
part_more (c ∷ cs) (suc m) (suc p) x (left_out h) l e = left_out (part_more cs m p x h (omega (arith, l)) e)
part_more (c ∷ cs) (suc m) (suc p) x (taken h) l e = taken (part_more cs m p x h (omega (arith, l)) e)

pub part_extend : {A : Type 0} {us : List A} (cs : List A) (m : ℕ) → IsPartOf us (take m cs) → IsPartOf us cs
part_extend [] zero h = h
part_extend [] (suc m) h = h
part_extend (c ∷ cs) zero none_left = part_none (c ∷ cs)
part_extend (c ∷ cs) (suc m) (left_out h) = left_out (part_extend cs m h)
part_extend (c ∷ cs) (suc m) (taken h) = taken (part_extend cs m h)

pub part_in : {A : Type 0} {us cs : List A} (x : A) (i : ℕ) → IsPartOf us cs → slice_get us i ≡ Some x → OccursIn cs x
part_in x i none_left e = absurd (none-some x e)
part_in x i (left_out h) e = let s = part_in x i h e in (suc s.0, s.1)
part_in x zero (taken h) e = (0, e)
part_in x (suc i) (taken h) e = let s = part_in x i h e in (suc s.0, s.1)

later : {cs : List Name} {x y : Name} (c : Name) → IsBefore cs x y → IsBefore (c ∷ cs) x y
later c b =
    let a = b.apart in
    record { first = suc b.first; second = suc b.second; apart = omega (arith, a); here = b.here; there = b.there }

-- members keep their order
pub part_before : {us cs : List Name} (i j : ℕ) (y x : Name) → IsPartOf us cs → i < j → slice_get us i ≡ Some y →
    slice_get us j ≡ Some x → IsBefore cs y x
part_before i j y x none_left l e f = absurd (none-some y e)
part_before i j y x (left_out {x = c} h) l e f = later c (part_before i j y x h l e f)
part_before i zero y x (taken h) l e f = absurd (omega (arith, l))
part_before zero (suc j) y x (taken h) l e f =
    let s = part_in x j h f in
    record { first = 0; second = suc s.0; apart = omega arith; here = e; there = s.1 }
part_before (suc i) (suc j) y x (taken {x = c} h) l e f = later c (part_before i j y x h (omega (arith, l)) e f)

pub less_or_more : (i j : ℕ) → (i ≡ j) ⊎ ((i < j) ⊎ (j < i))
less_or_more i j = grind arith

-- two places of distinct members with the same element are the same
pub one_place : {A : Type 0} (xs : List A) (x : A) (i j : ℕ) → AreDifferent xs → slice_get xs i ≡ Some x →
    slice_get xs j ≡ Some x → i ≡ j
one_place xs x i j d e f =
    elim (less_or_more i j) [
      | inl h ↦ h
      | inr h ↦ elim h [
        | inl l ↦ absurd (d x (record { first = i; second = j; apart = l; here = e; there = f }))
        | inr l ↦ absurd (d x (record { first = j; second = i; apart = l; here = f; there = e }))
      ]
    ]

-- of two distinct names one is before the other
pub not_both : {cs : List Name} (x y : Name) → AreDifferent cs → IsBefore cs x y → IsBefore cs y x → ⊥
not_both {cs} x y d t b =
    let p = one_place cs y b.first t.second d b.here t.there in
    let q = one_place cs x b.second t.first d b.there t.here in
    let l = b.apart in
    let m = t.apart in
    omega (arith, p, q, l, m)

-- the order is kept if no name comes directly before one that belongs before it
pub turned_none : {cs fs : List Name} {i : ℕ} → AreDifferent cs → IsJumbled cs fs i → IsPartOf fs cs → ⊥
turned_none {cs} {fs} {i} d u h =
    let n = u.next in
    not_both u.name u.other d u.turned
    (part_before u.before i u.other u.name h (omega (arith, n)) u.other_there u.there)

-- ---- the walk over fields

-- The first i fields are in order, and the component of the last of them is at this place.
pub record IsReached (cs fs : List Name) (i last : ℕ) : Type 0 where
  pub before : ℕ
  pub next : i ≡ suc before
  pub name : Name
  pub there : slice_get fs before ≡ Some name
  pub place : slice_get cs last ≡ Some name
  pub part : IsPartOf (take i fs) (take (suc last) cs)

abbrev pub IsWalked : (parts fields : List Name) → ℕ → ℕ → Type 0
IsWalked cs fs i last = (i ≡ 0) ⊎ IsReached cs fs i last

taken_more : {A : Type 0} (xs : List A) (i : ℕ) (x : A) → slice_get xs i ≡ Some x → take (i + 1) xs ≡ take i xs ++ x ∷ []
taken_more [] i x e = absurd cc
taken_more (y ∷ xs) zero x e = let q : y ≡ x = cc in rw q refl
taken_more (y ∷ xs) (suc i) x e = let q : suc i + 1 ≡ suc (i + 1) = omega arith in rw q (ap (λ t. y ∷ t) (taken_more xs i x e))

less_or_same : (m p : ℕ) → m ≤ p → (m < p) ⊎ (m ≡ p)
less_or_same m p l = grind arith

module _ (cs fs : List Name) (i last p : ℕ) (x : Name) (e : slice_get fs i ≡ Some x) (g : slice_get cs p ≡ Some x) where
  reached : (m : ℕ) → IsPartOf (take i fs) (take m cs) → m ≤ p → IsReached cs fs (i + 1) p
  reached m h l =
      record {
        before = i;
        next = omega arith;
        name = x;
        there = e;
        place = g;
        part = subst (λ t. IsPartOf t (take (suc p) cs)) (sym (taken_more fs i x e)) (part_more cs m p x h l g);
      }

  pub walks : AreDifferent fs → IsWalked cs fs i last → (0 < i → last ≤ p) → IsWalked cs fs (i + 1) p
  walks d (inl z) o = inr (reached 0 (subst (λ k. IsPartOf (take k fs) (take 0 cs)) (sym z) none_left) (omega arith))
  walks d (inr r) o =
      let n = r.next in
      elim (less_or_same last p (o (omega (arith, n)))) [
        | inl l ↦ inr (reached (suc last) r.part (omega (arith, l)))
        | inr q ↦ (let same : r.name ≡ x = same_Some r.name x (sym r.place ∙ ap (slice_get cs) q ∙ g) in
            absurd (d x (record { first = r.before; second = i; apart = omega (arith, n); here = r.there ∙ ap Some same; there = e })))
      ]

  pub jumbles : IsWalked cs fs i last → 0 < i → p < last → IsJumbled cs fs i
  jumbles (inl z) m l = absurd (omega (arith, z, m))
  jumbles (inr r) m l =
      record {
        before = r.before;
        next = r.next;
        name = x;
        other = r.name;
        there = e;
        other_there = r.there;
        turned = record { first = p; second = last; apart = l; here = g; there = r.place };
      }

-- before a place that was reached they are in order
pub walked_before : (cs fs : List Name) (i last : ℕ) → IsWalked cs fs i last → 0 < i → IsPartOf (take i fs) cs
walked_before cs fs i last (inl z) l = absurd (omega (arith, z, l))
walked_before cs fs i last (inr r) l = part_extend cs (suc last) r.part

all_taken : {A : Type 0} (xs : List A) (i : ℕ) → length xs ≤ i → take i xs ≡ xs
all_taken [] zero l = refl
all_taken [] (suc i) l = refl
all_taken (x ∷ xs) zero l = absurd (omega (arith, l))
all_taken (x ∷ xs) (suc i) l = ap (λ t. x ∷ t) (all_taken xs i (omega (arith, l)))

pub walked : (cs fs : List Name) (i last : ℕ) → IsWalked cs fs i last → length fs ≤ i → IsPartOf fs cs
walked cs fs i last (inr r) l =
    part_extend cs (suc last) (subst (λ t. IsPartOf t (take (suc last) cs)) (all_taken fs i l) r.part)
walked cs [] i last (inl z) l = part_none cs
walked cs (f ∷ fs) i last (inl z) l = absurd (omega (arith, z, l))
