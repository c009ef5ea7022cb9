-- Bits that are set at places, and how many bits there are.
use Rattle.std.proofs.Common.{◌≡◌, ℕ, zero, suc, ◌<◌, ◌≤◌, ◌+◌, Bool, true, false, List, [], ◌∷◌, ◌++◌, length, take, map, cond, Some, None, Option, refl, sym, ap, ◌∙◌, subst, arith, inl, inr}
use Rattle.std.specs.Prelude.{◌⊎◌, ◌↔◌, slice_get, slice_index_or, bytes_eq, replicate, set}
use Rattle.std.specs.List.{AllByRecursion}
use Rattle.std.specs.Prelude.{option_map}
use Rattle.std.specs.Borrow.{Bor}
use Rattle.std.proofs.lemmas.Option.{same_Some, slice_get-get_or, slice_get-map}
use Rattle.asn_base.specs.Types.{NamedBit}
use Rattle.asn_base.specs.Schemas.{AreNamedBits}
use Rattle.value_builders.specs.Named.{bit_of}
use Rattle.value_builders.specs.Made.{IsAmong, AreBitPlaces, AreSetBits}
use Rattle.value_builders.proofs.Setting.{mapped_more}
use Rattle.asn_base.specs.proving.Lists.{all_more, each_weaker}

-- ---- bits by name

passed_bit : (b : Bool) (p : ℕ) (o : Option ℕ) → cond b (Some p) o ≡ None → (b ≡ false) × (o ≡ None)
passed_bit true p o e = absurd cc
passed_bit false p o e = (refl, e)

pub bit_at : (n : List ℕ) (ms : List NamedBit) (i : ℕ) (m : NamedBit) → bit_of (take i ms) n ≡ None → slice_get ms i ≡ Some m → bytes_eq m.name n ≡ true → bit_of ms n ≡ Some m.place
bit_at n [] i m a s b = absurd cc
bit_at n (y ∷ ms) zero m a s b = let q : y ≡ m = cc in rw (q, b) refl
bit_at n (y ∷ ms) (suc i) m a s b =
    let p = passed_bit (bytes_eq y.name n) y.place (bit_of (take i ms) n) a in
    rw (p.0) (bit_at n ms i m p.1 s b)

pub bit_past : (n : List ℕ) (ms : List NamedBit) (i : ℕ) (m : NamedBit) → bit_of (take i ms) n ≡ None → slice_get ms i ≡ Some m → bytes_eq m.name n ≡ false → bit_of (take (i + 1) ms) n ≡ None
bit_past n [] i m a s b = absurd cc
bit_past n (y ∷ ms) zero m a s b = let q : y ≡ m = cc in rw (q, b) refl
bit_past n (y ∷ ms) (suc i) m a s b =
    let p = passed_bit (bytes_eq y.name n) y.place (bit_of (take i ms) n) a in
    let q : suc i + 1 ≡ suc (i + 1) = omega arith in
    rw (q, p.0) (bit_past n ms i m p.1 s b)

pub no_bit : (n : List ℕ) (ms : List NamedBit) (i : ℕ) → bit_of (take i ms) n ≡ None → length ms ≤ i → bit_of ms n ≡ None
no_bit n [] i a l = refl
no_bit n (y ∷ ms) zero a l = absurd (omega (arith, l))
no_bit n (y ∷ ms) (suc i) a l =
    let p = passed_bit (bytes_eq y.name n) y.place (bit_of (take i ms) n) a in
    rw (p.0) (no_bit n ms i p.1 (omega (arith, l)))

-- ---- names, one after another

taken_more : {A : Type 0} (xs : List A) (i : ℕ) (x : A) → slice_get xs i ≡ Some x → take (i + 1) xs ≡ take i xs ++ x ∷ []
taken_more [] i x e = absurd cc
taken_more (y ∷ xs) zero x e = let q : y ≡ x = cc in rw q refl
taken_more (y ∷ xs) (suc i) x e =
    let q : suc i + 1 ≡ suc (i + 1) = omega arith in
    rw q (ap (λ z. y ∷ z) (taken_more xs i x e))

pub taken_whole : {A : Type 0} (xs : List A) (i : ℕ) → length xs ≤ i → take i xs ≡ xs
taken_whole [] zero l = refl
taken_whole [] (suc i) l = refl
taken_whole (x ∷ xs) zero l = absurd (omega (arith, l))
taken_whole (x ∷ xs) (suc i) l = ap (λ z. x ∷ z) (taken_whole xs i (omega (arith, l)))

pub places_more : (bs : List NamedBit) (names : List (List ℕ)) (i : ℕ) (name : List ℕ) (ps : List ℕ) (p : ℕ)
    → AreBitPlaces bs (take i names) ps
    → slice_get names i ≡ Some name
    → bit_of bs name ≡ Some p
    → AreBitPlaces bs (take (i + 1) names) (ps ++ p ∷ [])
places_more bs names i name ps p a s e = record {
  found =
      ap (map (bit_of bs)) (taken_more names i name s)
      ∙ mapped_more (bit_of bs) (take i names) name
      ∙ (λ k. a.found k ++ e k ∷ [])
      ∙ sym (mapped_more Some ps p);
}

pub places_whole : (bs : List NamedBit) (names : List (List ℕ)) (i : ℕ) (ps : List ℕ)
    → AreBitPlaces bs (take i names) ps
    → length names ≤ i
    → AreBitPlaces bs names ps
places_whole bs names i ps a l = subst (λ q. AreBitPlaces bs q ps) (taken_whole names i l) a

-- ---- places within the limit

first_or : (P : ℕ → Type 0) (b : Bool) (v q : ℕ) (o : Option ℕ) → P v → (o ≡ Some q → P q) → cond b (Some v) o ≡ Some q → P q
first_or P true v q o h go e = subst P (same_Some v q e) h
first_or P false v q o h go e = go e

bit_within : (bs : List NamedBit) (x : List ℕ) (q : ℕ) → AllByRecursion (λ b. b.place ≤ 65535) bs → bit_of bs x ≡ Some q → q ≤ 65535
bit_within [] x q h e = absurd cc
bit_within (b ∷ bs) x q h e = first_or (λ z. z ≤ 65535) (bytes_eq b.name x) b.place q (bit_of bs x) h.0 (bit_within bs x q h.1) e

first_of : Option ℕ → List (Option ℕ) → Option ℕ
first_of d [] = d
first_of d (o ∷ os) = o

rest_of : List (Option ℕ) → List (Option ℕ)
rest_of [] = []
rest_of (o ∷ os) = os

all_within : (bs : List NamedBit) (names : List (List ℕ)) (ps : List ℕ) → AllByRecursion (λ b. b.place ≤ 65535) bs → map (bit_of bs) names ≡ map Some ps → AllByRecursion (λ p. p ≤ 65535) ps
unfolding first_of rest_of
all_within bs names [] h e = tt
all_within bs [] (p ∷ ps) h e = absurd cc
all_within bs (n ∷ names) (p ∷ ps) h e =
    (bit_within bs n p h (ap (first_of None) e), all_within bs names ps h (ap rest_of e))

pub names_within : (bs : List NamedBit) (names : List (List ℕ)) (ps : List ℕ) → AreNamedBits bs → AreBitPlaces bs names ps → AllByRecursion (λ p. p ≤ 65535) ps
names_within bs names ps h a = all_within bs names ps h.limits a.found

-- ---- bits that are set

none_set : (n i : ℕ) → slice_get (replicate n false) i ≡ Some true → ⊥
none_set zero i e = absurd cc
none_set (suc n) zero e = absurd cc
none_set (suc n) (suc i) e = none_set n i e

set_here : (s : List Bool) (p : ℕ) → p < length s → slice_get (set s p true) p ≡ Some true
set_here [] p l = absurd (omega (arith, l))
set_here (b ∷ s) zero l = refl
set_here (b ∷ s) (suc p) l = set_here s p (omega (arith, l))

set_kept : (s : List Bool) (p i : ℕ) → slice_get s i ≡ Some true → slice_get (set s p true) i ≡ Some true
set_kept [] p i e = absurd cc
set_kept (b ∷ s) zero zero e = refl
set_kept (b ∷ s) zero (suc i) e = e
set_kept (b ∷ s) (suc p) zero e = e
set_kept (b ∷ s) (suc p) (suc i) e = set_kept s p i e

set_by : (s : List Bool) (p i : ℕ) → slice_get (set s p true) i ≡ Some true → (i ≡ p) ⊎ (slice_get s i ≡ Some true)
set_by [] p i e = absurd cc
set_by (b ∷ s) zero zero e = inl refl
set_by (b ∷ s) zero (suc i) e = inr e
set_by (b ∷ s) (suc p) zero e = inr e
set_by (b ∷ s) (suc p) (suc i) e =
    elim (set_by s p i e) [ inl h ↦ inl (ap suc h) | inr h ↦ inr h ]

abbrev Occurs : List ℕ → ℕ → Type 0
Occurs ps x = (i : ℕ) × (slice_get ps i ≡ Some x)

taken_stays : (ps : List ℕ) (k x : ℕ) → Occurs (take k ps) x → Occurs (take (k + 1) ps) x
taken_stays [] zero x s = absurd (let e = s.1 in cc)
taken_stays [] (suc k) x s = absurd (let e = s.1 in cc)
taken_stays (p ∷ ps) zero x s = absurd (let e = s.1 in cc)
taken_stays (p ∷ ps) (suc k) x (zero, e) = let q : suc k + 1 ≡ suc (k + 1) = omega arith in rw q (zero, e)
taken_stays (p ∷ ps) (suc k) x (suc i, e) =
    let q : suc k + 1 ≡ suc (k + 1) = omega arith in
    let s = taken_stays ps k x (i, e) in
    rw q (suc s.0, s.1)

taken_last : (ps : List ℕ) (k p : ℕ) → slice_get ps k ≡ Some p → Occurs (take (k + 1) ps) p
taken_last [] k p e = absurd cc
taken_last (y ∷ ps) zero p e = (0, e)
taken_last (y ∷ ps) (suc k) p e =
    let q : suc k + 1 ≡ suc (k + 1) = omega arith in
    let s = taken_last ps k p e in
    rw q (suc s.0, s.1)

one_after : (y : ℕ) (xs zs : List ℕ) (x p : ℕ) → (Occurs xs x → (x ≡ p) ⊎ Occurs zs x) → Occurs (y ∷ xs) x → (x ≡ p) ⊎ Occurs (y ∷ zs) x
one_after y xs zs x p go (zero, f) = inr (zero, f)
one_after y xs zs x p go (suc i, f) = elim (go (i, f)) [ inl h ↦ inl h | inr h ↦ inr (suc h.0, h.1) ]

taken_by : (ps : List ℕ) (k p x : ℕ) → slice_get ps k ≡ Some p → Occurs (take (k + 1) ps) x → (x ≡ p) ⊎ Occurs (take k ps) x
taken_by [] k p x e s = absurd cc
taken_by (y ∷ ps) zero p x e (zero, f) = inl (same_Some x p (sym f ∙ e))
taken_by (y ∷ ps) zero p x e (suc i, f) = absurd cc
taken_by (y ∷ ps) (suc k) p x e s =
    let q : suc k + 1 ≡ suc (k + 1) = omega arith in
    one_after y (take (k + 1) ps) (take k ps) x p (taken_by ps k p x e)
    (subst (λ (z : ℕ). Occurs (take z (y ∷ ps)) x) q s)

-- the bits at the first k places are set
abbrev pub AreSet : List ℕ → ℕ → List Bool → Type 0
AreSet ps k s = (i : ℕ) → (slice_get s i ≡ Some true ↔ Occurs (take k ps) i)

pub set_first : (ps : List ℕ) (n : ℕ) → AreSet ps 0 (replicate n false)
set_first ps n i = (λ e. absurd (none_set n i e), λ s. absurd (let e = s.1 in cc))

pub set_more : (ps : List ℕ) (k p : ℕ) (s : List Bool) → slice_get ps k ≡ Some p → p < length s → AreSet ps k s → AreSet ps (k + 1) (set s p true)
set_more ps k p s e l h i = (
  λ f. elim (set_by s p i f) [
    | inl g ↦ subst (λ (z : ℕ). Occurs (take (k + 1) ps) z) (sym g) (taken_last ps k p e)
    | inr g ↦ taken_stays ps k i ((h i).0 g)
  ],
  λ t. elim (taken_by ps k p i e t) [
    | inl g ↦ subst (λ (z : ℕ). slice_get (set s p true) z ≡ Some true) (sym g) (set_here s p l)
    | inr g ↦ set_kept s p i ((h i).1 g)
  ],
)

pub set_all : (ps : List ℕ) (k : ℕ) (s : List Bool) → length ps ≤ k → AreSet ps k s → ((n : ℕ) → length s ≡ suc n → IsAmong ps n) → AreSetBits ps s
set_all ps k s l h g = record {
  set = λ i. (
    λ e. let x = subst (λ (z : List ℕ). Occurs z i) (taken_whole ps k l) ((h i).0 e) in record { place = x.0; there = x.1 },
    λ a. (h i).1 (subst (λ (z : List ℕ). Occurs z i) (sym (taken_whole ps k l)) (a.place, a.there)),
  );
  greatest = g;
}

-- ---- how many bits there are

pub count_all : (ps : List ℕ) (i old new : ℕ) → i < length ps → old ≤ new → slice_index_or ps i 0 < new → AllByRecursion (λ p. p < old) (take i ps) → AllByRecursion (λ p. p < new) (take (i + 1) ps)
count_all ps i old new l le h a =
    all_more (λ (p : ℕ). p < new) ps i 0 l
    (each_weaker (λ (p : ℕ). p < old) (λ (p : ℕ). p < new) (take i ps) (λ x b. omega (arith, b, le)) a) h

pub count_greatest : (ps : List ℕ) (i old new : ℕ) → i < length ps → (new ≡ suc (slice_index_or ps i 0)) ⊎ (new ≡ old) → ((n : ℕ) → old ≡ suc n → IsAmong ps n) → (n : ℕ) → new ≡ suc n → IsAmong ps n
count_greatest ps i old new l w g n e =
    elim w [
      | inl h ↦ record { place = i; there = slice_get-get_or ps i 0 l ∙ ap Some (omega (arith, h, e)) }
      | inr h ↦ g n (sym h ∙ e)
    ]

pub place_there : (ps : List ℕ) (i : ℕ) → i < length ps → slice_get ps i ≡ Some (slice_index_or ps i 0)
place_there ps i l = slice_get-get_or ps i 0 l

pub all_of : {A : Type 0} (P : A → Type 0) (xs : List A) (i : ℕ) → length xs ≤ i → AllByRecursion P (take i xs) → AllByRecursion P xs
all_of P xs i l a = subst (AllByRecursion P) (taken_whole xs i l) a

-- the same of names in memory, from the one at a place
pub places_next : (bs : List NamedBit) (names : List (Bor (List ℕ))) (i : ℕ) (d : Bor (List ℕ)) (ps : List ℕ) (p : ℕ)
    → AreBitPlaces bs (take i (map (λ n. n.now) names)) ps
    → i < length names
    → Some p ≡ bit_of bs (slice_index_or names i d).now
    → AreBitPlaces bs (take (i + 1) (map (λ n. n.now) names)) (ps ++ p ∷ [])
places_next bs names i d ps p a l e =
    places_more bs (map (λ n. n.now) names) i (slice_index_or names i d).now ps p a (slice_get-map (λ n. n.now) names i ∙ ap (option_map (λ n. n.now)) (slice_get-get_or names i d l)) (sym e)
