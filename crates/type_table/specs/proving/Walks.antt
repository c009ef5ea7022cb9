-- Walks from place to place. Two walks add up, and a long walk comes back to a place where it was.
use Rattle.std.proofs.Common.{◌≡◌, ◌⊎◌, inl, inr, ℕ, zero, suc, ◌+◌, ◌-◌, ◌*◌, ◌<◌, ◌≤◌, true, false, List, [], ◌∷◌, length, Option, Some, None, refl, sym, ap, ◌∙◌, arith, eqb}
use Rattle.std.proofs.Math.Nat.{mul-le-mul_left}
use Rattle.std.specs.List.{IsDistinct, AllByRecursion, list_any}
use Rattle.std.proofs.lemmas.Map.Steps.{length-le_from_distinct_below}
use Rattle.type_table.specs.Walks.{onward, follow, EndsAt, ComesBack, IsWithin}
use Rattle.std.proofs.lemmas.Bool.{eqb-true, or_cases, cases_Bool}

walk_on : (next : ℕ → Option ℕ) (a b j : ℕ) (o : Option ℕ) →
    ((k : ℕ) → follow next a k ≡ Some j → follow next (a + b) k ≡ follow next b j) →
    onward o (λ k. follow next a k) ≡ Some j → onward o (λ k. follow next (a + b) k) ≡ follow next b j
walk_on next a b j None go e = absurd cc
walk_on next a b j (Some k) go e = go k e

-- some steps and then more steps make one walk
pub walk_walk : (next : ℕ → Option ℕ) (a b i j : ℕ) → follow next a i ≡ Some j → follow next (a + b) i ≡ follow next b j
walk_walk next zero b i j e =
    let s : 0 + b ≡ b = omega arith in
    let q : i ≡ j = cc in
    rw (s, q) refl
walk_walk next (suc a) b i j e =
    let s : suc a + b ≡ suc (a + b) = omega arith in
    rw s (walk_on next a b j (next i) (λ k. walk_walk next a b k j) e)

abbrev visited_on : Option ℕ → (ℕ → List ℕ) → List ℕ
visited_on None f = []
visited_on (Some j) f = f j

-- the places that a walk of k steps passes
abbrev visited : (ℕ → Option ℕ) → ℕ → ℕ → List ℕ
visited next zero i = i ∷ []
visited next (suc k) i = i ∷ visited_on (next i) (λ j. visited next k j)

length_on : (next : ℕ → Option ℕ) (k p : ℕ) (o : Option ℕ) →
    ((j : ℕ) → follow next k j ≡ Some p → length (visited next k j) ≡ suc k) →
    onward o (λ j. follow next k j) ≡ Some p → length (visited_on o (λ j. visited next k j)) ≡ suc k
length_on next k p None go e = absurd cc
length_on next k p (Some j) go e = go j e

length_visited : (next : ℕ → Option ℕ) (k i p : ℕ) → follow next k i ≡ Some p → length (visited next k i) ≡ suc k
length_visited next zero i p e = refl
length_visited next (suc k) i p e = ap suc (length_on next k p (next i) (λ j. length_visited next k j p) e)

-- place q is passed after at most k steps
record Meets (next : ℕ → Option ℕ) (k i q : ℕ) : Type 0 where
  steps : ℕ
  few : steps ≤ k
  chain : follow next steps i ≡ Some q

meets_on : (next : ℕ → Option ℕ) (k i q : ℕ) (o : Option ℕ) → next i ≡ o →
    ((j : ℕ) → list_any (eqb q) (visited next k j) ≡ true → Meets next k j q) →
    list_any (eqb q) (visited_on o (λ j. visited next k j)) ≡ true → Meets next (suc k) i q
meets_on next k i q None e go h = absurd cc
meets_on next k i q (Some j) e go h =
    let m = go j h in
    record { steps = suc m.steps; few = omega (arith, m.few); chain = rw e m.chain }

meets : (next : ℕ → Option ℕ) (k i q : ℕ) → list_any (eqb q) (visited next k i) ≡ true → Meets next k i q
meets next zero i q h =
    elim (or_cases (eqb q i) false h) [
      | inl e ↦ (let s : q ≡ i = eqb-true q i e in record { steps = zero; few = omega arith; chain = ap Some (sym s) })
      | inr f ↦ absurd cc
    ]
meets next (suc k) i q h =
    elim (or_cases (eqb q i) (list_any (eqb q) (visited_on (next i) (λ j. visited next k j))) h) [
      | inl e ↦ (let s : q ≡ i = eqb-true q i e in record { steps = zero; few = omega arith; chain = ap Some (sym s) })
      | inr f ↦ meets_on next k i q (next i) refl (λ j. meets next k j q) f
    ]

below_on : (next : ℕ → Option ℕ) (n k i q : ℕ) (o : Option ℕ) → next i ≡ o → IsWithin next n →
    ((j : ℕ) → j < n → follow next k j ≡ Some q → q < n) → onward o (λ j. follow next k j) ≡ Some q → q < n
below_on next n k i q None e c go h = absurd cc
below_on next n k i q (Some j) e c go h = go j (c i j e) h

-- a walk stays below n
below : (next : ℕ → Option ℕ) (n k i q : ℕ) → IsWithin next n → i < n → follow next k i ≡ Some q → q < n
below next n zero i q c l e = let s : i ≡ q = cc in omega arith
below next n (suc k) i q c l e = below_on next n k i q (next i) refl c (λ j m. below next n k j q c m) e

-- a walk of at most k steps comes to a place, and then back to it
record Repeats (next : ℕ → Option ℕ) (k i : ℕ) : Type 0 where
  before : ℕ
  after : ℕ
  at : ℕ
  few : before + suc after ≤ k
  chain : follow next before i ≡ Some at
  back : follow next (suc after) at ≡ Some at

apart : (x : ℕ) (ys : List ℕ) → AllByRecursion (λ y. eqb x y ≡ false) ys ⊎ (list_any (eqb x) ys ≡ true)
apart x [] = inl tt
apart x (y ∷ ys) =
    elim (cases_Bool (eqb x y)) [
      | inl e ↦ inr (rw e refl)
      | inr e ↦ elim (apart x ys) [ inl a ↦ inl (e, a) | inr h ↦ inr (rw (e, h) refl) ]
    ]

repeats_on : (next : ℕ → Option ℕ) (k i : ℕ) (o : Option ℕ) → next i ≡ o →
    ((j : ℕ) → IsDistinct eqb (visited next k j) ⊎ Repeats next k j) →
    IsDistinct eqb (i ∷ visited_on o (λ j. visited next k j)) ⊎ Repeats next (suc k) i
unfolding IsDistinct
repeats_on next k i None e go = inl (tt, tt)
repeats_on next k i (Some j) e go =
    elim (go j) [
      | inl d ↦ elim (apart i (visited next k j)) [
        | inl a ↦ inl (a, d)
        | inr h ↦ (let m = meets next k j i h in inr
            (record {
              before = zero;
              after = m.steps;
              at = i;
              few = omega (arith, m.few);
              chain = refl;
              back =
                  rw e m.chain;
            }))
      ]
      | inr r ↦ inr
          (record {
            before = suc r.before;
            after = r.after;
            at = r.at;
            few = omega (arith, r.few);
            chain =
                rw e r.chain;
            back = r.back;
          })
    ]

repeats : (next : ℕ → Option ℕ) (k i : ℕ) → IsDistinct eqb (visited next k i) ⊎ Repeats next k i
unfolding IsDistinct
repeats next zero i = inl (tt, tt)
repeats next (suc k) i = repeats_on next k i (next i) refl (λ j. repeats next k j)

circular : (next : ℕ → Option ℕ) (n i p : ℕ) → follow next n i ≡ Some p → Repeats next n i → ComesBack next p
circular next n i p e r =
    let m : ℕ = n - r.before in
    let s : r.before + m ≡ n = omega (arith, r.few) in
    let to_p : follow next m r.at ≡ Some p = sym (walk_walk next r.before m i r.at r.chain) ∙ ap (λ k. follow next k i)
    s ∙ e in
    let one = walk_walk next m (suc r.after) r.at p to_p in
    let two = walk_walk next (suc r.after) m r.at r.at r.back in
    let t : m + suc r.after ≡ suc r.after + m = omega arith in
    record { steps = r.after; back = sym one ∙ ap (λ k. follow next k r.at) t ∙ two ∙ to_p }

-- a walk of as many steps as there are places ends at a place that comes back to itself
pub comes_back : (next : ℕ → Option ℕ) (n i p : ℕ) → IsWithin next n → i < n → follow next n i ≡ Some p →
    ComesBack next p
comes_back next n i p c l e =
    elim (repeats next n i) [
      | inl d ↦ absurd
          (omega (
            arith,
            length_visited next n i p e,
            length-le_from_distinct_below (visited next n i) n d
                (λ q h. below next n (meets next n i q h).steps i q c l (meets next n i q h).chain),
          ))
      | inr r ↦ circular next n i p e r
    ]

-- a place that leads nowhere doesn't come back to itself
ends_once : (next : ℕ → Option ℕ) (c : ℕ) → next c ≡ None → ComesBack next c → ⊥
ends_once next c f v =
    let e : onward (next c) (λ j. follow next v.steps j) ≡ None = ap (λ o. onward o (λ j. follow next v.steps j)) f in
    let g = sym e ∙ v.back in
    absurd cc

-- a walk that ends has fewer steps than there are places
pub ended_few : (next : ℕ → Option ℕ) (n k i c : ℕ) → IsWithin next n → i < n → follow next k i ≡ Some c →
    next c ≡ None → k < n
ended_few next n k i c closed l e f =
    elim (repeats next k i) [
      | inl d ↦ omega (
        arith,
        length_visited next k i c e,
        length-le_from_distinct_below (visited next k i) n d
            (λ q h. below next n (meets next k i q h).steps i q closed l (meets next k i q h).chain),
      )
      | inr r ↦ absurd (ends_once next c f (circular next k i c e r))
    ]

-- a walk, and one step more
pub one_more : (next : ℕ → Option ℕ) (k i at j : ℕ) → follow next k i ≡ Some at → next at ≡ Some j →
    follow next (k + 1) i ≡ Some j
one_more next k i at j e f = walk_walk next k 1 i at e ∙ ap (λ o. onward o (λ q. Some q)) f

-- a walk around a circle, any number of times
turns : (next : ℕ → Option ℕ) (n s i : ℕ) → follow next (suc s) i ≡ Some i → follow next (n * suc s) i ≡ Some i
turns next zero s i e = let z : zero * suc s ≡ zero = omega arith in rw z refl
turns next (suc n) s i e =
    let z : suc n * suc s ≡ suc s + n * suc s = omega arith in
    rw z (walk_walk next (suc s) (n * suc s) i i e ∙ turns next n s i e)

pub stops : (next : ℕ → Option ℕ) (k r i c : ℕ) → follow next k i ≡ Some c → next c ≡ None →
    follow next (k + suc r) i ≡ None
stops next k r i c e f = walk_walk next k (suc r) i c e ∙ ap (λ o. onward o (λ j. follow next r j)) f

pub ends_not_back : (next : ℕ → Option ℕ) (i c : ℕ) → EndsAt next i c → ComesBack next i → ⊥
ends_not_back next i c u v =
    let k = u.steps in
    let all : ℕ = suc k * suc v.steps in
    let more : k + 1 ≤ all = omega (arith, mul-le-mul_left (suc k) (one_le v.steps)) in
    let r : ℕ = all - (k + 1) in
    let s : k + suc r ≡ all = omega arith in
    let e = stops next k r i c u.chain u.ends in
    let f = ap (λ q. follow next q i) s ∙ turns next (suc k) v.steps i v.back in
    let g = sym e ∙ f in
    absurd cc
  where
    one_le : (n : ℕ) → 1 ≤ suc n
    one_le n = omega arith
