-- The places to which many references lead.
use Rattle.std.proofs.Common.{◌≡◌, ◌⊎◌, inl, inr, ℕ, zero, suc, ◌+◌, ◌-◌, ◌<◌, ◌≤◌, List, [], ◌∷◌, ◌++◌, length, get_or, Option, Some, None, refl, sym, ap, ◌∙◌, arith, subst}
use Rattle.std.specs.Prelude.{slice_get}
use Rattle.std.proofs.lemmas.Option.{slice_get-get_or}
use Rattle.type_table.specs.Walks.{onward, follow, IsWithin, ComesBack}
use Rattle.type_table.specs.proving.Walks.{walk_walk, comes_back}
use Rattle.range_ends.specs.proving.Steps.{listed}
use Rattle.range_ends.specs.proving.Far.{IsFar, AreFar}
use Rattle.range_ends.proofs.Circles.{below, after_end}

-- no reference leads on from a place
pub far_none : (os : List (Option ℕ)) (i : ℕ) → listed os i ≡ None → IsFar os 1 i i
far_none os i e = record { steps = 0; chain = refl; far = inl e }

-- one reference
pub far_one : (os : List (Option ℕ)) (i j : ℕ) → listed os i ≡ Some j → IsFar os 1 i j
far_one os i j e = record {
  steps = 1;
  chain = ap (λ o. onward o (λ k. follow (listed os) 0 k)) e;
  far = inr (omega arith);
}

-- as many steps more
pub far_twice : (os : List (Option ℕ)) (n i j k : ℕ) → IsFar os n i j → IsFar os n j k → IsFar os (n + n) i k
far_twice os n i j k u v = record {
  steps = u.steps + v.steps;
  chain = walk_walk (listed os) u.steps v.steps i j u.chain ∙ v.chain;
  far = elim u.far [
    | inl e ↦ (let q : k ≡ j = after_end (listed os) v.steps j k e v.chain in inl (ap (listed os) q ∙ e))
    | inr l ↦ elim v.far [ inl e ↦ inl e | inr m ↦ inr (omega (arith, l, m)) ]
  ];
}

pub far_less : (os : List (Option ℕ)) (n m i c : ℕ) → m ≤ n → IsFar os n i c → IsFar os m i c
far_less os n m i c l u = record {
  steps = u.steps;
  chain = u.chain;
  far = elim u.far [ inl e ↦ inl e | inr k ↦ inr (omega (arith, l, k)) ];
}

pub all_less : (os : List (Option ℕ)) (n m : ℕ) (cs : List ℕ) → m ≤ n → AreFar os n cs → AreFar os m cs
all_less os n m cs l a = record { all = a.all; each = λ i c e. far_less os n m i c l (a.each i c e) }

pub far_inside : (os : List (Option ℕ)) (n i c : ℕ) → IsWithin (listed os) (length os) → i < length os → IsFar os n i c → c < length os
far_inside os n i c w l u = below (listed os) (length os) u.steps i c w l u.chain

split_on : (next : ℕ → Option ℕ) (r n c : ℕ) (o : Option ℕ) →
    ((j : ℕ) → follow next (r + n) j ≡ Some c → (b : ℕ) × (follow next r j ≡ Some b) × (follow next n b ≡ Some c)) →
    onward o (λ j. follow next (r + n) j) ≡ Some c →
    (b : ℕ) × (onward o (λ j. follow next r j) ≡ Some b) × (follow next n b ≡ Some c)
split_on next r n c None go e = absurd cc
split_on next r n c (Some j) go e = go j e

-- a place that many steps reach is reached from the place that the first steps reach
split : (next : ℕ → Option ℕ) (r n i c : ℕ) →
    follow next (r + n) i ≡ Some c →
    (b : ℕ) × (follow next r i ≡ Some b) × (follow next n b ≡ Some c)
split next zero n i c e =
    let s : 0 + n ≡ n = omega arith in (i, refl, ap (λ k. follow next k i) (sym s) ∙ e)
split next (suc r) n i c e =
    let s : suc r + n ≡ suc (r + n) = omega arith in
    split_on next r n c (next i) (λ j f. split next r n j c f) (ap (λ k. follow next k i) (sym s) ∙ e)

-- a place that this number of steps reaches comes back to itself
pub far_back : (next : ℕ → Option ℕ) (n s i c : ℕ) →
    IsWithin next n →
    i < n →
    n ≤ s →
    follow next s i ≡ Some c →
    ComesBack next c
far_back next n s i c w l m e =
    let r : ℕ = s - n in
    let q : r + n ≡ s = omega (arith, m) in
    let b = split next r n i c (ap (λ k. follow next k i) q ∙ e) in
    comes_back next n b.0 c w (below next n r i b.0 w l b.1) b.2

-- two ways of going on that are the same everywhere lead to the same places
same_on : (f g : ℕ → Option ℕ) (s : ℕ) (o : Option ℕ) →
    ((j : ℕ) → follow f s j ≡ follow g s j) →
    onward o (λ j. follow f s j) ≡ onward o (λ j. follow g s j)
same_on f g s None go = refl
same_on f g s (Some j) go = go j

pub same_follow : (f g : ℕ → Option ℕ) (s i : ℕ) → ((j : ℕ) → f j ≡ g j) → follow f s i ≡ follow g s i
same_follow f g zero i e = refl
same_follow f g (suc s) i e =
    same_on f g s (f i) (λ j. same_follow f g s j e) ∙ ap (λ o. onward o (λ j. follow g s j)) (e i)

-- ---- lists of such places, one by one

-- the first m places
pub record AreFirstFar (os : List (Option ℕ)) (n : ℕ) (cs : List ℕ) (m : ℕ) : Type 0 where
  pub long : length cs ≡ m
  pub each : (i c : ℕ) → slice_get cs i ≡ Some c → IsFar os n i c

last_or : (cs : List ℕ) (c i d : ℕ) →
    slice_get (cs ++ c ∷ []) i ≡ Some d →
    (slice_get cs i ≡ Some d) ⊎ ((i ≡ length cs) × (c ≡ d))
last_or [] c zero d e = inr (refl, cc)
last_or [] c (suc i) d e = absurd cc
last_or (x ∷ cs) c zero d e = inl e
last_or (x ∷ cs) c (suc i) d e =
    elim (last_or cs c i d e) [ inl h ↦ inl h | inr h ↦ inr (ap suc h.0, h.1) ]

long_last : (cs : List ℕ) (c : ℕ) → length (cs ++ c ∷ []) ≡ length cs + 1
long_last [] c = refl
long_last (x ∷ cs) c = let e = long_last cs c in omega (arith, e)

pub far_more : (os : List (Option ℕ)) (n : ℕ) (cs qs : List ℕ) (c m : ℕ) →
    AreFirstFar os n cs m →
    qs ≡ cs ++ c ∷ [] →
    IsFar os n m c →
    AreFirstFar os n qs (m + 1)
far_more os n cs qs c m a e h = rw e (record {
  long = let l = long_last cs c in omega (arith, l, a.long);
  each = λ i d f. elim (last_or cs c i d f) [
    | inl g ↦ a.each i d g
    | inr g ↦ subst (λ k. IsFar os n k d) (sym (g.0 ∙ a.long)) (subst (λ k. IsFar os n m k) g.1 h)
  ];
})

pub far_all : (os : List (Option ℕ)) (n : ℕ) (cs : List ℕ) (m : ℕ) → AreFirstFar os n cs m → m ≡ length os → AreFar os n cs
far_all os n cs m a e = record { all = a.long ∙ e; each = a.each }

-- the number at a place of such a list
pub far_at : (os : List (Option ℕ)) (n : ℕ) (cs : List ℕ) (i : ℕ) → AreFar os n cs → i < length cs → IsFar os n i (get_or cs i 0)
far_at os n cs i a l = a.each i (get_or cs i 0) (slice_get-get_or cs i 0 l)
