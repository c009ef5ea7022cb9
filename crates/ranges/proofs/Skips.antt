-- Ranges of one set that end before one of the other begins meet nothing of it.
use Rattle.std.proofs.Common.{inl, inr, ◌≡◌, ℕ, zero, suc, ◌+◌, ◌<◌, ◌≤◌, ℤ, ◌≤ℤ◌, Some, None, arith, refl, subst, true}
use Rattle.std.specs.Prelude.{List, map, length, Option, IfSome, slice_index_or, drop}
use Rattle.std.proofs.lemmas.Int.{ints, clamps}
use Rattle.asn_base.specs.declared.constraint.Range.{Range as Range'}
use Rattle.asn_base.specs.Types.{Range}
use Rattle.asn_base.specs.Seen.{range_of}
use Rattle.ranges.specs.Numbers.{HoldsSome, AreApart}
use Rattle.ranges.specs.proving.Meeting.{later_beginning, earlier_end, EndsAtMost, Meets}
use Rattle.ranges.specs.proving.Searching.{is_below}
use Rattle.ranges.specs.proving.Skipping.{AreEnded, IsPast}
use Rattle.ranges.proofs.Searches.{holds_at}
use Rattle.ranges.proofs.Steps.{step_left, step_right}

-- what ends before a beginning ends before an end that isn't before that beginning
at_most : (g h : Option ℤ) (l : ℤ) → is_below l g ≡ true → IfSome h (λ e. l ≤ℤ e) → EndsAtMost g h
at_most None h l b s = absurd (grind arith)
at_most (Some g) None l b s = tt
at_most (Some g) (Some h) l b s = grind (arith, ints)

nothing_left : (k : Option ℤ) (l : ℤ) (g h : Option ℤ)
    → is_below l g ≡ true
    → IfSome (later_beginning k (Some l)) (λ b. IfSome (earlier_end g h) (λ e. b ≤ℤ e))
    → ⊥
nothing_left k l None h b s = absurd (grind arith)
nothing_left None l (Some g) None b s = grind (arith, ints)
nothing_left None l (Some g) (Some h) b s = grind (arith, ints, clamps)
nothing_left (Some k) l (Some g) None b s = grind (arith, ints, clamps)
nothing_left (Some k) l (Some g) (Some h) b s = grind (arith, ints, clamps)

nothing_right : (k : Option ℤ) (l : ℤ) (g h : Option ℤ)
    → is_below l g ≡ true
    → IfSome (later_beginning (Some l) k) (λ b. IfSome (earlier_end h g) (λ e. b ≤ℤ e))
    → ⊥
nothing_right k l None h b s = absurd (grind arith)
nothing_right None l (Some g) None b s = grind (arith, ints)
nothing_right None l (Some g) (Some h) b s = grind (arith, ints, clamps)
nothing_right (Some k) l (Some g) None b s = grind (arith, ints, clamps)
nothing_right (Some k) l (Some g) (Some h) b s = grind (arith, ints, clamps)

-- a range that begins at a number ends at it or after it
ends_from : (s : Range') (l : ℤ) → s.least ≡ Some l → HoldsSome (range_of s) → IfSome s.greatest (λ e. l ≤ℤ e)
ends_from s l e h = subst (λ o. IfSome o (λ k. IfSome s.greatest (λ g. k ≤ℤ g))) e h

abbrev met : Range' → Range' → Range'
met r s = record { least = later_beginning r.least s.least; greatest = earlier_end r.greatest s.greatest }

skip_left : (ls rs : List Range') (i n j : ℕ) (d e : Range') (l : ℤ) (rest : List Range)
    → i + n ≤ length ls
    → j < length rs
    → (slice_index_or rs j e).least ≡ Some l
    → HoldsSome (range_of (slice_index_or rs j e))
    → AreEnded l ls i (i + n)
    → Meets (map range_of (drop (i + n) ls)) (map range_of (drop j rs)) rest
    → Meets (map range_of (drop i ls)) (map range_of (drop j rs)) rest
skip_left ls rs i zero j d e l rest h k b s a m =
    let q : i + 0 ≡ i = omega arith in
    subst (λ z. Meets (map range_of (drop z ls)) (map range_of (drop j rs)) rest) q m
skip_left ls rs i (suc n) j d e l rest h k b s a m =
    let q : i + suc n ≡ (i + 1) + n = omega arith in
    let r = slice_index_or ls i d in
    let t = slice_index_or rs j e in
    let ends = a i d (omega arith) (omega arith) in
    let more = skip_left ls rs (i + 1) n j d e l rest (omega (arith, h, q)) k b s (λ z c u v. a z c (omega (arith, u)) (omega (arith, v, q)))
    (subst (λ z. Meets (map range_of (drop z ls)) (map range_of (drop j rs)) rest) q m) in
    step_left ls rs i j d e (met r t) rest rest (omega (arith, h)) k refl (at_most r.greatest t.greatest l ends (ends_from t l b s))
    (inr (λ o. nothing_left r.least l r.greatest t.greatest ends (subst (λ z. IfSome (later_beginning r.least z) (λ y. IfSome (earlier_end r.greatest t.greatest) (λ x. y ≤ℤ x))) b o), refl)) more

skip_right : (ls rs : List Range') (i j n : ℕ) (d e : Range') (l : ℤ) (rest : List Range)
    → i < length ls
    → j + n ≤ length rs
    → (slice_index_or ls i d).least ≡ Some l
    → HoldsSome (range_of (slice_index_or ls i d))
    → AreEnded l rs j (j + n)
    → Meets (map range_of (drop i ls)) (map range_of (drop (j + n) rs)) rest
    → Meets (map range_of (drop i ls)) (map range_of (drop j rs)) rest
skip_right ls rs i j zero d e l rest h k b s a m =
    let q : j + 0 ≡ j = omega arith in
    subst (λ z. Meets (map range_of (drop i ls)) (map range_of (drop z rs)) rest) q m
skip_right ls rs i j (suc n) d e l rest h k b s a m =
    let q : j + suc n ≡ (j + 1) + n = omega arith in
    let r = slice_index_or ls i d in
    let t = slice_index_or rs j e in
    let ends = a j e (omega arith) (omega arith) in
    let more = skip_right ls rs i (j + 1) n d e l rest h (omega (arith, k, q)) b s (λ z c u v. a z c (omega (arith, u)) (omega (arith, v, q)))
    (subst (λ z. Meets (map range_of (drop i ls)) (map range_of (drop z rs)) rest) q m) in
    step_right ls rs i j d e (met r t) rest rest h (omega (arith, k)) refl (at_most t.greatest r.greatest l ends (ends_from r l b s))
    (inr (λ o. nothing_right t.least l t.greatest r.greatest ends (subst (λ z. IfSome (later_beginning z t.least) (λ y. IfSome (earlier_end r.greatest t.greatest) (λ x. y ≤ℤ x))) b o), refl)) more

sum_to : (i k : ℕ) → i ≤ k → (n : ℕ) × (k ≡ i + n)
sum_to zero k h = let e : k ≡ 0 + k = omega arith in (k, e)
sum_to (suc i) zero h = absurd (omega (arith, h))
sum_to (suc i) (suc k) h = let s = sum_to i k (omega (arith, h)) in (s.0, (let e = s.1 in omega (arith, e)))

pub skipped_left : (ls rs : List Range') (i k j : ℕ) (e : Range') (rest : List Range)
    → AreApart (map range_of rs)
    → i ≤ k
    → k ≤ length ls
    → j < length rs
    → IsPast (range_of (slice_index_or rs j e)) ls i k
    → Meets (map range_of (drop k ls)) (map range_of (drop j rs)) rest
    → Meets (map range_of (drop i ls)) (map range_of (drop j rs)) rest
skipped_left ls rs i k j e rest p h w u (inl q) m =
    subst (λ x. Meets (map range_of (drop x ls)) (map range_of (drop j rs)) rest) q m
skipped_left ls rs i k j e rest p h w u (inr a) m =
    let s = sum_to i k h in
    skip_left ls rs i s.0 j e e a.0 rest (let q = s.1 in omega (arith, q, w)) u a.1 (holds_at rs j e p u)
    (subst (λ x. AreEnded a.0 ls i x) s.1 a.2)
    (subst (λ x. Meets (map range_of (drop x ls)) (map range_of (drop j rs)) rest) s.1 m)

pub skipped_right : (ls rs : List Range') (i j k : ℕ) (d : Range') (rest : List Range)
    → AreApart (map range_of ls)
    → j ≤ k
    → k ≤ length rs
    → i < length ls
    → IsPast (range_of (slice_index_or ls i d)) rs j k
    → Meets (map range_of (drop i ls)) (map range_of (drop k rs)) rest
    → Meets (map range_of (drop i ls)) (map range_of (drop j rs)) rest
skipped_right ls rs i j k d rest p h w u (inl q) m =
    subst (λ x. Meets (map range_of (drop i ls)) (map range_of (drop x rs)) rest) q m
skipped_right ls rs i j k d rest p h w u (inr a) m =
    let s = sum_to j k h in
    skip_right ls rs i j s.0 d d a.0 rest u (let q = s.1 in omega (arith, q, w)) a.1 (holds_at ls i d p u)
    (subst (λ x. AreEnded a.0 rs j x) s.1 a.2)
    (subst (λ x. Meets (map range_of (drop i ls)) (map range_of (drop x rs)) rest) s.1 m)
