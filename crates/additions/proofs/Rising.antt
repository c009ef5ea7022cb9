-- Numbers that ascend after those of the root.
use Rattle.std.proofs.Common.{◌≡◌, inl, inr, ℕ, suc, ◌+◌, ◌-◌, ◌<◌, ◌≤◌, ℤ, ◌<ℤ◌, ◌≤ℤ◌, List, [], ◌∷◌, ◌++◌, length, length-append, Option, Some, None, refl, sym, ap, ◌∙◌, arith, subst}
use Rattle.std.proofs.lemmas.Int.{ints}
use Rattle.std.specs.Prelude.{slice_get, pos, ◌^◌, MatchOption}
use Rattle.std.proofs.lemmas.Bool.{cases_lt}
use Rattle.std.proofs.lemmas.Option.{slice_get_within}
use Rattle.type_table.specs.Items.{WrittenItem, number_or, counted_to, past, root_from, root_numbers, additions_from, addition_numbers, numbers_of, given_numbers}
use Rattle.std.specs.Prelude.{max}
use Rattle.type_table.specs.Lists.{IsSoundEnumeration}
use Rattle.additions.specs.proving.Checks.{AscendBefore, FallsFirst}

pub some_one : {X : Type 0} {a b : X} → Some a ≡ Some b → a ≡ b
some_one h = cc

back_get : {A : Type 0} (xs ys : List A) (k : ℕ) → slice_get (xs ++ ys) (length xs + k) ≡ slice_get ys k
back_get [] ys k = let e : 0 + k ≡ k = omega arith in ap (slice_get ys) e
back_get (x ∷ xs) ys k =
    let e : suc (length xs) + k ≡ suc (length xs + k) = omega arith in
    ap (slice_get (x ∷ (xs ++ ys))) e ∙ back_get xs ys k

-- the invariant of the loop over numbers: those after the first `from` ascend, up to `at`
abbrev pub Rises : List ℤ → ℕ → ℕ → Type 0
Rises numbers from at = (root more : List ℤ) →
    numbers ≡ root ++ more →
    length root ≡ from →
    AscendBefore more (at - from)

pub rises_first : (numbers : List ℤ) (from : ℕ) → Rises numbers from (from + 1)
rises_first numbers from = λ root more e l m lm k y z lk a b. absurd (omega (arith, lm, lk))

-- a number after those of the root
after_at : (numbers root more : List ℤ) (from at : ℕ) → numbers ≡ root ++ more → length root ≡ from → from ≤ at →
    slice_get numbers at ≡ slice_get more (at - from)
after_at numbers root more from at e l f =
    let s : at ≡ length root + (at - from) = omega (arith, l, f) in
    ap (λ xs. slice_get xs at) e ∙ ap (slice_get (root ++ more)) s ∙ back_get root more (at - from)

above_both : (a b c : ℤ) → a <ℤ b → b <ℤ c → a <ℤ c
above_both a b c p q = omega (arith, ints, p, q)

pub rises_more : (numbers : List ℤ) (from at : ℕ) (x w : ℤ) → from + 1 ≤ at →
    slice_get numbers (at - 1) ≡ Some x → slice_get numbers at ≡ Some w → x <ℤ w →
    Rises numbers from at → Rises numbers from (at + 1)
rises_more numbers from at x w f ex ew lt r = λ root more e l m lm k y z lk a b.
    let ax : slice_get more (at - 1 - from) ≡ Some x =
    sym (after_at numbers root more from (at - 1) e l (omega (arith, f))) ∙ ex in
    let aw : slice_get more (at - from) ≡ Some w =
    sym (after_at numbers root more from at e l (omega (arith, f))) ∙ ew in
    elim (cases_lt m (at - from)) [
      | inl n ↦ r root more e l m n k y z lk a b
      | inr n ↦ (
          let here : m ≡ at - from = omega (arith, n, lm, f) in
          let zw : z ≡ w = some_one (sym b ∙ ap (slice_get more) here ∙ aw) in
          elim (cases_lt k (at - 1 - from)) [
            | inl q ↦ subst (λ v. y <ℤ v) (sym zw) (above_both y x w (r root more e l (at - 1 - from) (omega (arith, f)) k y x q a ax) lt)
            | inr q ↦ (
                let last : k ≡ at - 1 - from = omega (arith, q, lk, here, f) in
                let yx : y ≡ x = some_one (sym a ∙ ap (slice_get more) last ∙ ax) in
                subst (λ v. v <ℤ z) (sym yx) (subst (λ v. x <ℤ v) (sym zw) lt)
                )
          ]
          )
    ]

pub falls_here : (numbers : List ℤ) (from at : ℕ) (x w : ℤ) → from + 1 ≤ at →
    slice_get numbers (at - 1) ≡ Some x → slice_get numbers at ≡ Some w → w ≤ℤ x →
    Rises numbers from at → (root more : List ℤ) → numbers ≡ root ++ more → length root ≡ from →
    FallsFirst more (at - from) × ((at - from) < length more)
falls_here numbers from at x w f ex ew lt r root more e l =
    let ax : slice_get more (at - 1 - from) ≡ Some x =
    sym (after_at numbers root more from (at - 1) e l (omega (arith, f))) ∙ ex in
    let aw : slice_get more (at - from) ≡ Some w =
    sym (after_at numbers root more from at e l (omega (arith, f))) ∙ ew in (
      record {
        falls = record { place = at - 1 - from; before = omega (arith, f); earlier = x; number = w; is_so = ax; there = aw; falls = lt };
        before = r root more e l;
      },
      slice_get_within more (at - from) w aw,
    )

-- all of them ascend
pub rises_all : (numbers : List ℤ) (from at : ℕ) → from + 1 ≤ at → length numbers ≤ at → Rises numbers from at →
    (root more : List ℤ) → numbers ≡ root ++ more → length root ≡ from → AscendBefore more (length more)
rises_all numbers from at f g r root more e l = λ m lm k y z lk a b.
    let n : length numbers ≡ length root + length more = ap length e ∙ length-append root more in
    r root more e l m (omega (arith, n, lm, l, f, g)) k y z lk a b

-- ---- items

root_long : (given : List ℤ) (n : ℕ) (is : List WrittenItem) → length (root_from given n is) ≡ length is
root_long given n [] = refl
root_long given n (i ∷ is) = ap suc (root_long given (counted_to n given i.1) is)

pub roots_long : (is : List WrittenItem) → length (root_numbers is) ≡ length is
roots_long is = root_long (given_numbers is) 0 is

more_long : (root : List ℤ) (n : ℕ) (is : List WrittenItem) → length (additions_from root n is) ≡ length is
more_long root n [] = refl
more_long root n (i ∷ is) = ap suc (more_long root (max n (past (number_or n root i.1))) is)

pub additions_long : (root more : List WrittenItem) → length (addition_numbers root more) ≡ length more
additions_long root more = more_long (root_numbers root) 0 more

pub no_great : (root more : List WrittenItem) (i : ℕ) → IsSoundEnumeration root more →
    slice_get (addition_numbers root more) i ≡ Some (pos (2 ^ 127)) → ⊥
no_great root more i s e =
    let there = back_get (root_numbers root) (addition_numbers root more) i ∙ e in
    let w = s.within (length (root_numbers root) + i) (pos (2 ^ 127)) there in
    absurd (omega (arith, w))

-- numbers of items, those of the root first
pub roots_within : (root more : List WrittenItem) (zs : List ℤ) → zs ≡ numbers_of root more → length root ≤ length zs
roots_within root more zs e =
    let a = roots_long root in
    let b = ap length e ∙ length-append (root_numbers root) (addition_numbers root more) in
    omega (arith, a, b)

pub found_items : (root more : List WrittenItem) (o : Option ℕ) →
    MatchOption o (AscendBefore (addition_numbers root more) (length (addition_numbers root more)))
    (λ n. FallsFirst (addition_numbers root more) n × (n < length (addition_numbers root more))) →
    MatchOption o (AscendBefore (addition_numbers root more) (length more))
    (λ n. FallsFirst (addition_numbers root more) n × (n < length more))
found_items root more None h = subst (AscendBefore (addition_numbers root more)) (additions_long root more) h
found_items root more (Some n) h = (h.0, subst (λ k. n < k) (additions_long root more) h.1)
