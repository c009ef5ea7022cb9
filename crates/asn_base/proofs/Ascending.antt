-- Lists that ascend, by their neighbours.
use Rattle.std.proofs.Common.{arith, ◌≡◌, ℕ, zero, suc, ◌+◌, ◌-◌, ◌<◌, ◌≤◌, List, [], ◌∷◌, length, drop, sym, subst, ap, ◌∙◌}
use Rattle.std.proofs.lemmas.Int.{ints}
use Rattle.std.specs.Prelude.{◌↔◌, ◌<ℤ◌}
use Rattle.std.specs.List.{AllByRecursion}
use Rattle.asn_base.specs.Types.{Item}
use Rattle.asn_base.specs.Schemas.{CodesAscend, NumbersAscend}
use Rattle.asn_base.specs.proving.Lists.{onward}

module _ {A : Type 0} (R : A → A → Type 0) where
  abbrev pub Adjacent : List A → Type 0
  Adjacent [] = Unit {0}
  Adjacent (x ∷ []) = Unit {0}
  Adjacent (x ∷ y ∷ xs) = R x y × Adjacent (y ∷ xs)

  abbrev pub Pairs : List A → Type 0
  Pairs [] = Unit {0}
  Pairs (x ∷ xs) = AllByRecursion (R x) xs × Pairs xs

  all_above : ((x y z : A) → R x y → R y z → R x z) → (x y : A) (xs : List A) → R x y → AllByRecursion (R y) xs → AllByRecursion (R x) xs
  all_above trans x y [] h a = tt
  all_above trans x y (z ∷ xs) h a = (trans x y z h a.0, all_above trans x y xs h a.1)

  pub pairs_of : ((x y z : A) → R x y → R y z → R x z) → (xs : List A) → Adjacent xs → Pairs xs
  pairs_of trans [] a = tt
  pairs_of trans (x ∷ []) a = (tt, tt)
  pairs_of trans (x ∷ y ∷ xs) a = let p = pairs_of trans (y ∷ xs) a.1 in ((a.0, all_above trans x y xs a.0 p.0), p)

  pub adjacent_of : (xs : List A) → Pairs xs → Adjacent xs
  adjacent_of [] p = tt
  adjacent_of (x ∷ []) p = tt
  adjacent_of (x ∷ y ∷ xs) p = (p.0.0, adjacent_of (y ∷ xs) p.1)

  pub by_neighbours : ((x y z : A) → R x y → R y z → R x z) → (xs : List A) → Adjacent xs ↔ Pairs xs
  by_neighbours trans xs = (pairs_of trans xs, adjacent_of xs)

  pub adjacent_at : (ys : List A) (i : ℕ) (x y : A) → drop i ys ≡ x ∷ drop (i + 1) ys → drop (i + 1) ys ≡ y ∷ drop (i + 1 + 1) ys → Adjacent (drop i ys) ↔ (R x y × Adjacent (drop (i + 1) ys))
  adjacent_at ys i x y e f =
      let g : drop i ys ≡ x ∷ y ∷ drop (i + 1 + 1) ys = e ∙ ap (λ q. x ∷ q) f in (
        λ a. let b = subst Adjacent g a in (b.0, subst Adjacent (sym f) b.1),
        λ p. subst Adjacent (sym g) (p.0, subst Adjacent f p.1),
      )

  short : (ys : List A) → length ys ≤ 1 → Adjacent ys
  short [] h = tt
  short (y ∷ []) h = tt
  short (y ∷ z ∷ ys) h = absurd (omega arith)

  few_left : (n : ℕ) (xs : List A) → length (drop n xs) ≤ length xs - n
  few_left zero xs = omega arith
  few_left (suc n) [] = omega arith
  few_left (suc n) (x ∷ xs) = let h = few_left n xs in omega (arith, h)

  pub adjacent_end : (ys : List A) (i : ℕ) → length ys - 1 ≤ i → Adjacent (drop i ys)
  adjacent_end ys i h = short (drop i ys) (let l = few_left i ys in omega (arith, h, l))

pub codes : (xs : List ℕ) → Pairs (λ a b. a < b) xs ↔ CodesAscend xs
codes xs = (to xs, from xs)
  where
    to : (xs : List ℕ) → Pairs (λ a b. a < b) xs → CodesAscend xs
    to [] p = tt
    to (x ∷ xs) p = (p.0, to xs p.1)

    from : (xs : List ℕ) → CodesAscend xs → Pairs (λ a b. a < b) xs
    from [] p = tt
    from (x ∷ xs) p = (p.0, from xs p.1)

pub codes_by : (xs : List ℕ) → Adjacent (λ a b. a < b) xs ↔ CodesAscend xs
codes_by xs = onward (by_neighbours (λ a b. a < b) (λ x y z a b. omega (arith, a, b)) xs) (codes xs).0 (codes xs).1

abbrev pub Before : Item → Item → Type 0
Before a b = a.number <ℤ b.number

numbers : (xs : List Item) → Pairs Before xs ↔ NumbersAscend xs
numbers xs = (to xs, from xs)
  where
    to : (xs : List Item) → Pairs Before xs → NumbersAscend xs
    to [] p = tt
    to (x ∷ xs) p = (p.0, to xs p.1)

    from : (xs : List Item) → NumbersAscend xs → Pairs Before xs
    from [] p = tt
    from (x ∷ xs) p = (p.0, from xs p.1)

pub numbers_by : (xs : List Item) → Adjacent Before xs ↔ NumbersAscend xs
numbers_by xs = onward (by_neighbours Before (λ x y z a b. omega (arith, ints, a, b)) xs) (numbers xs).0 (numbers xs).1

-- a pair that doesn't ascend
pub not_adjacent : {P Q R' S : Type 0} → P ↔ Q → Q ↔ (R' × S) → (R' → ⊥) → P → ⊥
not_adjacent a b n p = n (b.0 (a.0 p)).0

pub next_pair : {P Q R' S : Type 0} → P ↔ Q → Q ↔ (R' × S) → R' → P ↔ S
next_pair a b r = (λ p. (b.0 (a.0 p)).1, λ s. a.1 (b.1 (r, s)))
