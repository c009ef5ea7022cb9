-- Eight octets as one number: the order of the numbers is that of the octets.
use Rattle.std.proofs.Common.{◌≡◌, ℕ, zero, suc, ◌+◌, ◌-◌, ◌*◌, ◌<◌, ◌⊎◌, inl, inr, List, [], ◌∷◌, length, length-drop, drop, slice_index, refl, sym, ap, ◌∙◌, arith, nat_lt}
use Rattle.std.proofs.lemmas.Bool.{lt-ltb, le-ltb}
use Rattle.std.specs.Int.Digits.{AllBelowBase}
use Rattle.std.specs.Prelude.{if◌then◌else◌}
use Rattle.std.specs.declared.cmp.Ordering.{Ordering}
use Rattle.std.specs.declared.cmp.Ordering.TheVariants.{Less, Equal, Greater}
use Rattle.der_layout.specs.Octets.{first_differs, order}
use Rattle.der_layout.specs.proving.Words.{pair_in, word}
use Rattle.der_layout.proofs.Ordered.{order_at}

pub first_less : (x y : ℕ) (o : Ordering) → x < y → first_differs x y o ≡ Less
first_less x y o h = ap (λ b. if b then Less else (if nat_lt y x then Greater else o)) (lt-ltb x y h)

pub first_more : (x y : ℕ) (o : Ordering) → y < x → first_differs x y o ≡ Greater
first_more x y o h =
    ap (λ b. if b then Less else (if nat_lt y x then Greater else o)) (le-ltb x y (omega (arith, h)))
    ∙ ap (λ b. if b then Greater else o) (lt-ltb y x h)

pub first_same : (x y : ℕ) (o : Ordering) → x ≡ y → first_differs x y o ≡ o
first_same x y o e =
    ap (λ b. if b then Less else (if nat_lt y x then Greater else o)) (le-ltb x y (omega (arith, e)))
    ∙ ap (λ b. if b then Greater else o) (le-ltb y x (omega (arith, e)))

which : (x y : ℕ) → (x < y) ⊎ ((y < x) ⊎ (x ≡ y))
which zero zero = inr (inr refl)
which zero (suc y) = inl (omega arith)
which (suc x) zero = inr (inl (omega arith))
which (suc x) (suc y) = elim (which x y) [
  | inl h ↦ inl (omega (arith, h))
  | inr k ↦ elim k [ inl h ↦ inr (inl (omega (arith, h))) | inr e ↦ inr (inr (ap suc e)) ]
]

then_same : (a b x y p q : ℕ) (o : Ordering) → x ≡ y → (p < q → a < b) → (q < p → b < a) → (p ≡ q → a ≡ b)
    → first_differs a b o ≡ first_differs x y (first_differs p q o)
then_same a b x y p q o e less more same = elim (which p q) [
  | inl h ↦ first_less a b o (less h) ∙ sym (first_same x y (first_differs p q o) e ∙ first_less p q o h)
  | inr k ↦ elim k [
    | inl h ↦ first_more a b o (more h) ∙ sym (first_same x y (first_differs p q o) e ∙ first_more p q o h)
    | inr f ↦ first_same a b o (same f) ∙ sym (first_same x y (first_differs p q o) e ∙ first_same p q o f)
  ]
]

-- numbers made of a high and a low part each
joined : (a b x y p q : ℕ) (o : Ordering) → (x < y → a < b) → (y < x → b < a)
    → (x ≡ y → p < q → a < b) → (x ≡ y → q < p → b < a) → (x ≡ y → p ≡ q → a ≡ b)
    → first_differs a b o ≡ first_differs x y (first_differs p q o)
joined a b x y p q o less more then_less then_more same = elim (which x y) [
  | inl h ↦ first_less a b o (less h) ∙ sym (first_less x y (first_differs p q o) h)
  | inr k ↦ elim k [
    | inl h ↦ first_more a b o (more h) ∙ sym (first_more x y (first_differs p q o) h)
    | inr e ↦ then_same a b x y p q o e (then_less e) (then_more e) (same e)
  ]
]

of_octets : (x y p q : ℕ) (o : Ordering) → p < 256 → q < 256
    → first_differs (256 * x + p) (256 * y + q) o ≡ first_differs x y (first_differs p q o)
of_octets x y p q o l m = joined (256 * x + p) (256 * y + q) x y p q o
    (λ h. omega (arith, h, l, m)) (λ h. omega (arith, h, l, m))
    (λ e h. omega (arith, e, h)) (λ e h. omega (arith, e, h)) (λ e f. omega (arith, e, f))

of_pairs : (x y p q : ℕ) (o : Ordering) → p < 65536 → q < 65536
    → first_differs (65536 * x + p) (65536 * y + q) o ≡ first_differs x y (first_differs p q o)
of_pairs x y p q o l m = joined (65536 * x + p) (65536 * y + q) x y p q o
    (λ h. omega (arith, h, l, m)) (λ h. omega (arith, h, l, m))
    (λ e h. omega (arith, e, h)) (λ e h. omega (arith, e, h)) (λ e f. omega (arith, e, f))

of_fours : (x y p q : ℕ) (o : Ordering) → p < 4294967296 → q < 4294967296
    → first_differs (4294967296 * x + p) (4294967296 * y + q) o ≡ first_differs x y (first_differs p q o)
of_fours x y p q o l m = joined (4294967296 * x + p) (4294967296 * y + q) x y p q o
    (λ h. omega (arith, h, l, m)) (λ h. omega (arith, h, l, m))
    (λ e h. omega (arith, e, h)) (λ e h. omega (arith, e, h)) (λ e f. omega (arith, e, f))

below : (xs : List ℕ) (i : ℕ) → AllBelowBase 256 xs → slice_index xs i < 256
below [] zero h = omega arith
below [] (suc i) h = omega arith
below (x ∷ xs) zero h = h.0
below (x ∷ xs) (suc i) h = below xs i h.1

few : (xs : List ℕ) (i : ℕ) → AllBelowBase 256 xs → pair_in xs i < 65536
few xs i h = let a = below xs i h in let b = below xs (suc i) h in omega (arith, a, b)

fewer : (xs : List ℕ) (i j : ℕ) → AllBelowBase 256 xs → 65536 * pair_in xs i + pair_in xs j < 4294967296
fewer xs i j h = let a = few xs i h in let b = few xs j h in omega (arith, a, b)

module _ (xs ys : List ℕ) (h : AllBelowBase 256 xs) (k : AllBelowBase 256 ys) where
  -- the octets at a place decide, or else o
  abbrev at : ℕ → Ordering → Ordering
  at i o = first_differs (slice_index xs i) (slice_index ys i) o

  pairs : (i : ℕ) (o : Ordering) → first_differs (pair_in xs i) (pair_in ys i) o ≡ at i (at (suc i) o)
  pairs i o = of_octets (slice_index xs i) (slice_index ys i) (slice_index xs (suc i)) (slice_index ys (suc i)) o (below xs (suc i) h) (below ys (suc i) k)

  fours : (i j : ℕ) (o : Ordering)
      → first_differs (65536 * pair_in xs i + pair_in xs j) (65536 * pair_in ys i + pair_in ys j) o ≡ at i (at (suc i) (at j (at (suc j) o)))
  fours i j o =
      of_pairs (pair_in xs i) (pair_in ys i) (pair_in xs j) (pair_in ys j) o (few xs j h) (few ys j k)
      ∙ pairs i (first_differs (pair_in xs j) (pair_in ys j) o)
      ∙ ap (λ q. at i (at (suc i) q)) (pairs j o)

  words : (o : Ordering) → first_differs (word xs) (word ys) o ≡ at 0 (at 1 (at 2 (at 3 (at 4 (at 5 (at 6 (at 7 o)))))))
  words o =
      of_fours (65536 * pair_in xs 0 + pair_in xs 2) (65536 * pair_in ys 0 + pair_in ys 2)
      (65536 * pair_in xs 4 + pair_in xs 6) (65536 * pair_in ys 4 + pair_in ys 6) o (fewer xs 4 6 h) (fewer ys 4 6 k)
      ∙ fours 0 2 (first_differs (65536 * pair_in xs 4 + pair_in xs 6) (65536 * pair_in ys 4 + pair_in ys 6) o)
      ∙ ap (λ q. at 0 (at 1 (at 2 (at 3 q)))) (fours 4 6 o)

  pub word_order : order xs ys ≡ first_differs (word xs) (word ys) (order (drop 8 xs) (drop 8 ys))
  word_order =
      order_at xs ys 0
      ∙ ap (at 0) (order_at xs ys 1
      ∙ ap (at 1) (order_at xs ys 2
      ∙ ap (at 2) (order_at xs ys 3
      ∙ ap (at 3) (order_at xs ys 4
      ∙ ap (at 4) (order_at xs ys 5
      ∙ ap (at 5) (order_at xs ys 6
      ∙ ap (at 6) (order_at xs ys 7)))))))
      ∙ sym (words (order (drop 8 xs) (drop 8 ys)))

pub word_less : (xs ys : List ℕ) → AllBelowBase 256 xs → AllBelowBase 256 ys → word xs < word ys → order xs ys ≡ Less
word_less xs ys h k l = word_order xs ys h k ∙ first_less (word xs) (word ys) (order (drop 8 xs) (drop 8 ys)) l

pub word_more : (xs ys : List ℕ) → AllBelowBase 256 xs → AllBelowBase 256 ys → word ys < word xs → order xs ys ≡ Greater
word_more xs ys h k l = word_order xs ys h k ∙ first_more (word xs) (word ys) (order (drop 8 xs) (drop 8 ys)) l

pub word_same : (xs ys : List ℕ) → AllBelowBase 256 xs → AllBelowBase 256 ys → word xs ≡ word ys → order xs ys ≡ order (drop 8 xs) (drop 8 ys)
word_same xs ys h k e = word_order xs ys h k ∙ first_same (word xs) (word ys) (order (drop 8 xs) (drop 8 ys)) e

pub none_left : (xs ys : List ℕ) → length xs + length ys ≡ 0 → order xs ys ≡ Equal
none_left [] [] e = refl
none_left [] (y ∷ ys) e = absurd (omega (arith, e))
none_left (x ∷ xs) ys e = absurd (omega (arith, e))

after_eight : (xs : List ℕ) → length (drop 8 xs) ≡ length xs - 8
after_eight xs = length-drop 8 xs

pub shorter : (xs ys us vs : List ℕ) → us ≡ drop 8 xs → vs ≡ drop 8 ys → 0 < length xs + length ys → length us + length vs < length xs + length ys
shorter xs ys us vs e f h =
    let a : length us ≡ length xs - 8 = ap length e ∙ after_eight xs in
    let b : length vs ≡ length ys - 8 = ap length f ∙ after_eight ys in
    omega (arith, a, b, h)

pub zero_from : (n : ℕ) → (0 < n → ⊥) → n ≡ 0
zero_from zero h = refl
zero_from (suc n) h = absurd (h (omega arith))
