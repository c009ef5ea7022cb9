-- The least and the greatest number of ranges that are apart.
use Rattle.std.proofs.Common.{inl, inr, ◌≡◌, ◌+◌, ◌-◌, ◌<◌, ℤ, pos, negsuc, ◌-ℤ◌, ◌+ℤ◌, ◌≤ℤ◌, ◌<ℤ◌, Some, None, arith, refl, sym, true, false, sub-one, ◌∙◌}
use Rattle.std.specs.Prelude.{◌⊎◌, ◌↔◌, List, [], ◌∷◌, map, length, Option, IfSome, slice_index_or, Bool, ◌==◌}
use Rattle.std.specs.List.{AllByRecursion}
use Rattle.std.specs.Int.{int_min, int_max}
use Rattle.std.proofs.lemmas.Int.{ints, clamps}
use Rattle.asn_base.specs.declared.constraint.Range.{Range as Range'}
use Rattle.asn_base.specs.Types.{Range, Constraint, any_number, any_size}
use Rattle.asn_base.specs.Seen.{range_of}
use Rattle.asn_base.specs.Typed.{IsInRange, IsInSome}
use Rattle.asn_base.specs.Schemas.{IsLeast, IsGreatest, AreBounds, IsNumber, IsSize}
use Rattle.ranges.specs.Numbers.{EndsBefore, AreApart, HasRoot}
use Rattle.ranges.proofs.Orders.{From, UpTo, above, some_in}

-- the least of what is in a range, or is above all in it
least_of : (Q : ℤ → Type 0) (l g : Option ℤ)
    → IfSome l (λ k. IfSome g (λ e. k ≤ℤ e))
    → ((y z : ℤ) → From l y → UpTo g y → Q z → y <ℤ z)
    → IsLeast (λ z. (From l z × UpTo g z) ⊎ Q z) l
least_of Q None None s a = λ l h. let i = h (l -ℤ pos 1) (inl (tt, tt)) in omega (arith, ints)
least_of Q None (Some g) s a = λ l h.
    let i = h (int_min (l -ℤ pos 1) g) (inl (tt, omega (arith, ints, clamps))) in omega (arith, ints, clamps)
least_of Q (Some l) None s a = (
  inl (omega (arith, ints), tt),
  λ z p. elim p [
    | inl i ↦ i.0
    | inr q ↦ let b = a l z (omega (arith, ints)) tt q in omega (arith, ints)
  ],
)
least_of Q (Some l) (Some g) s a = (
  inl (omega (arith, ints), s),
  λ z p. elim p [
    | inl i ↦ i.0
    | inr q ↦ let b = a l z (omega (arith, ints)) s q in omega (arith, ints)
  ],
)

-- the greatest of what is in a range
pub greatest_of : (l g : Option ℤ)
    → IfSome l (λ k. IfSome g (λ e. k ≤ℤ e))
    → IsGreatest (λ z. (From l z × UpTo g z) ⊎ ⊥) g
greatest_of None None s = λ g h. let i = h (g +ℤ pos 1) (inl (tt, tt)) in omega (arith, ints)
greatest_of (Some l) None s = λ g h.
    let i = h (int_max (g +ℤ pos 1) l) (inl (omega (arith, ints, clamps), tt)) in omega (arith, ints, clamps)
greatest_of None (Some g) s =
    (inl (tt, omega (arith, ints)), λ z p. elim p [ inl i ↦ i.1 | inr q ↦ absurd q ])
greatest_of (Some l) (Some g) s =
    (inl (s, omega (arith, ints)), λ z p. elim p [ inl i ↦ i.1 | inr q ↦ absurd q ])

-- a number in a range is below all numbers in later ranges
below_rest : (r : Range) (rs : List Range) (y z : ℤ)
    → AllByRecursion (EndsBefore r) rs
    → IsInRange y r
    → IsInSome z rs
    → y <ℤ z
below_rest r [] y z a i j = absurd j
below_rest r (s ∷ rs) y z a i (inl j) = above r.greatest s.least y z a.0 i.1 j.0
below_rest r (s ∷ rs) y z a i (inr j) = below_rest r rs y z a.1 i j

pub least_is : (r : Range) (rs : List Range) → AreApart (r ∷ rs) → IsLeast (λ z. IsInSome z (r ∷ rs)) r.least
least_is r rs a =
    least_of (λ z. IsInSome z rs) r.least r.greatest a.0 (λ y z f u q. below_rest r rs y z a.1 (f, u) q)

-- the greatest of more, all of which is at most one of what there was
pub greatest_more : (P Q : ℤ → Type 0) (o : Option ℤ)
    → ((y : ℤ) → Q y → (z : ℤ) × (y ≤ℤ z) × P z)
    → IsGreatest P o
    → IsGreatest (λ z. Q z ⊎ P z) o
greatest_more P Q None m g = λ e h. g e (λ z p. h z (inr p))
greatest_more P Q (Some e) m g = (
  inr g.0,
  λ z p. elim p [
    | inl q ↦ let n = m z q in let b = g.1 n.0 n.2 in let c = n.1 in omega (arith, ints)
    | inr q ↦ g.1 z q
  ],
)

pub greatest_is : (r : Range') (rs : List Range') (d : Range')
    → AreApart (map range_of (r ∷ rs))
    → IsGreatest (λ z. IsInSome z (map range_of (r ∷ rs))) (slice_index_or (r ∷ rs) (length rs) d).greatest
greatest_is r [] d a = greatest_of r.least r.greatest a.0
greatest_is r (s ∷ rs) d a =
    let some = some_in s.least s.greatest a.2.0 in
    greatest_more (λ z. IsInSome z (map range_of (s ∷ rs))) (λ z. IsInRange z (range_of r))
    (slice_index_or (s ∷ rs) (length rs) d).greatest
    (λ y i. (
      some.0,
      (let b = above r.greatest s.least y some.0 a.1.0 i.1 some.1 in omega (arith, ints)),
      inl (some.1, some.2),
    ))
    (greatest_is s rs d a.2)

-- the ends of ranges of which there is one
pub first_least : (xs : List Range') (d : Range')
    → 0 < length (map range_of xs)
    → AreApart (map range_of xs)
    → IsLeast (λ z. IsInSome z (map range_of xs)) (slice_index_or xs 0 d).least
first_least [] d h a = absurd (omega arith)
first_least (x ∷ xs) d h a = least_is (range_of x) (map range_of xs) a

pub last_greatest : (xs : List Range') (d : Range')
    → 0 < length (map range_of xs)
    → AreApart (map range_of xs)
    → IsGreatest (λ z. IsInSome z (map range_of xs)) (slice_index_or xs (length xs - 1) d).greatest
last_greatest [] d h a = absurd (omega arith)
last_greatest (x ∷ xs) d h a = rw sub-one (greatest_is x xs d a)

-- if there is a range, there is a number
pub some_number : (rs : List Range) → AreApart rs → 0 < length rs → (z : ℤ) × IsInSome z rs
some_number [] a h = absurd (omega arith)
some_number (r ∷ rs) a h = let some = some_in r.least r.greatest a.0 in (some.0, inl (some.1, some.2))

-- the test whether there is no range decides whether there is no number
pub none_if_empty : (xs : List Range') (b : Bool)
    → AreApart (map range_of xs)
    → b ≡ (length xs == 0)
    → (b ≡ true) ↔ ((z : ℤ) → IsInSome z (map range_of xs) → ⊥)
none_if_empty [] b a e = (λ f z i. i, λ n. rw e refl)
none_if_empty (x ∷ xs) b a e =
    (λ f. absurd (grind arith), λ n. absurd (let s = some_number (map range_of (x ∷ xs)) a (omega arith) in n s.0 s.1))

-- ---- bounds

least_same : (P Q : ℤ → Type 0) (o : Option ℤ)
    → ((z : ℤ) → P z → Q z)
    → ((z : ℤ) → Q z → P z)
    → IsLeast P o
    → IsLeast Q o
least_same P Q None f g h = λ l k. h l (λ z p. k z (f z p))
least_same P Q (Some l) f g h = (f l h.0, λ z q. h.1 z (g z q))

greatest_same : (P Q : ℤ → Type 0) (o : Option ℤ)
    → ((z : ℤ) → P z → Q z)
    → ((z : ℤ) → Q z → P z)
    → IsGreatest P o
    → IsGreatest Q o
greatest_same P Q None f g h = λ l k. h l (λ z p. k z (f z p))
greatest_same P Q (Some l) f g h = (f l h.0, λ z q. h.1 z (g z q))

-- the least and the greatest number of a root are a constraint's bounds
pub rooted : (P : ℤ → Type 0) (c : Constraint) (rs : List Range)
    → HasRoot c rs
    → ((z : ℤ) → IsInSome z rs → P z)
    → IsLeast (λ z. IsInSome z rs) c.visible.least
    → IsGreatest (λ z. IsInSome z rs) c.visible.greatest
    → AreBounds P c
rooted P c rs r p l g = record {
  root = Some rs;
  least = least_same (λ z. IsInSome z rs) (λ z. P z × IsInSome z rs) c.visible.least (λ z i. (p z i, i)) (λ z i. i.1) l;
  greatest = greatest_same (λ z. IsInSome z rs) (λ z. P z × IsInSome z rs) c.visible.greatest (λ z i. (p z i, i)) (λ z i. i.1) g;
  not_extensible = λ e. elim r [
    | inl k ↦ k.1
    | inr k ↦ absurd (let f : true ≡ false = sym k.0 ∙ e in grind arith)
  ];
  extensible = λ e. elim r [
    | inl k ↦ absurd (let f : true ≡ false = sym e ∙ k.0 in grind arith)
    | inr k ↦ k.1
  ];
}

pub all_numbers : AreBounds IsNumber any_number
all_numbers = record {
  root = None;
  least = λ l h. let i = h (l -ℤ pos 1) (tt, tt) in omega (arith, ints);
  greatest = λ g h. let i = h (g +ℤ pos 1) (tt, tt) in omega (arith, ints);
  not_extensible = λ e. refl;
  extensible = λ e. absurd (let f : false ≡ true = e in grind arith);
}

not_negative : (z : ℤ) → IsSize z → pos 0 ≤ℤ z
not_negative (pos n) s = omega (arith, ints)
not_negative (negsuc n) s = absurd s

no_greatest_size : (g : ℤ) → ((z : ℤ) → IsSize z × Unit {0} → z ≤ℤ g) → ⊥
no_greatest_size (pos n) h = let i = h (pos (n + 1)) (tt, tt) in omega (arith, ints)
no_greatest_size (negsuc n) h = let i = h (pos 0) (tt, tt) in omega (arith, ints)

pub all_sizes : AreBounds IsSize any_size
all_sizes = record {
  root = None;
  least = ((tt, tt), λ z s. not_negative z s.0);
  greatest = no_greatest_size;
  not_extensible = λ e. refl;
  extensible = λ e. absurd (let f : false ≡ true = e in grind arith);
}
