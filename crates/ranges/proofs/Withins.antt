-- What is left of ranges within others has the numbers that are in both, and is apart.
use Rattle.std.proofs.Common.{inl, inr, ◌≡◌, refl, sym, subst, true, false, arith, ℤ, ◌≤ℤ◌, Some, None}
use Rattle.std.specs.Prelude.{◌⊎◌, ◌↔◌, ◌++◌, [], ◌∷◌, List, Option, IfSome, Bool, if◌then◌else◌}
use Rattle.std.specs.List.{AllByRecursion}
use Rattle.std.proofs.lemmas.Int.{ints}
use Rattle.asn_base.specs.Types.{Range}
use Rattle.asn_base.specs.Typed.{IsInRange, IsInSome}
use Rattle.ranges.specs.Numbers.{EndsBefore, AreApart}
use Rattle.ranges.specs.proving.Joining.{holds_some}
use Rattle.ranges.specs.proving.Meeting.{common, IsKept}
use Rattle.ranges.specs.proving.Trees.{kept, within, within_each}
use Rattle.ranges.proofs.Orders as orders
use Rattle.ranges.proofs.Meets as meets

pub in_left : (z : ℤ) (xs ys : List Range) → IsInSome z xs → IsInSome z (xs ++ ys)
in_left z [] ys i = absurd i
in_left z (x ∷ xs) ys (inl i) = inl i
in_left z (x ∷ xs) ys (inr i) = inr (in_left z xs ys i)

pub in_right : (z : ℤ) (xs ys : List Range) → IsInSome z ys → IsInSome z (xs ++ ys)
in_right z [] ys i = i
in_right z (x ∷ xs) ys i = inr (in_right z xs ys i)

pub in_either : (z : ℤ) (xs ys : List Range) → IsInSome z (xs ++ ys) → IsInSome z xs ⊎ IsInSome z ys
in_either z [] ys i = inr i
in_either z (x ∷ xs) ys (inl i) = inl (inl i)
in_either z (x ∷ xs) ys (inr i) = elim (in_either z xs ys i) [ inl j ↦ inl (inr j) | inr j ↦ inr j ]

-- ---- a range that is kept if it contains a number

holds : (l g : Option ℤ) → holds_some l g ≡ true → IfSome l (λ k. IfSome g (λ e. k ≤ℤ e))
holds None g h = tt
holds (Some l) None h = tt
holds (Some l) (Some g) h = grind (arith, ints)

holds_not : (l g : Option ℤ) → holds_some l g ≡ false → IfSome l (λ k. IfSome g (λ e. k ≤ℤ e)) → ⊥
holds_not None g h i = absurd (grind arith)
holds_not (Some l) None h i = absurd (grind arith)
holds_not (Some l) (Some g) h i = grind (arith, ints)

kept_by : (r : Range) (ms : List Range) (b : Bool)
    → holds_some r.least r.greatest ≡ b
    → IsKept r ms ((if b then (r ∷ []) else []) ++ ms)
kept_by r ms true h = inl (holds r.least r.greatest h, refl)
kept_by r ms false h = inr (holds_not r.least r.greatest h, refl)

is_kept : (r : Range) (ms : List Range) → IsKept r ms (kept r ++ ms)
is_kept r ms = kept_by r ms (holds_some r.least r.greatest) refl

-- ---- within one range

within_from : (r : Range) (xs : List Range) (z : ℤ) → IsInSome z (within r xs) → IsInSome z xs × IsInRange z r
unfolding within
within_from r [] z i = absurd i
within_from r (x ∷ xs) z i =
    elim (meets.from_kept (common x r) (within r xs) _ z (is_kept (common x r) (within r xs)) i) [
      | inl h ↦ (inl (meets.common_left x r z h), meets.common_right x r z h)
      | inr h ↦ let j = within_from r xs z h in (inr j.0, j.1)
    ]

within_into : (r : Range) (xs : List Range) (z : ℤ) → IsInSome z xs → IsInRange z r → IsInSome z (within r xs)
unfolding within
within_into r [] z i j = absurd i
within_into r (x ∷ xs) z (inl i) j =
    meets.into_kept (common x r) (within r xs) _ z (is_kept (common x r) (within r xs)) (inl (meets.in_common x r z i j))
within_into r (x ∷ xs) z (inr i) j =
    meets.into_kept (common x r) (within r xs) _ z (is_kept (common x r) (within r xs)) (inr (within_into r xs z i j))

-- what ends before all ranges ends before all that is left of them
within_after : (w r : Range) (xs : List Range) → AllByRecursion (EndsBefore w) xs → AllByRecursion (EndsBefore w) (within r xs)
unfolding within
within_after w r [] a = tt
within_after w r (x ∷ xs) a =
    meets.kept_all (EndsBefore w) (common x r) (within r xs) _ (is_kept (common x r) (within r xs))
    (orders.before_left w.greatest x.least r.least a.0) (within_after w r xs a.1)

-- what ends before the other range ends before all that is left within it
within_past : (w r : Range) (xs : List Range) → EndsBefore w r → AllByRecursion (EndsBefore w) (within r xs)
unfolding within
within_past w r [] e = tt
within_past w r (x ∷ xs) e =
    meets.kept_all (EndsBefore w) (common x r) (within r xs) _ (is_kept (common x r) (within r xs))
    (orders.before_right w.greatest x.least r.least e) (within_past w r xs e)

pub within_apart : (r : Range) (xs : List Range) → AreApart xs → AreApart (within r xs)
unfolding within
within_apart r [] a = tt
within_apart r (x ∷ xs) a =
    meets.kept_apart (common x r) (within r xs) _ (is_kept (common x r) (within r xs))
    (meets.common_before_left x r (within r xs) (within_after x r xs a.1)) (within_apart r xs a.2)

pub within_members : (r : Range) (xs : List Range) (z : ℤ) → IsInSome z (within r xs) ↔ (IsInSome z xs × IsInRange z r)
within_members r xs z = (λ i. within_from r xs z i, λ i. within_into r xs z i.0 i.1)

-- ---- within each of several

each_from : (rs xs : List Range) (z : ℤ) → IsInSome z (within_each rs xs) → IsInSome z xs × IsInSome z rs
unfolding within_each
each_from [] xs z i = absurd i
each_from (r ∷ rs) xs z i =
    elim (in_either z (within r xs) (within_each rs xs) i) [
      | inl h ↦ let j = within_from r xs z h in (j.0, inl j.1)
      | inr h ↦ let j = each_from rs xs z h in (j.0, inr j.1)
    ]

each_into : (rs xs : List Range) (z : ℤ) → IsInSome z xs → IsInSome z rs → IsInSome z (within_each rs xs)
unfolding within_each
each_into [] xs z i j = absurd j
each_into (r ∷ rs) xs z i (inl j) = in_left z (within r xs) (within_each rs xs) (within_into r xs z i j)
each_into (r ∷ rs) xs z i (inr j) = in_right z (within r xs) (within_each rs xs) (each_into rs xs z i j)

pub each_members : (rs xs : List Range) (z : ℤ)
    → IsInSome z (within_each rs xs) ↔ (IsInSome z xs × IsInSome z rs)
each_members rs xs z = (λ i. each_from rs xs z i, λ i. each_into rs xs z i.0 i.1)

all_append : (P : Range → Type 0) (xs ys : List Range) → AllByRecursion P xs → AllByRecursion P ys → AllByRecursion P (xs ++ ys)
all_append P [] ys a b = b
all_append P (x ∷ xs) ys a b = (a.0, all_append P xs ys a.1 b)

each_after : (w : Range) (rs xs : List Range)
    → AllByRecursion (EndsBefore w) rs
    → AllByRecursion (EndsBefore w) (within_each rs xs)
unfolding within_each
each_after w [] xs a = tt
each_after w (r ∷ rs) xs a =
    all_append (EndsBefore w) (within r xs) (within_each rs xs) (within_past w r xs a.0) (each_after w rs xs a.1)

-- ranges that are apart, and others after each of them
in_front : (xs ts : List Range)
    → AreApart xs
    → AreApart ts
    → AllByRecursion (λ x. AllByRecursion (EndsBefore x) ts) xs
    → AreApart (xs ++ ts)
in_front [] ts a b e = b
in_front (x ∷ xs) ts a b e = (a.0, all_append (EndsBefore x) xs ts a.1 e.0, in_front xs ts a.2 b e.1)

all_within_before : (r : Range) (xs ts : List Range)
    → AllByRecursion (EndsBefore r) ts
    → AllByRecursion (λ x. AllByRecursion (EndsBefore x) ts) (within r xs)
unfolding within
all_within_before r [] ts e = tt
all_within_before r (x ∷ xs) ts e =
    meets.kept_all (λ x. AllByRecursion (EndsBefore x) ts) (common x r) (within r xs) _ (is_kept (common x r) (within r xs))
    (meets.common_before_right x r ts e) (all_within_before r xs ts e)

pub each_apart : (rs xs : List Range) → AreApart rs → AreApart xs → AreApart (within_each rs xs)
unfolding within_each
each_apart [] xs a b = tt
each_apart (r ∷ rs) xs a b =
    let e = each_after r rs xs a.1 in
    in_front (within r xs) (within_each rs xs) (within_apart r xs b) (each_apart rs xs a.2 b)
    (all_within_before r xs (within_each rs xs) e)

-- the same of a set of one range
pub alone : (rs xs ms : List Range) (r : Range)
    → rs ≡ r ∷ []
    → ms ≡ within r xs
    → (z : ℤ)
    → IsInSome z ms ↔ (IsInSome z rs × IsInSome z xs)
alone rs xs ms r e f z =
    let m = within_members r xs z in (
      λ i. (let j = m.0 (subst (IsInSome z) f i) in (subst (IsInSome z) (sym e) (inl j.1), j.0)),
      λ i. subst (IsInSome z) (sym f) (m.1 (i.1, elim (subst (IsInSome z) e i.0) [ inl j ↦ j | inr j ↦ absurd j ])),
    )

pub several : (rs xs ms : List Range)
    → ms ≡ within_each xs rs
    → (z : ℤ)
    → IsInSome z ms ↔ (IsInSome z rs × IsInSome z xs)
several rs xs ms f z =
    let m = each_members xs rs z in
    (λ i. m.0 (subst (IsInSome z) f i), λ i. subst (IsInSome z) (sym f) (m.1 i))
