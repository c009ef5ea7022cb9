-- Ranges that are apart, and what is left of them within another range.
use Rattle.std.proofs.Common.{◌≡◌, ◌∙◌, ap, refl, sym, true, false, arith, ℤ, ◌≤ℤ◌, Some, None}
use Rattle.std.specs.Prelude.{◌++◌, [], ◌∷◌, List, Option, IfSome}
use Rattle.std.specs.List.{AllByRecursion}
use Rattle.std.proofs.lemmas.List.{append_assoc, append-nil}
use Rattle.std.proofs.lemmas.Int.{ints, clamps, by_lt_z}
use Rattle.asn_base.specs.Types.{Range}
use Rattle.ranges.specs.Numbers.{HoldsSome, EndsBefore, AreApart}
use Rattle.ranges.specs.proving.Joining.{holds_some}
use Rattle.ranges.specs.proving.Meeting.{common, later_beginning, earlier_end}
use Rattle.ranges.specs.proving.Trees.{kept, within, onwards, up_to}
use Rattle.ranges.proofs.Orders.{Ends}

-- ---- whether a range contains a number

holds_yes : (l g : Option ℤ) → IfSome l (λ k. IfSome g (λ e. k ≤ℤ e)) → holds_some l g ≡ true
holds_yes None g h = refl
holds_yes (Some l) None h = refl
holds_yes (Some l) (Some g) h = grind (arith, ints)

holds_no : (l g : Option ℤ) → (IfSome l (λ k. IfSome g (λ e. k ≤ℤ e)) → ⊥) → holds_some l g ≡ false
holds_no None g h = absurd (h tt)
holds_no (Some l) None h = absurd (h tt)
holds_no (Some l) (Some g) h = by_lt_z g l (λ lt. grind (arith, ints)) (λ le. absurd (h le))

-- ---- ranges that are apart

all_left : (P : Range → Type 0) (xs ys : List Range) → AllByRecursion P (xs ++ ys) → AllByRecursion P xs
all_left P [] ys a = tt
all_left P (x ∷ xs) ys a = (a.0, all_left P xs ys a.1)

pub all_right : (P : Range → Type 0) (xs ys : List Range) → AllByRecursion P (xs ++ ys) → AllByRecursion P ys
all_right P [] ys a = a
all_right P (x ∷ xs) ys a = all_right P xs ys a.1

all_append : (P : Range → Type 0) (xs ys : List Range) → AllByRecursion P xs → AllByRecursion P ys → AllByRecursion P (xs ++ ys)
all_append P [] ys a b = b
all_append P (x ∷ xs) ys a b = (a.0, all_append P xs ys a.1 b)

pub apart_left : (xs ys : List Range) → AreApart (xs ++ ys) → AreApart xs
apart_left [] ys a = tt
apart_left (x ∷ xs) ys a = (a.0, all_left (EndsBefore x) xs ys a.1, apart_left xs ys a.2)

pub apart_right : (xs ys : List Range) → AreApart (xs ++ ys) → AreApart ys
apart_right [] ys a = a
apart_right (x ∷ xs) ys a = apart_right xs ys a.2

-- each range before x ends before x begins
pub each_before : (xs : List Range) (x : Range) (ys : List Range)
    → AreApart (xs ++ (x ∷ ys))
    → AllByRecursion (λ y. EndsBefore y x) xs
each_before [] x ys a = tt
each_before (w ∷ xs) x ys a = ((all_right (EndsBefore w) xs (x ∷ ys) a.1).0, each_before xs x ys a.2)

-- ---- what is left within a range

within_append : (r : Range) (xs ys : List Range) → within r (xs ++ ys) ≡ within r xs ++ within r ys
unfolding within
within_append r [] ys = refl
within_append r (x ∷ xs) ys =
    ap (λ zs. kept (common x r) ++ zs) (within_append r xs ys)
    ∙ sym (append_assoc (kept (common x r)) (within r xs) (within r ys))

none_before : (k l g h : Option ℤ) → Ends g l → holds_some (later_beginning k l) (earlier_end g h) ≡ false
none_before k l None h e = absurd e
none_before k None (Some g) h e = absurd e
none_before None (Some l) (Some g) None e = grind (arith, ints)
none_before None (Some l) (Some g) (Some h) e = grind (arith, ints, clamps)
none_before (Some k) (Some l) (Some g) None e = grind (arith, ints, clamps)
none_before (Some k) (Some l) (Some g) (Some h) e = grind (arith, ints, clamps)

none_after : (k l g h : Option ℤ) → Ends h k → holds_some (later_beginning k l) (earlier_end g h) ≡ false
none_after k l g None e = absurd e
none_after None l g (Some h) e = absurd e
none_after (Some k) None None (Some h) e = grind (arith, ints)
none_after (Some k) None (Some g) (Some h) e = grind (arith, ints, clamps)
none_after (Some k) (Some l) None (Some h) e = grind (arith, ints, clamps)
none_after (Some k) (Some l) (Some g) (Some h) e = grind (arith, ints, clamps)

gone_before : (r : Range) (xs : List Range) → AllByRecursion (λ y. EndsBefore y r) xs → within r xs ≡ []
unfolding within
gone_before r [] a = refl
gone_before r (x ∷ xs) a = rw (none_before x.least r.least x.greatest r.greatest a.0) (gone_before r xs a.1)

gone_after : (r : Range) (xs : List Range) → AllByRecursion (EndsBefore r) xs → within r xs ≡ []
unfolding within
gone_after r [] a = refl
gone_after r (x ∷ xs) a = rw (none_after x.least r.least x.greatest r.greatest a.0) (gone_after r xs a.1)

through : (g k h l : Option ℤ) → Ends g k → IfSome k (λ k. IfSome h (λ e. k ≤ℤ e)) → Ends h l → Ends g l
through None k h l e s f = absurd e
through (Some g) None h l e s f = absurd e
through (Some g) (Some k) None l e s f = absurd f
through (Some g) (Some k) (Some h) None e s f = absurd f
through (Some g) (Some k) (Some h) (Some l) e s f = omega (arith, ints)

all_through : (x r : Range) (xs : List Range)
    → HoldsSome x
    → EndsBefore x r
    → AllByRecursion (λ y. EndsBefore y x) xs
    → AllByRecursion (λ y. EndsBefore y r) xs
all_through x r [] h e a = tt
all_through x r (y ∷ xs) h e a = (through y.greatest x.least x.greatest r.least a.0 h e, all_through x r xs h e a.1)

all_past : (x r : Range) (xs : List Range)
    → HoldsSome x
    → EndsBefore r x
    → AllByRecursion (EndsBefore x) xs
    → AllByRecursion (EndsBefore r) xs
all_past x r [] h e a = tt
all_past x r (y ∷ xs) h e a = (through r.greatest x.least x.greatest y.least e h a.0, all_past x r xs h e a.1)

-- the ranges up to x end before r: only those after x are left
pub only_after : (r : Range) (bs : List Range) (x : Range) (zs : List Range)
    → AreApart (bs ++ (x ∷ zs))
    → EndsBefore x r
    → within r zs ≡ within r (bs ++ (x ∷ zs))
unfolding within
only_after r bs x zs a e =
    let h = (apart_right bs (x ∷ zs) a).0 in
    sym (rw (
      within_append r bs (x ∷ zs),
      gone_before r bs (all_through x r bs h e (each_before bs x zs a)),
      none_before x.least r.least x.greatest r.greatest e,
    ) refl)

-- the ranges from x on begin after r ends: only those before x are left
pub only_before : (r : Range) (bs : List Range) (x : Range) (zs : List Range)
    → AreApart (bs ++ (x ∷ zs))
    → EndsBefore r x
    → within r bs ≡ within r (bs ++ (x ∷ zs))
unfolding within
only_before r bs x zs a e =
    let s = apart_right bs (x ∷ zs) a in
    sym (rw (
      within_append r bs (x ∷ zs),
      gone_after r zs (all_past x r zs s.0 e s.1),
      none_after x.least r.least x.greatest r.greatest e,
    ) (append-nil (within r bs)))

upper_free : (g k h : Option ℤ) → Ends g k → (Ends h k → ⊥) → earlier_end g h ≡ earlier_end g None
upper_free None k h e n = absurd e
upper_free (Some g) None h e n = absurd e
upper_free (Some g) (Some k) None e n = refl
upper_free (Some g) (Some k) (Some h) e n = by_lt_z h k (λ lt. absurd (n lt)) (λ le. ap Some (omega (arith, ints, clamps)))

lower_free : (g k l : Option ℤ) → Ends g k → (Ends g l → ⊥) → later_beginning k l ≡ later_beginning k None
lower_free None k l e n = absurd e
lower_free (Some g) None l e n = absurd e
lower_free (Some g) (Some k) None e n = refl
lower_free (Some g) (Some k) (Some l) e n = by_lt_z g l (λ lt. absurd (n lt)) (λ le. ap Some (omega (arith, ints, clamps)))

left_side : (r x : Range) (bs : List Range)
    → AllByRecursion (λ y. EndsBefore y x) bs
    → (EndsBefore r x → ⊥)
    → within (onwards r) bs ≡ within r bs
unfolding within
left_side r x [] a n = refl
left_side r x (y ∷ bs) a n =
    rw (upper_free y.greatest x.least r.greatest a.0 n, left_side r x bs a.1 n) refl

right_side : (r x : Range) (zs : List Range)
    → AllByRecursion (EndsBefore x) zs
    → (EndsBefore x r → ⊥)
    → within (up_to r) zs ≡ within r zs
unfolding within
right_side r x [] a n = refl
right_side r x (y ∷ zs) a n =
    rw (lower_free x.greatest y.least r.least a.0 n, right_side r x zs a.1 n) refl

-- range x is neither before r nor after it: what is left of the ranges before x, of x, and of those after x
pub both_sides : (r : Range) (bs : List Range) (x : Range) (zs : List Range)
    → AreApart (bs ++ (x ∷ zs))
    → (EndsBefore x r → ⊥)
    → (EndsBefore r x → ⊥)
    → within (onwards r) bs ++ (kept (common x r) ++ within (up_to r) zs) ≡ within r (bs ++ (x ∷ zs))
unfolding within
both_sides r bs x zs a n m =
    let s = apart_right bs (x ∷ zs) a in
    rw (left_side r x bs (each_before bs x zs a) m, right_side r x zs s.1 n, within_append r bs (x ∷ zs)) refl

later_none : (k l : Option ℤ) → l ≡ None → later_beginning k l ≡ k
later_none None l e = e
later_none (Some k) l e = ap (λ m. later_beginning (Some k) m) e

earlier_none : (g h : Option ℤ) → h ≡ None → earlier_end g h ≡ g
earlier_none None h e = e
earlier_none (Some g) h e = ap (λ m. earlier_end (Some g) m) e

-- all is left within the range of all numbers
pub all_within : (r : Range) (xs : List Range) → r.least ≡ None → r.greatest ≡ None → AreApart xs → xs ≡ within r xs
unfolding within
all_within r [] e f a = refl
all_within r (x ∷ xs) e f a =
    sym (rw (
      later_none x.least r.least e,
      earlier_none x.greatest r.greatest f,
      holds_yes x.least x.greatest a.0,
      sym (all_within r xs e f a.2),
    ) refl)
