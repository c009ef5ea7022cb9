-- A number in a tree of ranges that are apart, and whether ranges are apart.
use Rattle.std.proofs.Common.{inl, inr, ◌≡◌, ◌∙◌, ap, refl, sym, subst, true, false, arith, ℕ, ◌+◌, ◌≤ℤ◌, ℤ, Some, None}
use Rattle.std.specs.Prelude.{◌<ℤ◌, ◌⊎◌, ◌↔◌, ◌++◌, [], ◌∷◌, List, Option, Bool, IfSome, IsSomeAnd, drop}
use Rattle.std.specs.Global.{Global}
use Rattle.std.specs.declared.rc.Rc.{Rc}
use Rattle.std.specs.List.{AllByRecursion}
use Rattle.std.proofs.lemmas.Int.{ints}
use Rattle.asn_base.specs.declared.range_node.Node.{Node}
use Rattle.asn_base.specs.Types.{Range}
use Rattle.asn_base.specs.Typed.{IsInRange, IsInSome}
use Rattle.asn_base.specs.Trees.{HoldsSome, EndsBefore, AreApart, ranges_in}
use Rattle.asn_base.specs.proving.Searching.{is_below}
use Rattle.asn_base.proofs.Unrolled.{unrolled, least_of, greatest_of, top, there}

-- ---- beginnings and ends

-- the number is not below the beginning, and not above the end
abbrev pub From : Option ℤ → ℤ → Type 0
From l z = IfSome l (λ l. l ≤ℤ z)

abbrev pub UpTo : Option ℤ → ℤ → Type 0
UpTo g z = IfSome g (λ g. z ≤ℤ g)

-- the end lies before the beginning
abbrev pub Ends : Option ℤ → Option ℤ → Type 0
Ends g l = IsSomeAnd g (λ g. IsSomeAnd l (λ l. g <ℤ l))

pub above_none : (g : Option ℤ) (z : ℤ) → is_below z g ≡ true → UpTo g z → ⊥
above_none None z b u = grind arith
above_none (Some g) z b u = grind (arith, ints)

-- what begins past an end that isn't below the number begins past the number
pub past_end : (g l : Option ℤ) (z : ℤ) → is_below z g ≡ false → Ends g l → From l z → ⊥
past_end None l z b e f = e
past_end (Some g) None z b e f = e
past_end (Some g) (Some l) z b e f = grind (arith, ints)

pub ends_below_too : (g l h : Option ℤ) (z : ℤ)
    → Ends g l
    → IfSome l (λ k. IfSome h (λ e. k ≤ℤ e))
    → is_below z h ≡ true
    → is_below z g ≡ true
ends_below_too None l h z e s b = absurd e
ends_below_too (Some g) None h z e s b = absurd e
ends_below_too (Some g) (Some l) None z e s b = absurd (let f : false ≡ true = b in grind arith)
ends_below_too (Some g) (Some l) (Some h) z e s b = grind (arith, ints)

-- ---- lists of ranges

all_left : (P : Range → Type 0) (xs ys : List Range) → AllByRecursion P (xs ++ ys) → AllByRecursion P xs
all_left P [] ys a = tt
all_left P (x ∷ xs) ys a = (a.0, all_left P xs ys a.1)

all_right : (P : Range → Type 0) (xs ys : List Range) → AllByRecursion P (xs ++ ys) → AllByRecursion P ys
all_right P [] ys a = a
all_right P (x ∷ xs) ys a = all_right P xs ys a.1

pub apart_left : (xs ys : List Range) → AreApart (xs ++ ys) → AreApart xs
apart_left [] ys a = tt
apart_left (x ∷ xs) ys a = (a.0, all_left (EndsBefore x) xs ys a.1, apart_left xs ys a.2)

pub apart_right : (xs ys : List Range) → AreApart (xs ++ ys) → AreApart ys
apart_right [] ys a = a
apart_right (x ∷ xs) ys a = apart_right xs ys a.2

-- each range before x ends before x begins
pub each_before : (xs : List Range) (x : Range) (ys : List Range)
    → AreApart (xs ++ (x ∷ ys))
    → AllByRecursion (λ y. EndsBefore y x) xs
each_before [] x ys a = tt
each_before (w ∷ xs) x ys a = ((all_right (EndsBefore w) xs (x ∷ ys) a.1).0, each_before xs x ys a.2)

pub in_left : (z : ℤ) (xs ys : List Range) → IsInSome z xs → IsInSome z (xs ++ ys)
in_left z [] ys i = absurd i
in_left z (x ∷ xs) ys (inl i) = inl i
in_left z (x ∷ xs) ys (inr i) = inr (in_left z xs ys i)

pub in_right : (z : ℤ) (xs ys : List Range) → IsInSome z ys → IsInSome z (xs ++ ys)
in_right z [] ys i = i
in_right z (x ∷ xs) ys i = inr (in_right z xs ys i)

pub in_either : (z : ℤ) (xs ys : List Range) → IsInSome z (xs ++ ys) → IsInSome z xs ⊎ IsInSome z ys
in_either z [] ys i = inr i
in_either z (x ∷ xs) ys (inl i) = inl (inl i)
in_either z (x ∷ xs) ys (inr i) = elim (in_either z xs ys i) [ inl j ↦ inl (inr j) | inr j ↦ inr j ]

-- ---- a search

pub opened : (l : Option (Rc Node Global)) (r : Rc Node Global) (m : Node)
    → l ≡ Some r
    → m ≡ r.value
    → ranges_in l ≡ least_of m ++ (top m ∷ greatest_of m)
opened l r m e f = there l r m e f ∙ unrolled m

-- if a range ends below the number, so do those before it
none_before : (z : ℤ) (x : Range) (bs : List Range)
    → HoldsSome x
    → is_below z x.greatest ≡ true
    → AllByRecursion (λ y. EndsBefore y x) bs
    → IsInSome z bs
    → ⊥
none_before z x [] h b a i = i
none_before z x (y ∷ bs) h b a (inl i) =
    above_none y.greatest z (ends_below_too y.greatest x.least x.greatest z a.0 h b) i.1
none_before z x (y ∷ bs) h b a (inr i) = none_before z x bs h b a.1 i

-- if a range doesn't end below the number, those after it don't have the number
none_after : (z : ℤ) (x : Range) (zs : List Range)
    → is_below z x.greatest ≡ false
    → AllByRecursion (EndsBefore x) zs
    → IsInSome z zs
    → ⊥
none_after z x [] b a i = i
none_after z x (y ∷ zs) b a (inl i) = past_end x.greatest y.least z b a.0 i.0
none_after z x (y ∷ zs) b a (inr i) = none_after z x zs b a.1 i

pub find_after : (l : Option (Rc Node Global)) (r : Rc Node Global) (n m : Node) (z : ℤ) (b : Bool)
    → l ≡ Some r
    → n ≡ r.value
    → m ≡ r.value
    → true ≡ is_below z (top n).greatest
    → (AreApart (greatest_of m) → (b ≡ true) ↔ IsInSome z (greatest_of m))
    → AreApart (ranges_in l)
    → (b ≡ true) ↔ IsInSome z (ranges_in l)
find_after l r n m z b e f g s h a =
    let v = r.value in
    let o = opened l r v e refl in
    let p = apart_right (least_of v) (top v ∷ greatest_of v) (subst AreApart o a) in
    let below : is_below z (top v).greatest ≡ true = sym (rw f at s) in
    let h' = (rw g at h) p.2 in
    rw o (
      λ t. in_right z (least_of v) (top v ∷ greatest_of v) (inr (h'.0 t)),
      λ i. elim (in_either z (least_of v) (top v ∷ greatest_of v) i) [
        | inl j ↦ absurd (none_before z (top v) (least_of v) p.0 below
            (each_before (least_of v) (top v) (greatest_of v) (subst AreApart o a)) j)
        | inr j ↦ elim j [ inl k ↦ absurd (above_none (top v).greatest z below k.1) | inr k ↦ h'.1 k ]
      ],
    )

pub find_here : (l : Option (Rc Node Global)) (r : Rc Node Global) (n : Node) (z : ℤ) (b : Bool)
    → l ≡ Some r
    → n ≡ r.value
    → b ≡ true
    → IsInRange z (top n)
    → (b ≡ true) ↔ IsInSome z (ranges_in l)
find_here l r n z b e f t i =
    rw (opened l r n e f) (λ u. in_right z (least_of n) (top n ∷ greatest_of n) (inl i), λ u. t)

pub find_before : (l : Option (Rc Node Global)) (r : Rc Node Global) (n k m : Node) (z : ℤ) (b : Bool)
    → l ≡ Some r
    → n ≡ r.value
    → k ≡ r.value
    → m ≡ r.value
    → false ≡ is_below z (top n).greatest
    → (IsInRange z (top k) → ⊥)
    → (AreApart (least_of m) → (b ≡ true) ↔ IsInSome z (least_of m))
    → AreApart (ranges_in l)
    → (b ≡ true) ↔ IsInSome z (ranges_in l)
find_before l r n k m z b e f f' g s w h a =
    let v = r.value in
    let o = opened l r v e refl in
    let a' = subst AreApart o a in
    let p = apart_right (least_of v) (top v ∷ greatest_of v) a' in
    let below : is_below z (top v).greatest ≡ false = sym (rw f at s) in
    let w' = rw f' at w in
    let h' = (rw g at h) (apart_left (least_of v) (top v ∷ greatest_of v) a') in
    rw o (
      λ t. in_left z (least_of v) (top v ∷ greatest_of v) (h'.0 t),
      λ i. elim (in_either z (least_of v) (top v ∷ greatest_of v) i) [
        | inl j ↦ h'.1 j
        | inr j ↦ elim j [ inl q ↦ absurd (w' q) | inr q ↦ absurd (none_after z (top v) (greatest_of v) below p.1 q) ]
      ],
    )

through : (g k h l : Option ℤ) → Ends g k → IfSome k (λ k. IfSome h (λ e. k ≤ℤ e)) → Ends h l → Ends g l
through None k h l e s f = absurd e
through (Some g) None h l e s f = absurd e
through (Some g) (Some k) None l e s f = absurd f
through (Some g) (Some k) (Some h) None e s f = absurd f
through (Some g) (Some k) (Some h) (Some l) e s f = omega (arith, ints)

all_past : (x r : Range) (xs : List Range)
    → HoldsSome x
    → EndsBefore r x
    → AllByRecursion (EndsBefore x) xs
    → AllByRecursion (EndsBefore r) xs
all_past x r [] h e a = tt
all_past x r (y ∷ xs) h e a = (through r.greatest x.least x.greatest y.least e h a.0, all_past x r xs h e a.1)

-- ---- lists whose ranges are apart

-- the last range of a list
pub apart_last : (ys : List Range) (i : ℕ) (r : Range)
    → drop i ys ≡ r ∷ drop (i + 1) ys
    → drop (i + 1) ys ≡ []
    → HoldsSome r
    → AreApart (drop i ys)
apart_last ys i r e f h = subst AreApart (sym (e ∙ ap (λ q. r ∷ q) f)) (h, tt, tt)

-- a range before ranges that are apart, which ends before the first one begins
pub apart_more : (x y : Range) (ys : List Range)
    → HoldsSome x
    → EndsBefore x y
    → AreApart (y ∷ ys)
    → AreApart (x ∷ y ∷ ys)
apart_more x y ys h e a = (h, (e, all_past y x ys a.0 e a.1), a)

pub apart_next : (ys : List Range) (i : ℕ) (x y : Range)
    → drop i ys ≡ x ∷ drop (i + 1) ys
    → drop (i + 1) ys ≡ y ∷ drop (i + 1 + 1) ys
    → HoldsSome x
    → EndsBefore x y
    → AreApart (drop (i + 1) ys)
    → AreApart (drop i ys)
apart_next ys i x y e f h b a =
    subst AreApart (sym (e ∙ ap (λ q. x ∷ q) f)) (apart_more x y (drop (i + 1 + 1) ys) h b (subst AreApart f a))

-- ---- ranges in any order

pub any_here : (l : Option (Rc Node Global)) (r : Rc Node Global) (n : Node) (z : ℤ)
    → l ≡ Some r
    → n ≡ r.value
    → IsInRange z (top n)
    → IsInSome z (ranges_in l)
any_here l r n z e f i =
    subst (IsInSome z) (sym (opened l r n e f)) (in_right z (least_of n) (top n ∷ greatest_of n) (inl i))

pub any_before : (l : Option (Rc Node Global)) (r : Rc Node Global) (n : Node) (z : ℤ)
    → l ≡ Some r
    → n ≡ r.value
    → IsInSome z (least_of n)
    → IsInSome z (ranges_in l)
any_before l r n z e f i =
    subst (IsInSome z) (sym (opened l r n e f)) (in_left z (least_of n) (top n ∷ greatest_of n) i)

pub any_after : (l : Option (Rc Node Global)) (r : Rc Node Global) (n : Node) (z : ℤ)
    → l ≡ Some r
    → n ≡ r.value
    → IsInSome z (greatest_of n)
    → IsInSome z (ranges_in l)
any_after l r n z e f i =
    subst (IsInSome z) (sym (opened l r n e f)) (in_right z (least_of n) (top n ∷ greatest_of n) (inr i))

-- a number that is neither in the range of a node nor in those before it
pub any_else : (l : Option (Rc Node Global)) (r : Rc Node Global) (n k m : Node) (z : ℤ) (b : Bool)
    → l ≡ Some r
    → n ≡ r.value
    → k ≡ r.value
    → m ≡ r.value
    → (IsInRange z (top n) → ⊥)
    → (IsInSome z (least_of k) → ⊥)
    → (b ≡ true) ↔ IsInSome z (greatest_of m)
    → (b ≡ true) ↔ IsInSome z (ranges_in l)
any_else l r n k m z b e f g i w v h =
    let u = r.value in
    let w' : IsInRange z (top u) → ⊥ = rw f at w in
    let v' : IsInSome z (least_of u) → ⊥ = rw g at v in
    let h' : (b ≡ true) ↔ IsInSome z (greatest_of u) = rw i at h in
    rw (opened l r u e refl) (
      λ t. in_right z (least_of u) (top u ∷ greatest_of u) (inr (h'.0 t)),
      λ q. elim (in_either z (least_of u) (top u ∷ greatest_of u) q) [
        | inl j ↦ absurd (v' j)
        | inr j ↦ elim j [ inl k ↦ absurd (w' k) | inr k ↦ h'.1 k ]
      ],
    )
