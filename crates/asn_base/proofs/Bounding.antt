-- The least and greatest numbers of ranges.
use Rattle.std.proofs.Common.{arith, ◌≡◌, ℕ, suc, ◌+◌, ◌<◌, ◌≤◌, ℤ, Bool, true, false, List, [], ◌∷◌, inl, inr, refl, sym, subst, ap, ◌∙◌, length, get_or, drop, map}
use Rattle.std.proofs.lemmas.Int.{ints, by_lt_z}
use Rattle.std.specs.Prelude.{◌↔◌, pos, negsuc, ◌≤ℤ◌, Option, Some, None, IfSome, IsSomeAnd, IsTrue, is_none, is_some, not, ◌||◌}
use Rattle.std.specs.List.{list_any}
use Rattle.asn_base.specs.declared.constraint.Range.{Range as Range'}
use Rattle.asn_base.specs.Types.{Range, Constraint}
use Rattle.asn_base.specs.Typed.{IsInRange, IsInSome}
use Rattle.asn_base.specs.Schemas.{AreBounds, IsLeast, IsGreatest, IsSize}
use Rattle.asn_base.specs.Seen.{range_of}
use Rattle.asn_base.specs.Trees.{HoldsSome}
use Rattle.asn_base.specs.proving.Lists.{drop_here, drop_past}
use Rattle.asn_base.specs.proving.Bounding.{From, IsInRoot, AreEnds}
use Rattle.asn_base.proofs.Leaves.{yes, no}

pub below : (z : ℤ) → (y : ℤ) × (z ≤ℤ y → ⊥)
below (pos n) = (negsuc 0, λ h. omega (arith, ints))
below (negsuc n) = (negsuc (suc n), λ h. omega (arith, ints))

pub above : (z : ℤ) → (y : ℤ) × (y ≤ℤ z → ⊥)
above (pos n) = (pos (suc n), λ h. omega (arith, ints))
above (negsuc n) = (pos 0, λ h. omega (arith, ints))

apart : (a b c : ℤ) → (a ≤ℤ b → ⊥) → a ≤ℤ c → b ≤ℤ c
apart a b c n l = by_lt_z b a (λ h. omega (arith, ints, h, l)) (λ h. absurd (n h))

-- below l there is a number that is at most g
pub under : (l : ℤ) (g : Option ℤ) → (z : ℤ) × IfSome g (λ q. z ≤ℤ q) × (l ≤ℤ z → ⊥)
under l None = let b = below l in (b.0, tt, b.1)
under l (Some g) = by_lt_z g l (λ h. (g, omega (arith, ints), λ k. omega (arith, ints, h, k))) (λ h. let b = below l in (b.0, apart l b.0 g b.1 h, b.1))

apart_up : (a b c : ℤ) → (a ≤ℤ b → ⊥) → c ≤ℤ b → c ≤ℤ a
apart_up a b c n l = by_lt_z b a (λ h. omega (arith, ints, h, l)) (λ h. absurd (n h))

pub over : (g : ℤ) (l : Option ℤ) → (z : ℤ) × IfSome l (λ q. q ≤ℤ z) × (z ≤ℤ g → ⊥)
over g None = let b = above g in (b.0, tt, b.1)
over g (Some l) = by_lt_z g l (λ h. (l, omega (arith, ints), λ k. omega (arith, ints, h, k))) (λ h. let b = above g in (b.0, apart_up b.0 g l b.1 h, b.1))

pub open_below : (r : Range) (l : ℤ) → r.least ≡ None → ((z : ℤ) → IsInRange z r → l ≤ℤ z) → ⊥
open_below r l e f = let u = under l r.greatest in u.2 (f u.0 (subst (λ q. IfSome q (λ p. p ≤ℤ u.0)) (sym e) tt, u.1))

pub open_above : (r : Range) (g : ℤ) → r.greatest ≡ None → ((z : ℤ) → IsInRange z r → z ≤ℤ g) → ⊥
open_above r g e f = let u = over g r.least in u.2 (f u.0 (u.1, subst (λ q. IfSome q (λ p. u.0 ≤ℤ p)) (sym e) tt))

-- ---- ranges and a bound

abbrev pub Starts : Range → ℤ → Type 0
Starts r l = IsSomeAnd r.least (λ q. l ≤ℤ q)

abbrev pub Ends : Range → ℤ → Type 0
Ends r g = IsSomeAnd r.greatest (λ q. q ≤ℤ g)

-- a range with a number in it holds some
holds : (o p : Option ℤ) (z : ℤ) → IfSome o (λ l. l ≤ℤ z) → IfSome p (λ g. z ≤ℤ g) → IfSome o (λ l. IfSome p (λ g. l ≤ℤ g))
holds None p z a b = tt
holds (Some l) None z a b = tt
holds (Some l) (Some g) z a b = omega (arith, ints)

pub started : (r : Range) (l : ℤ) → Starts r l → (z : ℤ) → IsInRange z r → l ≤ℤ z
started r l a z h = go r.least a h.0
  where
    go : (o : Option ℤ) → IsSomeAnd o (λ q. l ≤ℤ q) → IfSome o (λ q. q ≤ℤ z) → l ≤ℤ z
    go None a h = absurd a
    go (Some q) a h = omega (arith, ints)

pub ended : (r : Range) (g : ℤ) → Ends r g → (z : ℤ) → IsInRange z r → z ≤ℤ g
ended r g a z h = go r.greatest a h.1
  where
    go : (o : Option ℤ) → IsSomeAnd o (λ q. q ≤ℤ g) → IfSome o (λ q. z ≤ℤ q) → z ≤ℤ g
    go None a h = absurd a
    go (Some q) a h = omega (arith, ints)

pub not_started : (r : Range) (l : ℤ) (b : Bool) → (Starts r l → ⊥) → IsTrue b ↔ HoldsSome r → IsTrue (not b) ↔ ((z : ℤ) → IsInRange z r → l ≤ℤ z)
not_started r l true n h = no (λ f. go r.least r.greatest n (h.0 refl) f)
  where
    go : (o p : Option ℤ) → (IsSomeAnd o (λ q. l ≤ℤ q) → ⊥) → IfSome o (λ q. IfSome p (λ g. q ≤ℤ g)) → ((z : ℤ) → IfSome o (λ q. q ≤ℤ z) × IfSome p (λ g. z ≤ℤ g) → l ≤ℤ z) → ⊥
    go None p n k f = let u = under l p in u.2 (f u.0 (tt, u.1))
    go (Some q) p n k f = n (f q (omega (arith, ints), k))
not_started r l false n h = yes (λ z i. absurd (let k : false ≡ true = h.1 (holds r.least r.greatest z i.0 i.1) in cc))

pub not_ended : (r : Range) (g : ℤ) (b : Bool) → (Ends r g → ⊥) → IsTrue b ↔ HoldsSome r → IsTrue (not b) ↔ ((z : ℤ) → IsInRange z r → z ≤ℤ g)
not_ended r g true n h = no (λ f. go r.least r.greatest n (h.0 refl) f)
  where
    go : (o p : Option ℤ) → (IsSomeAnd p (λ q. q ≤ℤ g) → ⊥) → IfSome o (λ q. IfSome p (λ y. q ≤ℤ y)) → ((z : ℤ) → IfSome o (λ q. q ≤ℤ z) × IfSome p (λ y. z ≤ℤ y) → z ≤ℤ g) → ⊥
    go o None n k f = let u = over g o in u.2 (f u.0 (u.1, tt))
    go None (Some y) n k f = n (f y (tt, omega (arith, ints)))
    go (Some q) (Some y) n k f = n (f y (k, omega (arith, ints)))
not_ended r g false n h = yes (λ z i. absurd (let k : false ≡ true = h.1 (holds r.least r.greatest z i.0 i.1) in cc))

-- the part of a range from a floor on
pub clip_none : (r : Range) (f z : ℤ) → Starts r f → IsInRange z r ↔ (From (Some f) z × IsInRange z r)
clip_none r f z a = (λ h. (started r f a z h, h), λ p. p.1)

pub clip_some : (r : Range) (f z : ℤ) → (Starts r f → ⊥) → IsInRange z (record { least = Some f; greatest = r.greatest }) ↔ (From (Some f) z × IsInRange z r)
clip_some r f z n = (λ h. (h.0, (low r.least n h.0, h.1)), λ p. (p.0, p.1.1))
  where
    low : (o : Option ℤ) → (IsSomeAnd o (λ q. f ≤ℤ q) → ⊥) → f ≤ℤ z → IfSome o (λ q. q ≤ℤ z)
    low None n h = tt
    low (Some q) n h = apart f q z n h

-- ---- all numbers of the ranges

abbrev AllIn : Option ℤ → (ℤ → Type 0) → List Range → Type 0
AllIn floor G rs = (z : ℤ) → From floor z × IsInSome z rs → G z

pub all_in_none : (floor : Option ℤ) (G : ℤ → Type 0) → AllIn floor G []
all_in_none floor G z h = absurd h.1

pub all_in : (floor : Option ℤ) (G : ℤ → Type 0) (r : Range) (rs : List Range) → AllIn floor G (r ∷ rs) ↔ (((z : ℤ) → From floor z × IsInRange z r → G z) × AllIn floor G rs)
all_in floor G r rs = (
  λ f. (λ z h. f z (h.0, inl h.1), λ z h. f z (h.0, inr h.1)),
  λ p z h. elim h.1 [ inl a ↦ p.0 z (h.0, a) | inr b ↦ p.1 z (h.0, b) ],
)

-- ---- bounds of the numbers of ranges

any_at : {A : Type 0} (f : A → Bool) (xs : List A) (i : ℕ) (d : A) → i < length xs → list_any f xs ≡ list_any f (drop i xs) → list_any f xs ≡ (f (get_or xs i d) || list_any f (drop (i + 1) xs))
any_at f xs i d l e = e ∙ ap (list_any f) (drop_here xs i d l)

pub any_found : {A : Type 0} (f : A → Bool) (xs : List A) (i : ℕ) (d : A) → i < length xs → f (get_or xs i d) ≡ true → list_any f xs ≡ list_any f (drop i xs) → true ≡ list_any f xs
any_found f xs i d l h e = sym (any_at f xs i d l e ∙ ap (λ b. b || list_any f (drop (i + 1) xs)) h)

pub any_passed : {A : Type 0} (f : A → Bool) (xs : List A) (i : ℕ) (d : A) → i < length xs → f (get_or xs i d) ≡ false → list_any f xs ≡ list_any f (drop i xs) → list_any f xs ≡ list_any f (drop (i + 1) xs)
any_passed f xs i d l h e = any_at f xs i d l e ∙ ap (λ b. b || list_any f (drop (i + 1) xs)) h

pub any_none : {A : Type 0} (f : A → Bool) (xs : List A) (i : ℕ) → length xs ≤ i → list_any f xs ≡ list_any f (drop i xs) → false ≡ list_any f xs
any_none f xs i l e = sym (e ∙ ap (list_any f) (drop_past xs i l))

pub open_found : (rs : List Range') (l : ℤ) → list_any (λ (r : Range'). is_none r.least) rs ≡ true → AllIn None (λ z. l ≤ℤ z) (map range_of rs) → ⊥
open_found [] l h f = absurd cc
open_found (r ∷ rs) l h f = go r.least refl h (λ k. open_found rs l k ((all_in None (λ z. l ≤ℤ z) (range_of r) (map range_of rs)).0 f).1)
  where
    go : (o : Option ℤ) → r.least ≡ o → (is_none o || list_any (λ (q : Range'). is_none q.least) rs) ≡ true → (list_any (λ (q : Range'). is_none q.least) rs ≡ true → ⊥) → ⊥
    go None e k rest = open_below (range_of r) l e (λ z i. ((all_in None (λ y. l ≤ℤ y) (range_of r) (map range_of rs)).0 f).0 z (tt, i))
    go (Some m) e k rest = rest k

higher : (floor : Option ℤ) (g : ℤ) (l : Option ℤ) → (z : ℤ) × From floor z × IfSome l (λ q. q ≤ℤ z) × (z ≤ℤ g → ⊥)
higher floor g l =
    let u = over g l in
    let v = over u.0 floor in
    (v.0, v.1, above_too l u.0 v.0 u.1 v.2, λ h. u.2 (later u.0 v.0 g v.2 h))
  where
    later : (a b c : ℤ) → (b ≤ℤ a → ⊥) → b ≤ℤ c → a ≤ℤ c
    later a b c n h = by_lt_z a b (λ k. omega (arith, ints, h, k)) (λ k. absurd (n k))

    above_too : (o : Option ℤ) (a b : ℤ) → IfSome o (λ q. q ≤ℤ a) → (b ≤ℤ a → ⊥) → IfSome o (λ q. q ≤ℤ b)
    above_too None a b h n = tt
    above_too (Some q) a b h n = by_lt_z a b (λ k. omega (arith, ints, h, k)) (λ k. absurd (n k))

pub open_found_above : (floor : Option ℤ) (rs : List Range') (g : ℤ) → list_any (λ (r : Range'). is_none r.greatest) rs ≡ true → AllIn floor (λ z. z ≤ℤ g) (map range_of rs) → ⊥
open_found_above floor [] g h f = absurd cc
open_found_above floor (r ∷ rs) g h f = go r.greatest refl h (λ k. open_found_above floor rs g k ((all_in floor (λ z. z ≤ℤ g) (range_of r) (map range_of rs)).0 f).1)
  where
    go : (o : Option ℤ) → r.greatest ≡ o → (is_none o || list_any (λ (q : Range'). is_none q.greatest) rs) ≡ true → (list_any (λ (q : Range'). is_none q.greatest) rs ≡ true → ⊥) → ⊥
    go None e k rest =
        let u = higher floor g r.least in
        u.3 (((all_in floor (λ y. y ≤ℤ g) (range_of r) (map range_of rs)).0 f).0 u.0 (u.1, (u.2, subst (λ q. IfSome q (λ p. u.0 ≤ℤ p)) (sym e) tt)))
    go (Some m) e k rest = rest k

-- without such a range the numbers have a bound
pub bound_below : (rs : List Range') → list_any (λ (r : Range'). is_none r.least) rs ≡ false → (l : ℤ) × ((z : ℤ) → IsInSome z (map range_of rs) → l ≤ℤ z)
bound_below [] h = (pos 0, λ z i. absurd i)
bound_below (r ∷ rs) h = go r.least refl h (bound_below rs)
  where
    go : (o : Option ℤ) → r.least ≡ o → (is_none o || list_any (λ (q : Range'). is_none q.least) rs) ≡ false → (list_any (λ (q : Range'). is_none q.least) rs ≡ false → (l : ℤ) × ((z : ℤ) → IsInSome z (map range_of rs) → l ≤ℤ z)) → (l : ℤ) × ((z : ℤ) → IsInSome z (range_of r ∷ map range_of rs) → l ≤ℤ z)
    go None e k rest = absurd cc
    go (Some m) e k rest =
        let b = rest k in
        by_lt_z m b.0
        (λ lt. (m, λ z i. elim i [ inl a ↦ subst (λ q. IfSome q (λ p. p ≤ℤ z)) e a.0 | inr c ↦ (let d = b.1 z c in omega (arith, ints, lt, d)) ]))
        (λ le. (b.0, λ z i. elim i [ inl a ↦ (let d : m ≤ℤ z = subst (λ q. IfSome q (λ p. p ≤ℤ z)) e a.0 in omega (arith, ints, le, d)) | inr c ↦ b.1 z c ]))

pub bound_above : (rs : List Range') → list_any (λ (r : Range'). is_none r.greatest) rs ≡ false → (g : ℤ) × ((z : ℤ) → IsInSome z (map range_of rs) → z ≤ℤ g)
bound_above [] h = (pos 0, λ z i. absurd i)
bound_above (r ∷ rs) h = go r.greatest refl h (bound_above rs)
  where
    go : (o : Option ℤ) → r.greatest ≡ o → (is_none o || list_any (λ (q : Range'). is_none q.greatest) rs) ≡ false → (list_any (λ (q : Range'). is_none q.greatest) rs ≡ false → (g : ℤ) × ((z : ℤ) → IsInSome z (map range_of rs) → z ≤ℤ g)) → (g : ℤ) × ((z : ℤ) → IsInSome z (range_of r ∷ map range_of rs) → z ≤ℤ g)
    go None e k rest = absurd cc
    go (Some m) e k rest =
        let b = rest k in
        by_lt_z m b.0
        (λ lt. (b.0, λ z i. elim i [ inl a ↦ (let d : z ≤ℤ m = subst (λ q. IfSome q (λ p. z ≤ℤ p)) e a.1 in omega (arith, ints, lt, d)) | inr c ↦ b.1 z c ]))
        (λ le. (m, λ z i. elim i [ inl a ↦ subst (λ q. IfSome q (λ p. z ≤ℤ p)) e a.1 | inr c ↦ (let d = b.1 z c in omega (arith, ints, le, d)) ]))

-- ---- a bound that isn't there

pub no_least : (rs : List Range') (b : Bool) → b ≡ list_any (λ (r : Range'). is_none r.least) rs → IsTrue b ↔ IsLeast (IsInRoot None (Some (map range_of rs))) None
no_least rs true e = yes (λ l f. open_found rs l (sym e) f)
no_least rs false e = no (λ f. let b = bound_below rs (sym e) in f b.0 (λ z h. b.1 z h.1))

pub no_greatest : (floor : Option ℤ) (rs : List Range') (b : Bool) → b ≡ list_any (λ (r : Range'). is_none r.greatest) rs → IsTrue b ↔ IsGreatest (IsInRoot floor (Some (map range_of rs))) None
no_greatest floor rs true e = yes (λ g f. open_found_above floor rs g (sym e) f)
no_greatest floor rs false e = no (λ f. let b = bound_above rs (sym e) in f b.0 (λ z h. b.1 z h.1))

pub floor_is_bound : (floor : Option ℤ) (root : Option (List Range)) → is_none floor ≡ false → IsLeast (IsInRoot floor root) None → ⊥
floor_is_bound None root e f = absurd cc
floor_is_bound (Some m) root e f = f m (λ z h. h.0)

-- ---- the same numbers

pub least_alike : (P Q : ℤ → Type 0) (o : Option ℤ) → ((z : ℤ) → P z ↔ Q z) → IsLeast P o → IsLeast Q o
least_alike P Q None a f = λ l g. f l (λ z p. g z ((a z).0 p))
least_alike P Q (Some l) a f = ((a l).0 f.0, λ z q. f.1 z ((a z).1 q))

pub greatest_alike : (P Q : ℤ → Type 0) (o : Option ℤ) → ((z : ℤ) → P z ↔ Q z) → IsGreatest P o → IsGreatest Q o
greatest_alike P Q None a f = λ l g. f l (λ z p. g z ((a z).0 p))
greatest_alike P Q (Some l) a f = ((a l).0 f.0, λ z q. f.1 z ((a z).1 q))

turned : {P Q : ℤ → Type 0} → ((z : ℤ) → P z ↔ Q z) → (z : ℤ) → Q z ↔ P z
turned a z = ((a z).1, (a z).0)

abbrev unbounded : Range
unbounded = record { least = None; greatest = None }

in_open : (floor : Option ℤ) (z : ℤ) → IsInRoot floor (Some (unbounded ∷ [])) z ↔ IsInRoot floor None z
in_open floor z = (λ h. (h.0, tt), λ h. (h.0, inl (tt, tt)))

pub of_all : (floor least greatest : Option ℤ) → (IsLeast (IsInRoot floor (Some (unbounded ∷ []))) least × IsGreatest (IsInRoot floor (Some (unbounded ∷ []))) greatest) ↔ (IsLeast (IsInRoot floor None) least × IsGreatest (IsInRoot floor None) greatest)
of_all floor least greatest = (
  λ h. (least_alike _ _ least (in_open floor) h.0, greatest_alike _ _ greatest (in_open floor) h.1),
  λ h. (least_alike _ _ least (turned (in_open floor)) h.0, greatest_alike _ _ greatest (turned (in_open floor)) h.1),
)

-- ---- some root with these bounds

abbrev between : Option ℤ → Option ℤ → Range
between l g = record { least = l; greatest = g }

upper : (floor : Option ℤ) (root : Option (List Range)) (l : ℤ) (greatest : Option ℤ) → IsInRoot floor root l → IsGreatest (IsInRoot floor root) greatest → IfSome greatest (λ g. l ≤ℤ g)
upper floor root l None i h = tt
upper floor root l (Some g) i h = h.1 l i

lower : (floor : Option ℤ) (root : Option (List Range)) (g : ℤ) (least : Option ℤ) → IsInRoot floor root g → IsLeast (IsInRoot floor root) least → IfSome least (λ l. l ≤ℤ g)
lower floor root g None i h = tt
lower floor root g (Some l) i h = h.1 g i

least_ends : (floor : Option ℤ) (least greatest : Option ℤ) (root : Option (List Range)) → IsLeast (IsInRoot floor root) least → IsGreatest (IsInRoot floor root) greatest → IsLeast (IsInRoot floor (Some (between least greatest ∷ []))) least
least_ends floor (Some l) greatest root h k = ((h.0.0, inl (omega (arith, ints), upper floor root l greatest h.0 k)), λ z i. elim i.1 [ inl a ↦ a.0 | inr b ↦ absurd b ])
least_ends None None greatest root h k = λ l f. open_below (between None greatest) l refl (λ z i. f z (tt, inl i))
least_ends (Some m) None greatest root h k = absurd (h m (λ z i. i.0))

greatest_ends : (floor : Option ℤ) (least greatest : Option ℤ) (root : Option (List Range)) → IsLeast (IsInRoot floor root) least → IsGreatest (IsInRoot floor root) greatest → IsGreatest (IsInRoot floor (Some (between least greatest ∷ []))) greatest
greatest_ends floor least (Some g) root h k = ((k.0.0, inl (lower floor root g least k.0 h, omega (arith, ints))), λ z i. elim i.1 [ inl a ↦ a.1 | inr b ↦ absurd b ])
greatest_ends floor least None root h k = λ g f. let u = higher floor g least in u.3 (f u.0 (u.1, inl (u.2, tt)))

pub ends : (floor least greatest : Option ℤ) → (IsLeast (IsInRoot floor (Some (between least greatest ∷ []))) least × IsGreatest (IsInRoot floor (Some (between least greatest ∷ []))) greatest) ↔ AreEnds floor least greatest
ends floor least greatest = (
  λ h. record { root = Some (between least greatest ∷ []); is_least = h.0; is_greatest = h.1 },
  λ a. (least_ends floor least greatest a.root a.is_least a.is_greatest, greatest_ends floor least greatest a.root a.is_least a.is_greatest),
)

-- ---- constraints

pub fixed : (P : ℤ → Type 0) (c : Constraint) (root : Option (List Range)) → c.allowed ≡ root → c.visible.extensible ≡ false → (IsLeast (λ z. P z × IfSome root (IsInSome z)) c.visible.least × IsGreatest (λ z. P z × IfSome root (IsInSome z)) c.visible.greatest) ↔ AreBounds P c
fixed P c root r e = (
  λ h. record { root = root; least = h.0; greatest = h.1; not_extensible = λ f. r; extensible = λ f. absurd (let x = sym e ∙ f in cc) },
  λ a. let q : a.root ≡ root = sym (a.not_extensible e) ∙ r in (
    subst (λ o. IsLeast (λ z. P z × IfSome o (IsInSome z)) c.visible.least) q a.least,
    subst (λ o. IsGreatest (λ z. P z × IfSome o (IsInSome z)) c.visible.greatest) q a.greatest,
  ),
)

pub bounds_alike : (P Q : ℤ → Type 0) (c : Constraint) → ((z : ℤ) → P z ↔ Q z) → AreBounds P c → AreBounds Q c
bounds_alike P Q c a b = record {
  root = b.root;
  least = least_alike _ _ c.visible.least (λ z. ((λ h. ((a z).0 h.0, h.1)), (λ h. ((a z).1 h.0, h.1)))) b.least;
  greatest = greatest_alike _ _ c.visible.greatest (λ z. ((λ h. ((a z).0 h.0, h.1)), (λ h. ((a z).1 h.0, h.1)))) b.greatest;
  not_extensible = b.not_extensible;
  extensible = b.extensible;
}

size : (z : ℤ) → From (Some (pos 0)) z ↔ IsSize z
size (pos n) = (λ h. tt, λ h. omega (arith, ints))
size (negsuc n) = (λ h. omega (arith, ints), λ h. absurd h)

pub sizes : (c : Constraint) → AreBounds (From (Some (pos 0))) c ↔ AreBounds IsSize c
sizes c = (bounds_alike _ _ c size, bounds_alike _ _ c (turned size))

pub none_there : (o : Option ℤ) → is_none o ≡ true → None ≡ o
none_there None e = refl
none_there (Some z) e = absurd cc

pub from_not : (o : Option ℤ) (b : Bool) → not b ≡ is_some o → is_none o ≡ b
from_not o true e = ap not (sym e)
from_not o false e = ap not (sym e)
