-- The rules of types for components, one by one, if both components are known by equations.
use Rattle.std.proofs.Common.{arith, ◌≡◌, ℕ, suc, ℤ, pos, negsuc, ◌≤ℤ◌, ◌+◌, ◌-◌, ◌<◌, ◌≤◌, List, [], ◌∷◌, length, map, refl, sym, ap, subst, ◌∙◌, inl, inr, Bool, true, Some, None}
use Rattle.std.specs.Prelude.{slice_get, ◌↔◌, IfSome, IsTrue, Option}
use Rattle.std.specs.List.{AllByRecursion}
use Rattle.std.proofs.lemmas.Bool.{cases_lt}
use Rattle.std.proofs.lemmas.Int.{ints}
use Rattle.std.proofs.lemmas.Option.{same_Some, slice_get_within}
use Rattle.asn_base.specs.Abstract.{AbstractValue}
use Rattle.asn_base.specs.Names.{AreDistinct}
use Rattle.asn_base.specs.Types.{Component, Constraint, Kind, NamedBit, Presence, Range, Resolved, mandatory, optional, default, addition, a_sequence, a_set, a_named_bit_string}
use Rattle.asn_base.specs.Typed.{IsAllowed, IsInRange, IsInSome, IsOfGroup}
use Rattle.asn_base.specs.Same.{Same}
use Rattle.asn_base.specs.Schemas.{AreListed, AreNamedBits, GroupsTogether, HasTag, IsNumber, IsSize, IsSound, is_addition}
use Rattle.later_versions.specs.Projected.{projected, left_out}
use Rattle.later_versions.specs.Differences.{AllowSame}
use Rattle.later_versions.specs.Later.{AreInOneGroup, AreLater, IsFront, IsMarkedAlike, IsSameComponent, both_mandatory, both_optional, both_default, both_additions}
use Rattle.later_versions.specs.proving.Groups.{AreJoined, AreOfOne, HaveSameGroups}
use Rattle.later_versions.proofs.Fronts.{yes}
use Rattle.later_versions.proofs.Joined.{groups_same, groups_whole, together_append}

-- ---- marks

pub alike_mandatory : (s : List Resolved) (t : ℕ) (p q : Presence)
    → p ≡ mandatory
    → q ≡ mandatory
    → IsTrue true ↔ IsMarkedAlike s t p q
alike_mandatory s t p q e f =
    yes (subst (λ x. IsMarkedAlike s t x q) (sym e) (subst (IsMarkedAlike s t mandatory) (sym f) both_mandatory))

pub alike_optional : (s : List Resolved) (t : ℕ) (p q : Presence)
    → p ≡ optional
    → q ≡ optional
    → IsTrue true ↔ IsMarkedAlike s t p q
alike_optional s t p q e f =
    yes (subst (λ x. IsMarkedAlike s t x q) (sym e) (subst (IsMarkedAlike s t optional) (sym f) both_optional))

defaults_of : {s : List Resolved} {t : ℕ} {d e : AbstractValue}
    → IsMarkedAlike s t (default d) (default e)
    → (left_out s t e ≡ 0) × Same s t d (projected s t e)
defaults_of (both_default a b) = (a, b)

pub alike_default : {B : Type 0} (s : List Resolved) (t : ℕ) (p q : Presence) (d e : AbstractValue)
    → p ≡ default d
    → q ≡ default e
    → B ↔ ((left_out s t e ≡ 0) × Same s t d (projected s t e))
    → B ↔ IsMarkedAlike s t p q
alike_default {B} s t p q d e f g h =
    subst (λ x. B ↔ IsMarkedAlike s t x q) (sym f) (subst (λ x. B ↔ IsMarkedAlike s t (default d) x) (sym g) (
      λ b. (let a = h.0 b in both_default a.0 a.1),
      λ m. h.1 (defaults_of m),
    ))

additions_of : {s : List Resolved} {t : ℕ} {o k : Bool} {g h : Option ℕ}
    → IsMarkedAlike s t (addition o g) (addition k h)
    → o ≡ k
additions_of both_additions = refl

pub alike_additions : {B : Type 0} (s : List Resolved) (t : ℕ) (p q : Presence) (o k : Bool) (g h : Option ℕ)
    → p ≡ addition o g
    → q ≡ addition k h
    → B ↔ (o ≡ k)
    → B ↔ IsMarkedAlike s t p q
alike_additions {B} s t p q o k g h e f b =
    subst (λ x. B ↔ IsMarkedAlike s t x q) (sym e) (subst (λ x. B ↔ IsMarkedAlike s t (addition o g) x) (sym f) (
      λ w. subst (λ x. IsMarkedAlike s t (addition o g) (addition x h)) (b.0 w) both_additions,
      λ m. b.1 (additions_of m),
    ))

-- ---- lists of components

pub all_later : (s : List Resolved) (cs ds : List Component)
    → GroupsTogether cs
    → GroupsTogether ds
    → IsFront (IsSameComponent s) cs ds
    → ((i : ℕ) (d : Component) → length cs ≤ i → slice_get ds i ≡ Some d → is_addition d ≡ true)
    → HaveSameGroups cs ds
    → AreLater s cs ds
all_later s cs ds t u f a h = record {
  front = f;
  appended = a;
  groups = groups_same cs ds t u h;
  whole = groups_whole cs ds u h;
}

pub joined_two : {B : Type 0} (cs : List Component) (i j : ℕ) (c d : Component)
    → slice_get cs i ≡ Some c
    → slice_get cs j ≡ Some d
    → B ↔ AreOfOne c d
    → B ↔ AreInOneGroup cs i j
joined_two cs i j c d e f h = (
  λ b. (let o = h.0 b in record { group = o.0; first = c; second = d; at_first = e; at_second = f; of_first = o.1; of_second = o.2 }),
  λ o. h.1 (
    o.group,
    subst (IsOfGroup o.group) (same_Some o.first c (sym o.at_first ∙ e)) o.of_first,
    subst (IsOfGroup o.group) (same_Some o.second d (sym o.at_second ∙ f)) o.of_second,
  ),
)

pub joined_before : {B : Type 0} (cs : List Component) (i : ℕ) (c d : Component)
    → 0 < i
    → slice_get cs (i - 1) ≡ Some c
    → slice_get cs i ≡ Some d
    → B ↔ AreOfOne c d
    → B ↔ AreJoined cs i
joined_before cs i c d l e f h =
    let j = joined_two cs (i - 1) i c d e f h in (
      λ b. record { before = i - 1; next = omega (arith, l); one = j.0 b },
      λ o. j.1 (subst (λ k. AreInOneGroup cs k i) (let n = o.next in let p : o.before ≡ i - 1 = omega (arith, n) in p) o.one),
    )

pub not_joined : (cs : List Component) (i : ℕ) → i ≡ 0 → AreJoined cs i → ⊥
not_joined cs i e o = let n = o.next in absurd (omega (arith, n, e))

pub not_joined_past : (cs : List Component) (i : ℕ) → length cs ≤ i → AreJoined cs i → ⊥
not_joined_past cs i l o = let w = slice_get_within cs i o.one.second o.one.at_second in absurd (omega (arith, w, l))

-- ---- constraints

pub same_allowed : {B : Type 0} (c d : Constraint) (P : ℤ → Type 0) (f g : ℤ → Type 0)
    → ((z : ℤ) → f z ↔ (IsAllowed c z × P z))
    → ((z : ℤ) → g z ↔ (IsAllowed d z × P z))
    → B ↔ ((z : ℤ) → f z ↔ g z)
    → B ↔ AllowSame P c d
same_allowed c d P f g a b h = (
  λ w z p. (λ q. ((b z).0 ((h.0 w z).0 ((a z).1 (q, p)))).0, λ q. ((a z).0 ((h.0 w z).1 ((b z).1 (q, p)))).0),
  λ l. h.1 (λ z. (
    λ q. (let e = (a z).0 q in (b z).1 ((l z e.1).0 e.0, e.1)),
    λ q. (let e = (b z).0 q in (a z).1 ((l z e.1).1 e.0, e.1)),
  )),
)

pub with_unit : {f g : ℤ → Type 0} → ((z : ℤ) → f z ↔ g z) → (z : ℤ) → f z ↔ (g z × IsNumber z)
with_unit h z = (λ p. ((h z).0 p, tt), λ p. (h z).1 p.0)

-- ---- what a schema promises

listed_together : {s : List Resolved} {e : Bool} {cs : List Component} → AreListed s e cs → GroupsTogether cs
listed_together l = subst GroupsTogether (sym l.parts) (together_append l.root l.more l.in_root l.groups)

pub sequence_together : (s : List Resolved) (k : Kind) (e : Bool) (cs : List Component)
    → IsSound s k
    → k ≡ a_sequence e cs
    → GroupsTogether cs
sequence_together s k e cs h q = let l : AreListed s e cs = subst (IsSound s) q h in listed_together l

pub set_together : (s : List Resolved) (k : Kind) (e : Bool) (cs : List Component)
    → IsSound s k
    → k ≡ a_set e cs
    → GroupsTogether cs
set_together s k e cs h q =
    let l : AreListed s e cs × AllByRecursion (λ c. HasTag s c.type) cs = subst (IsSound s) q h in listed_together l.0

pub bits_distinct : (s : List Resolved) (k : Kind) (bs : List NamedBit)
    → IsSound s k
    → k ≡ a_named_bit_string bs
    → AreDistinct (map (λ b. b.place) bs)
bits_distinct s k bs h q = let l : AreNamedBits bs = subst (IsSound s) q h in l.places

-- ---- components after a place

abbrev pub AddTo : List Component → ℕ → ℕ → Type 0
AddTo cs from n = (j : ℕ) (d : Component) → from ≤ j → j < n → slice_get cs j ≡ Some d → is_addition d ≡ true

pub add_next : (cs : List Component) (from i : ℕ) (x : Component)
    → slice_get cs i ≡ Some x
    → is_addition x ≡ true
    → AddTo cs from i
    → AddTo cs from (i + 1)
add_next cs from i x e h so = λ j d l m g. elim (cases_lt j i) [
  | inl k ↦ so j d l k g
  | inr k ↦ (
      let s : i ≡ j = omega (arith, k, m) in
      subst (λ y. is_addition y ≡ true) (same_Some x d (sym e ∙ ap (slice_get cs) s ∙ g)) h
      )
]

pub add_all : (cs : List Component) (from i : ℕ)
    → length cs ≤ i
    → AddTo cs from i
    → (j : ℕ) (d : Component)
    → from ≤ j
    → slice_get cs j ≡ Some d
    → is_addition d ≡ true
add_all cs from i l so j d m e = so j d m (let w = slice_get_within cs j d e in omega (arith, w, l)) e

-- ---- a few ranges

pub one_range : (r : Range) (z : ℤ) → IsInSome z (r ∷ []) ↔ IsInRange z r
one_range r z = (λ p. elim p [ inl q ↦ q | inr q ↦ absurd q ], λ p. inl p)

pub from_least : (l : Option ℤ) (z : ℤ) → IsInRange z (record { least = l; greatest = None }) ↔ IfSome l (λ k. k ≤ℤ z)
from_least l z = (λ p. p.0, λ p. (p, tt))

pub is_size : (z : ℤ) → (pos 0 ≤ℤ z) ↔ IsSize z
is_size (pos n) = (λ p. tt, λ p. omega (arith, ints))
is_size (negsuc n) = (λ p. absurd (omega (arith, ints)), λ p. absurd p)

-- ---- tags

abbrev pub GotTo : {A : Type 0} → List A → List A → ℕ → Type 0
GotTo xs ys n = (j : ℕ) → j < n → slice_get xs j ≡ slice_get ys j

pub got_next : {A : Type 0} (xs ys : List A) (i : ℕ) → slice_get xs i ≡ slice_get ys i → GotTo xs ys i → GotTo xs ys (i + 1)
got_next xs ys i e so = λ j l. elim (cases_lt j i) [
  | inl k ↦ so j k
  | inr k ↦ (let s : i ≡ j = omega (arith, k, l) in subst (λ q. slice_get xs q ≡ slice_get ys q) s e)
]

pub got_all : {A : Type 0} (xs ys : List A) (i : ℕ) → length xs ≡ length ys → length xs ≤ i → GotTo xs ys i → xs ≡ ys
got_all [] [] i m l so = refl
got_all [] (y ∷ ys) i m l so = absurd (omega (arith, m))
got_all (x ∷ xs) [] i m l so = absurd (omega (arith, m))
got_all (x ∷ xs) (y ∷ ys) i m l so =
    let e = same_Some x y (so 0 (omega (arith, l))) in
    ap (λ q. q ∷ xs) e ∙ ap (λ q. y ∷ q) (got_all xs ys (i - 1) (omega (arith, m)) (omega (arith, l)) (λ j k. so (suc j) (omega (arith, k, l))))
