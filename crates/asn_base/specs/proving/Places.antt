-- Types with first tags of their own have places of their own in the canonical order of tags, which are as their tags.
use Rattle.std.proofs.Common.{◌≡◌, ℕ, zero, suc, ◌+◌, ◌<◌, ◌≤◌, ◌⊎◌, inl, inr, ⊎_elim, Bool, true, false, nat_lt}
use Rattle.std.proofs.Common.{List, [], ◌∷◌, length, refl, sym, ap, subst, ◌∙◌, arith}
use Rattle.std.specs.Prelude.{◌&&◌, ◌||◌, ◌==◌, if◌then◌else◌, Option, Some, None, IsSomeAnd, slice_get}
use Rattle.std.specs.List.{AllByRecursion}
use Rattle.std.proofs.lemmas.Bool.{cases_Bool, cases_lt, ltb-true, ltb-false, lt-ltb, eqb-true, eq-eqb}
use Rattle.asn_base.specs.declared.tag.Tag.{Tag}
use Rattle.asn_base.specs.Tags.{class_rank, TagBefore, First, first_tag, AreApart, AllApart}
use Rattle.asn_base.specs.Order.{tag_precedes, both_before, outermost, tag_at, place_among}
use Rattle.asn_base.specs.Schemas.{HasTag}
use Rattle.asn_base.specs.Types.{Resolved}
use Rattle.asn_base.specs.proving.OneTag.{class_same, tag_same}

-- ---- tags as a test orders them

or_first : (a b : Bool) → a ≡ true → (a || b) ≡ true
or_first true b e = refl
or_first false b e = absurd (cc)

or_second : (a b : Bool) → b ≡ true → (a || b) ≡ true
or_second true b e = refl
or_second false b e = e

or_cases : (a b : Bool) → (a || b) ≡ true → (a ≡ true) ⊎ (b ≡ true)
or_cases true b e = inl refl
or_cases false b e = inr e

or_none : (a b : Bool) → (a || b) ≡ false → (a ≡ false) × (b ≡ false)
or_none true b e = absurd (cc)
or_none false b e = (refl, e)

and_both : (a b : Bool) → a ≡ true → b ≡ true → (a && b) ≡ true
and_both true b e f = f
and_both false b e f = absurd (cc)

and_cases : (a b : Bool) → (a && b) ≡ true → (a ≡ true) × (b ≡ true)
and_cases true b e = (refl, e)
and_cases false b e = absurd (cc)

and_second : (a b : Bool) → a ≡ true → (a && b) ≡ false → b ≡ false
and_second true b e f = f
and_second false b e f = absurd (cc)

-- whether the class of tag g is before that of tag f
abbrev class_less : Tag → Tag → Bool
class_less g f = nat_lt (class_rank g.class) (class_rank f.class)

abbrev same_class : Tag → Tag → Bool
same_class g f = class_rank g.class == class_rank f.class

abbrev number_less : Tag → Tag → Bool
number_less g f = nat_lt g.number f.number

pub before_is : (g f : Tag) → tag_precedes g f ≡ true → TagBefore g f
before_is g f e = ⊎_elim
    (λ l. inl (ltb-true (class_rank g.class) (class_rank f.class) l))
    (λ r. let p = and_cases (same_class g f) (number_less g f) r in
    inr (eqb-true (class_rank g.class) (class_rank f.class) p.0, ltb-true g.number f.number p.1))
    (or_cases (class_less g f) (same_class g f && number_less g f) e)

pub is_before : (g f : Tag) → TagBefore g f → tag_precedes g f ≡ true
is_before g f h = ⊎_elim
    (λ l. or_first (class_less g f) (same_class g f && number_less g f)
    (lt-ltb (class_rank g.class) (class_rank f.class) l))
    (λ r. or_second (class_less g f) (same_class g f && number_less g f)
    (and_both (same_class g f) (number_less g f) (eq-eqb (class_rank g.class) (class_rank f.class) r.0)
    (lt-ltb g.number f.number r.1)))
    h

-- a tag that isn't before another one is after it, or is the same
record NotBefore (g f : Tag) : Type 0 where
  classes : class_rank f.class ≤ class_rank g.class
  numbers : class_rank g.class ≡ class_rank f.class → f.number ≤ g.number

not_before : (g f : Tag) → tag_precedes g f ≡ false → NotBefore g f
not_before g f e =
    let p = or_none (class_less g f) (same_class g f && number_less g f) e in
    record {
      classes = ltb-false (class_rank g.class) (class_rank f.class) p.0;
      numbers = λ q. ltb-false g.number f.number
          (and_second (same_class g f) (number_less g f) (eq-eqb (class_rank g.class) (class_rank f.class) q) p.1);
    }

-- a tag before f is also before a tag that isn't before f
still_before : (h f g : Tag) → TagBefore h f → NotBefore g f → TagBefore h g
still_before h f g a n = ⊎_elim
    (λ l. inl (let k = n.classes in omega arith))
    (λ r. ⊎_elim (λ l. inl (let e = r.0 in omega arith))
    (λ m.
    let e : class_rank g.class ≡ class_rank f.class = let k = n.classes in omega (arith, k, m) in
    inr (r.0 ∙ sym e, let k = n.numbers e in let l = r.1 in omega arith))
    (cases_lt (class_rank f.class) (class_rank g.class)))
    a

following : (g f : Tag) → TagBefore g f → NotBefore f g
following g f (inl l) = record { classes = omega (arith, l); numbers = λ q. absurd (omega (arith, l, q)) }
following g f (inr r) =
    let a = r.0 in let b = r.1 in record { classes = omega (arith, a); numbers = λ q. omega (arith, b) }

not_itself : (g : Tag) → tag_precedes g g ≡ false
not_itself g = ⊎_elim
    (λ e. absurd (⊎_elim (λ l. omega (arith, l)) (λ r. let l = r.1 in omega (arith, l)) (before_is g g e)))
    (λ e. e)
    (cases_Bool (tag_precedes g g))

neither_before : (g f : Tag) → NotBefore g f → NotBefore f g → g ≡ f
neither_before g f a b =
    let x = a.classes in
    let y = b.classes in
    let c : class_rank g.class ≡ class_rank f.class = omega (arith, x, y) in
    let u = a.numbers c in
    let v = b.numbers (sym c) in
    let n : g.number ≡ f.number = omega (arith, u, v) in
    tag_same g f (class_same g.class f.class c) n

-- ---- the place of a tag

abbrev one_if : Bool → ℕ
one_if b = if b then 1 else 0

-- how many of the types are before a tag
abbrev place_of_tag : List Resolved → List ℕ → Tag → ℕ
place_of_tag s [] g = 0
place_of_tag s (u ∷ us) g = (if both_before (tag_at s u) (Some g) then 1 else 0) + place_of_tag s us g

place_same : (s : List Resolved) (us : List ℕ) (t : ℕ) (g : Tag) → tag_at s t ≡ Some g
    → place_among s us t ≡ place_of_tag s us g
place_same s [] t g e = refl
place_same s (u ∷ us) t g e =
    ap (λ o. one_if (both_before (tag_at s u) o) + place_among s us t) e
    ∙ ap (λ n. one_if (both_before (tag_at s u) (Some g)) + n) (place_same s us t g e)

one_or_none : (b d : Bool) → (b ≡ true → d ≡ true) → one_if b ≤ one_if d
one_or_none true d h = let e : one_if d ≡ 1 = ap one_if (h refl) in omega arith
one_or_none false d h = omega arith

as_many : (o : Option Tag) (f g : Tag) → NotBefore g f
    → one_if (both_before o (Some f)) ≤ one_if (both_before o (Some g))
as_many None f g n = omega arith
as_many (Some h) f g n =
    one_or_none (tag_precedes h f) (tag_precedes h g) (λ e. is_before h g (still_before h f g (before_is h f e) n))

no_less : (s : List Resolved) (us : List ℕ) (f g : Tag) → NotBefore g f → place_of_tag s us f ≤ place_of_tag s us g
no_less s [] f g n = omega arith
no_less s (u ∷ us) f g n = let a = as_many (tag_at s u) f g n in let b = no_less s us f g n in omega arith

-- a type whose place is before that of another one has a tag before that one's
pub before_by_place : (s : List Resolved) (us : List ℕ) (t u : ℕ) (g f : Tag) → tag_at s t ≡ Some g
    → tag_at s u ≡ Some f → place_among s us t < place_among s us u → TagBefore g f
before_by_place s us t u g f a b lt = ⊎_elim
    (λ e. before_is g f e)
    (λ e. absurd (
    let l = no_less s us f g (not_before g f e) in
    let x = place_same s us t g a in
    let y = place_same s us u f b in
    omega (arith, l, x, y, lt)))
    (cases_Bool (tag_precedes g f))

-- ---- types with tags of their own

-- the tag is the outermost one of one of the types
abbrev IsAmong : List Resolved → List ℕ → Tag → Type 0
IsAmong s [] g = ⊥
IsAmong s (u ∷ us) g = (tag_at s u ≡ Some g) ⊎ IsAmong s us g

none_there : (s : List Resolved) (u : ℕ) (g : Tag) → tag_at s u ≡ Some g
    → one_if (both_before (tag_at s u) (Some g)) ≡ 0
none_there s u g e = ap (λ o. one_if (both_before o (Some g))) e ∙ ap one_if (not_itself g)

place_less : (s : List Resolved) (us : List ℕ) (g f : Tag) → TagBefore g f → IsAmong s us g
    → place_of_tag s us g < place_of_tag s us f
place_less s [] g f b i = absurd i
place_less s (u ∷ us) g f b (inl e) =
    let x = none_there s u g e in
    let y : one_if (both_before (tag_at s u) (Some f)) ≡ 1 =
    ap (λ o. one_if (both_before o (Some f))) e ∙ ap one_if (is_before g f b) in
    let z = no_less s us g f (following g f b) in
    omega (arith, x, y, z)
place_less s (u ∷ us) g f b (inr i) =
    let x = as_many (tag_at s u) g f (following g f b) in
    let z = place_less s us g f b i in
    omega (arith, x, z)

one_tag : (s : List Resolved) (us : List ℕ) (g f : Tag) → IsAmong s us g → IsAmong s us f
    → place_of_tag s us g ≡ place_of_tag s us f → g ≡ f
one_tag s us g f i j e = ⊎_elim
    (λ b. absurd (let l = place_less s us g f (before_is g f b) i in omega (arith, l, e)))
    (λ m. ⊎_elim
    (λ b. absurd (let l = place_less s us f g (before_is f g b) j in omega (arith, l, e)))
    (λ n. neither_before g f (not_before g f m) (not_before f g n))
    (cases_Bool (tag_precedes f g)))
    (cases_Bool (tag_precedes g f))

-- the type has a tag, that of one of the types
record HasOwn (s : List Resolved) (us : List ℕ) (t : ℕ) : Type 0 where
  tag : Tag
  found : tag_at s t ≡ Some tag
  among : IsAmong s us tag

tag_in : (tags : List Tag) → 0 < length tags → (g : Tag) × (outermost tags ≡ Some g)
tag_in [] h = absurd (omega (arith, h))
tag_in (g ∷ gs) h = (g, refl)

tag_of : (o : Option Resolved) → IsSomeAnd o (λ q. 0 < length q.tags)
    → (g : Tag) × (elim o [ None ↦ None | Some r ↦ outermost r.tags ] ≡ Some g)
tag_of None h = absurd h
tag_of (Some r) h = tag_in r.tags h

there_same : {t u : ℕ} → Some u ≡ Some t → u ≡ t
there_same e = cc

own_at : (s : List Resolved) (us : List ℕ) (i t : ℕ) → AllByRecursion (HasTag s) us → slice_get us i ≡ Some t
    → HasOwn s us t
own_at s [] zero t a e = absurd (cc)
own_at s [] (suc i) t a e = absurd (cc)
own_at s (u ∷ us) zero t a e =
    let g = tag_of (slice_get s u) a.0 in
    subst (HasOwn s (u ∷ us)) (there_same e) (record { tag = g.0; found = g.1; among = inl g.1 })
own_at s (u ∷ us) (suc i) t a e =
    let o = own_at s us i t a.1 e in record { tag = o.tag; found = o.found; among = inr o.among }

some_tag : {g f : Tag} → Some g ≡ Some f → g ≡ f
some_tag e = cc

first_in : (s : List Resolved) (t : ℕ) (g : Tag) (r : Resolved) (tags : List Tag)
    → slice_get s t ≡ Some (record { tags = tags; kind = r.kind }) → outermost tags ≡ Some g → First s t g
first_in s t g r [] e f = absurd (cc)
first_in s t g r (h ∷ hs) e f = subst (First s t) (some_tag f) (first_tag {ts = hs} {k = r.kind} (record { found = e }))

first_of : (s : List Resolved) (t : ℕ) (g : Tag) (o : Option Resolved) → slice_get s t ≡ o
    → elim o [ None ↦ None | Some r ↦ outermost r.tags ] ≡ Some g → First s t g
first_of s t g None e f = absurd (cc)
first_of s t g (Some r) e f = first_in s t g r r.tags e f

places_differ : (s : List Resolved) (us : List ℕ) (t u : ℕ) → HasOwn s us t → HasOwn s us u → AreApart s t u
    → place_among s us t ≡ place_among s us u → ⊥
places_differ s us t u a b apart e =
    let same = one_tag s us a.tag b.tag a.among b.among
    (sym (place_same s us t a.tag a.found) ∙ e ∙ place_same s us u b.tag b.found) in
    apart a.tag (first_of s t a.tag (slice_get s t) refl a.found)
    (subst (First s u) (sym same) (first_of s u b.tag (slice_get s u) refl b.found))

-- ---- types by their places in the list

apart_from : (s : List Resolved) (t u : ℕ) (us : List ℕ) (i : ℕ) → AllByRecursion (AreApart s t) us
    → slice_get us i ≡ Some u → AreApart s t u
apart_from s t u [] zero q e = absurd (cc)
apart_from s t u [] (suc i) q e = absurd (cc)
apart_from s t u (x ∷ us) zero q e = subst (AreApart s t) (there_same e) q.0
apart_from s t u (x ∷ us) (suc i) q e = apart_from s t u us i q.1 e

turned_apart : {s : List Resolved} {t u : ℕ} → AreApart s t u → AreApart s u t
turned_apart a = λ g f h. a g h f

apart_at : (s : List Resolved) (t u : ℕ) (us : List ℕ) (i j : ℕ) → AllApart s us → slice_get us i ≡ Some t
    → slice_get us j ≡ Some u → (i ≡ j) ⊎ AreApart s t u
apart_at s t u [] zero j q e f = absurd (cc)
apart_at s t u [] (suc i) j q e f = absurd (cc)
apart_at s t u (x ∷ us) zero zero q e f = inl refl
apart_at s t u (x ∷ us) zero (suc j) q e f =
    inr (subst (λ z. AreApart s z u) (there_same e) (apart_from s x u us j q.0 f))
apart_at s t u (x ∷ us) (suc i) zero q e f =
    inr (turned_apart (subst (λ z. AreApart s z t) (there_same f) (apart_from s x t us i q.0 e)))
apart_at s t u (x ∷ us) (suc i) (suc j) q e f = ⊎_elim (λ g. inl (ap suc g)) inr (apart_at s t u us i j q.1 e f)

-- types with one place in the order are at one place in the list
pub one_place : (s : List Resolved) (us : List ℕ) (i j t u : ℕ) → AllApart s us → AllByRecursion (HasTag s) us
    → slice_get us i ≡ Some t → slice_get us j ≡ Some u → place_among s us t ≡ place_among s us u → i ≡ j
one_place s us i j t u q tagged e f h = ⊎_elim
    (λ g. g)
    (λ g. absurd (places_differ s us t u (own_at s us i t tagged e) (own_at s us j u tagged f) g h))
    (apart_at s t u us i j q e f)

-- ---- a place is one of as many

at_most_one : (b : Bool) → one_if b ≤ 1
at_most_one true = omega arith
at_most_one false = omega arith

place_at_most : (s : List Resolved) (us : List ℕ) (g : Tag) → place_of_tag s us g ≤ length us
place_at_most s [] g = omega arith
place_at_most s (u ∷ us) g =
    let x = at_most_one (both_before (tag_at s u) (Some g)) in
    let z = place_at_most s us g in
    omega (arith, x, z)

below_there : (s : List Resolved) (us : List ℕ) (g : Tag) → IsAmong s us g → place_of_tag s us g < length us
below_there s [] g i = absurd i
below_there s (u ∷ us) g (inl e) =
    let x = none_there s u g e in
    let z = place_at_most s us g in
    omega (arith, x, z)
below_there s (u ∷ us) g (inr i) =
    let x = at_most_one (both_before (tag_at s u) (Some g)) in
    let z = below_there s us g i in
    omega (arith, x, z)

-- the place of one of the types is below their number
pub place_below : (s : List Resolved) (us : List ℕ) (i t : ℕ) → AllByRecursion (HasTag s) us
    → slice_get us i ≡ Some t → place_among s us t < length us
place_below s us i t tagged e =
    let own = own_at s us i t tagged e in
    let r = place_same s us t own.tag own.found in
    let l = below_there s us own.tag own.among in
    omega (arith, r, l)
