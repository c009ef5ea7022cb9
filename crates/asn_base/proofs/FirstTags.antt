-- First tags as numbers that differ.
use Rattle.std.proofs.Common.{arith, ◌≡◌, ℕ, zero, suc, ◌+◌, ◌<◌, ◌≤◌, Bool, true, false, List, [], ◌∷◌, ◌++◌, length, map, inl, inr, refl, sym, subst, ap, ◌∙◌, true≢false}
use Rattle.std.specs.Prelude.{◌↔◌, ◌⊎◌, Result, Ok, Err, IfOk, Option, Some, None, slice_get, IsTrue, IsSomeAnd, if◌then◌else◌}
use Rattle.std.specs.List.{AllByRecursion}
use Rattle.std.proofs.lemmas.List.{map-append}
use Rattle.asn_base.specs.declared.tag.Class.{Class}
use Rattle.asn_base.specs.declared.tag.Class.TheVariants.{Universal, Application, Context, Private}
use Rattle.asn_base.specs.declared.tag.Tag.{Tag}
use Rattle.asn_base.specs.Names.{IsMember, is_first, is_later, AreDistinct}
use Rattle.asn_base.specs.Types.{Alternative, Kind, a_set, a_choice, Component, Resolved}
use Rattle.asn_base.specs.Rules.{HasOwnTags, HasFirstTagsApart}
use Rattle.asn_base.specs.Tags.{class_rank, First, first_tag, first_of_choice, AreApart, AllApart, is_mandatory, first_run, RunsApart, TagBefore}
use Rattle.asn_base.specs.Schemas.{HasTag, TagsAscend}
use Rattle.asn_base.specs.proving.OneTag.{class_same, tag_same}
use Rattle.asn_base.specs.proving.Firsts.{outermost, outermost_of, number_of, IsHeadBefore, heads, alternative_heads, choice_heads, firsts_by, firsts_of, firsts, key, flat, in_runs, in_one, own_types, AreOwn, AreChoicesApart}
use Rattle.std.proofs.lemmas.Bool.{cases_lt}
use Rattle.asn_base.proofs.Ruled.{all_map, map_all}
use Rattle.asn_base.proofs.Ascending.{Adjacent, Pairs, by_neighbours}
use Rattle.asn_base.specs.proving.Lists.{onward}

-- ---- pieces of a list

assoc : {A : Type 0} (xs ys zs : List A) → (xs ++ ys) ++ zs ≡ xs ++ (ys ++ zs)
assoc [] ys zs = refl
assoc (x ∷ xs) ys zs = ap (λ q. x ∷ q) (assoc xs ys zs)

pub adding : (old new piece rest whole before : List ℕ) → new ≡ old ++ piece → whole ≡ piece ++ rest → old ++ whole ≡ before → new ++ rest ≡ before
adding old new piece rest whole before e s h = ap (λ q. q ++ rest) e ∙ assoc old piece rest ∙ ap (λ q. old ++ q) (sym s) ∙ h

none_after : {A : Type 0} (ys : List A) → ys ++ [] ≡ ys
none_after [] = refl
none_after (y ∷ ys) = ap (λ q. y ∷ q) (none_after ys)

pub added : (new rest before : List ℕ) → rest ≡ [] → new ++ rest ≡ before → new ≡ before
added new rest before e h = sym (none_after new) ∙ ap (λ q. new ++ q) (sym e) ∙ h

pub heads_piece : (s : List Resolved) (n : ℕ) (a : Alternative) (as' : List Alternative) (whole : List Alternative) → whole ≡ a ∷ as' → map (key n) (alternative_heads s whole) ≡ map (key n) (heads s a.type) ++ map (key n) (alternative_heads s as')
heads_piece s n a as' whole e = ap (λ q. map (key n) (alternative_heads s q)) e ∙ map-append (key n) (heads s a.type) (alternative_heads s as')

pub alternatives_joined : (s : List Resolved) (xs ys : List Alternative) → alternative_heads s (xs ++ ys) ≡ alternative_heads s xs ++ alternative_heads s ys
alternatives_joined s [] ys = refl
alternatives_joined s (x ∷ xs) ys = ap (λ q. heads s x.type ++ q) (alternatives_joined s xs ys) ∙ sym (assoc (heads s x.type) (alternative_heads s xs) (alternative_heads s ys))

-- ---- keys

few_classes : (c : Class) → class_rank c ≤ 3
few_classes Universal = omega arith
few_classes Application = omega arith
few_classes Context = omega arith
few_classes Private = omega arith

pub key_exact : (n m : ℕ) (g h : Tag) → key n g ≡ key m h → (n ≡ m) × (g ≡ h)
key_exact n m g h e =
    let a = g.in_range in
    let b = h.in_range in
    let c = few_classes g.class in
    let d = few_classes h.class in
    let r : n ≡ m = omega (arith, a, b, c, d, e) in
    let k : class_rank g.class ≡ class_rank h.class = omega (arith, a, b, c, d, e) in
    let f : g.number ≡ h.number = omega (arith, a, b, c, d, e) in
    (r, tag_same g h (class_same g.class h.class k) f)

-- ---- members

member_left : {A : Type 0} {x : A} (xs ys : List A) → IsMember x xs → IsMember x (xs ++ ys)
member_left [] ys m = elim m [ ]
member_left (x ∷ xs) ys is_first = is_first
member_left (x ∷ xs) ys (is_later m) = is_later (member_left xs ys m)

member_right : {A : Type 0} {x : A} (xs ys : List A) → IsMember x ys → IsMember x (xs ++ ys)
member_right [] ys m = m
member_right (x ∷ xs) ys m = is_later (member_right xs ys m)

member_either : {A : Type 0} {x : A} (xs ys : List A) → IsMember x (xs ++ ys) → IsMember x xs ⊎ IsMember x ys
member_either [] ys m = inr m
member_either (x ∷ xs) ys is_first = inl is_first
member_either (x ∷ xs) ys (is_later m) = elim (member_either xs ys m) [ inl a ↦ inl (is_later a) | inr b ↦ inr b ]

member_map : {A B : Type 0} (f : A → B) {x : A} (xs : List A) → IsMember x xs → IsMember (f x) (map f xs)
member_map f [] m = elim m [ ]
member_map f (x ∷ xs) is_first = is_first
member_map f (x ∷ xs) (is_later m) = is_later (member_map f xs m)

pub record Source {A B : Type 0} (f : A → B) (y : B) (xs : List A) : Type 0 where
  pub of : A
  pub member : IsMember of xs
  pub same : f of ≡ y

source : {A B : Type 0} (f : A → B) {y : B} (xs : List A) → IsMember y (map f xs) → Source f y xs
source f [] m = elim m [ ]
source f (x ∷ xs) is_first = record { of = x; member = is_first; same = refl }
source f (x ∷ xs) (is_later m) = let s = source f xs m in record { of = s.of; member = is_later s.member; same = s.same }

distinct_map : {A B : Type 0} (f : A → B) → ((x y : A) → f x ≡ f y → x ≡ y) → (xs : List A) → AreDistinct (map f xs) ↔ AreDistinct xs
distinct_map {A} {B} f exact xs = (to xs, from xs)
  where
    to : (xs : List A) → AreDistinct (map f xs) → AreDistinct xs
    to [] d = tt
    to (x ∷ xs) d = (λ m. d.0 (member_map f xs m), to xs d.1)

    from : (xs : List A) → AreDistinct xs → AreDistinct (map f xs)
    from [] d = tt
    from (x ∷ xs) d = (λ m. let s = source f xs m in d.0 (subst (λ q. IsMember q xs) (exact s.of x s.same) s.member), from xs d.1)

distinct_join : {A : Type 0} (xs ys : List A) → AreDistinct (xs ++ ys) ↔ ((AreDistinct xs × AreDistinct ys) × ((x : A) → IsMember x xs → IsMember x ys → ⊥))
distinct_join {A} xs ys = (to xs, from xs)
  where
    apart_at : {x z : A} {zs : List A} → (IsMember x (zs ++ ys) → ⊥) → ((y : A) → IsMember y zs → IsMember y ys → ⊥) → IsMember z (x ∷ zs) → IsMember z ys → ⊥
    apart_at {zs = zs} n f is_first m = n (member_right zs ys m)
    apart_at n f (is_later k) m = f _ k m

    to : (xs : List A) → AreDistinct (xs ++ ys) → (AreDistinct xs × AreDistinct ys) × ((x : A) → IsMember x xs → IsMember x ys → ⊥)
    to [] d = ((tt, d), λ x m n. elim m [ ])
    to (x ∷ xs) d = let r = to xs d.1 in (((λ m. d.0 (member_left xs ys m), r.0.0), r.0.1), λ z m n. apart_at d.0 r.1 m n)

    from : (xs : List A) → (AreDistinct xs × AreDistinct ys) × ((x : A) → IsMember x xs → IsMember x ys → ⊥) → AreDistinct (xs ++ ys)
    from [] p = p.0.1
    from (x ∷ xs) p = (λ m. elim (member_either xs ys m) [ inl a ↦ p.0.0.0 a | inr b ↦ p.1 x is_first b ], from xs ((p.0.0.1, p.0.1), λ z m n. p.1 z (is_later m) n))

-- ---- types in runs

abbrev Disjoint : List Tag → List Tag → Type 0
Disjoint xs ys = (g : Tag) → IsMember g xs → IsMember g ys → ⊥

-- types of one run have no first tag in common
abbrev pub PairsApart : List Resolved → List (ℕ × ℕ) → Type 0
PairsApart s [] = Unit {0}
PairsApart s (p ∷ ps) = AllByRecursion (λ q. p.0 ≡ q.0 → Disjoint (firsts s p.1) (firsts s q.1)) ps × PairsApart s ps

among : (s : List Resolved) (p : ℕ × ℕ) (ps : List (ℕ × ℕ)) → AllByRecursion (λ q. p.0 ≡ q.0 → Disjoint (firsts s p.1) (firsts s q.1)) ps ↔ ((x : ℕ) → IsMember x (map (key p.0) (firsts s p.1)) → IsMember x (flat s ps) → ⊥)
among s p ps = (to ps, from ps)
  where
    clash : (q : ℕ × ℕ) → (p.0 ≡ q.0 → Disjoint (firsts s p.1) (firsts s q.1)) → (x : ℕ) → IsMember x (map (key p.0) (firsts s p.1)) → IsMember x (map (key q.0) (firsts s q.1)) → ⊥
    clash q a x m n =
        let u = source (key p.0) (firsts s p.1) m in
        let v = source (key q.0) (firsts s q.1) n in
        let e = key_exact p.0 q.0 u.of v.of (u.same ∙ sym v.same) in
        a e.0 u.of u.member (subst (λ z. IsMember z (firsts s q.1)) (sym e.1) v.member)

    to : (ps : List (ℕ × ℕ)) → AllByRecursion (λ q. p.0 ≡ q.0 → Disjoint (firsts s p.1) (firsts s q.1)) ps → (x : ℕ) → IsMember x (map (key p.0) (firsts s p.1)) → IsMember x (flat s ps) → ⊥
    to [] a x m n = elim n [ ]
    to (q ∷ ps) a x m n = elim (member_either (map (key q.0) (firsts s q.1)) (flat s ps) n) [ inl k ↦ clash q a.0 x m k | inr k ↦ to ps a.1 x m k ]

    from : (ps : List (ℕ × ℕ)) → ((x : ℕ) → IsMember x (map (key p.0) (firsts s p.1)) → IsMember x (flat s ps) → ⊥) → AllByRecursion (λ q. p.0 ≡ q.0 → Disjoint (firsts s p.1) (firsts s q.1)) ps
    from [] f = tt
    from (q ∷ ps) f = (
      λ e g m n. f (key p.0 g) (member_map (key p.0) (firsts s p.1) m) (member_left (map (key q.0) (firsts s q.1)) (flat s ps) (subst (λ z. IsMember (key z g) (map (key q.0) (firsts s q.1))) (sym e) (member_map (key q.0) (firsts s q.1) n))),
      from ps (λ x m n. f x m (member_right (map (key q.0) (firsts s q.1)) (flat s ps) n)),
    )

-- the keys differ exactly if types of one run have no first tag in common
pub flat_distinct : (s : List Resolved) (ps : List (ℕ × ℕ)) → AllByRecursion (λ p. AreDistinct (firsts s p.1)) ps → AreDistinct (flat s ps) ↔ PairsApart s ps
flat_distinct s [] own = (λ d. tt, λ a. tt)
flat_distinct s (p ∷ ps) own =
    let j = distinct_join (map (key p.0) (firsts s p.1)) (flat s ps) in
    let r = flat_distinct s ps own.1 in
    let m = among s p ps in
    let k = distinct_map (key p.0) (λ x y e. (key_exact p.0 p.0 x y e).1) (firsts s p.1) in (
      λ d. let t = j.0 d in (m.1 t.1, r.0 t.0.1),
      λ a. j.1 ((k.1 own.0, r.1 a.1), m.0 a.0),
    )

-- ---- first tags

abbrev tags_in : Option Resolved → List Tag
tags_in None = []
tags_in (Some r) = r.tags

head_only : {s : List Resolved} {t : ℕ} {g : Tag} → HasTag s t → First s t g → IsMember g (heads s t)
head_only {s} {t} {g} h (first_tag i) = subst (λ o. IsMember g (outermost_of o)) (sym i.found) is_first
head_only {s} {t} {g} h (first_of_choice i j at f) = absurd (untagged (subst (λ o. IsSomeAnd o (λ (r : Resolved). 0 < length r.tags)) j.found h))
  where
    untagged : 0 < 0 → ⊥
    untagged l = omega (arith, l)

head_first : (s : List Resolved) (t : ℕ) {g : Tag} → IsMember g (heads s t) → First s t g
head_first s t {g} m = go (slice_get s t) refl m
  where
    taken : (tags : List Tag) (k : Kind) → slice_get s t ≡ Some (record { tags = tags; kind = k }) → IsMember g (outermost tags) → First s t g
    taken [] k e m = elim m [ ]
    taken (f ∷ fs) k e is_first = first_tag (record { found = e })
    taken (f ∷ fs) k e (is_later m) = elim m [ ]

    go : (o : Option Resolved) → slice_get s t ≡ o → IsMember g (outermost_of o) → First s t g
    go None e m = elim m [ ]
    go (Some r) e m = taken r.tags r.kind e m

in_alternatives : (s : List Resolved) (as' : List Alternative) (i : ℕ) (a : Alternative) {g : Tag} → slice_get as' i ≡ Some a → IsMember g (heads s a.type) → IsMember g (alternative_heads s as')
in_alternatives s [] i a e m = absurd cc
in_alternatives s (b ∷ as') zero a {g} e m = let q : b ≡ a = cc in member_left (heads s b.type) (alternative_heads s as') (subst (λ z. IsMember g (heads s z.type)) (sym q) m)
in_alternatives s (b ∷ as') (suc i) a e m = member_right (heads s b.type) (alternative_heads s as') (in_alternatives s as' i a e m)

pub record Alternatively (s : List Resolved) (as' : List Alternative) (g : Tag) : Type 0 where
  pub place : ℕ
  pub alternative : Alternative
  pub there : slice_get as' place ≡ Some alternative
  pub member : IsMember g (heads s alternative.type)

of_alternatives : (s : List Resolved) (as' : List Alternative) {g : Tag} → IsMember g (alternative_heads s as') → Alternatively s as' g
of_alternatives s [] m = elim m [ ]
of_alternatives s (a ∷ as') m = elim (member_either (heads s a.type) (alternative_heads s as') m) [
  | inl k ↦ record { place = 0; alternative = a; there = refl; member = k }
  | inr k ↦ (let r = of_alternatives s as' k in record { place = suc r.place; alternative = r.alternative; there = r.there; member = r.member })
]

all_at : {A : Type 0} (P : A → Type 0) (xs : List A) (i : ℕ) (x : A) → slice_get xs i ≡ Some x → AllByRecursion P xs → P x
all_at P [] i x e a = absurd cc
all_at P (y ∷ xs) zero x e a = let q : y ≡ x = cc in subst P q a.0
all_at P (y ∷ xs) (suc i) x e a = all_at P xs i x e a.1

pub first_in : (s : List Resolved) → AreOwn s → (t : ℕ) (g : Tag) → First s t g → IsMember g (firsts s t)
first_in s own t g (first_tag i) = subst (λ o. IsMember g (firsts_of s o)) (sym i.found) is_first
first_in s own t g (first_of_choice {root = root} {more = more} {a = a} i j at f) =
    let h = all_at (λ b. HasTag s b.type) (root ++ more) i a at (own t [] _ j) in
    subst (λ o. IsMember g (firsts_of s o)) (sym j.found) (in_alternatives s (root ++ more) i a at (head_only h f))

pub in_first : (s : List Resolved) (t : ℕ) (g : Tag) → IsMember g (firsts s t) → First s t g
in_first s t g m = go (slice_get s t) refl m
  where
    chosen : (k : Kind) → slice_get s t ≡ Some (record { tags = []; kind = k }) → IsMember g (choice_heads s k) → First s t g
    chosen (a_choice root e more) i m =
        let r = of_alternatives s (root ++ more) m in
        first_of_choice r.place (record { found = i }) r.there (head_first s r.alternative.type r.member)
    chosen k i m = elim m [ ]

    taken : (tags : List Tag) (k : Kind) → slice_get s t ≡ Some (record { tags = tags; kind = k }) → IsMember g (firsts_by s tags k) → First s t g
    taken [] k e m = chosen k e m
    taken (f ∷ fs) k e is_first = first_tag (record { found = e })
    taken (f ∷ fs) k e (is_later m) = elim m [ ]

    go : (o : Option Resolved) → slice_get s t ≡ o → IsMember g (firsts_of s o) → First s t g
    go None e m = elim m [ ]
    go (Some r) e m = taken r.tags r.kind e m

pub apart_by : (s : List Resolved) → AreOwn s → (t u : ℕ) → Disjoint (firsts s t) (firsts s u) ↔ AreApart s t u
apart_by s own t u = (λ d g a b. d g (first_in s own t g a) (first_in s own u g b), λ d g a b. d g (in_first s t g a) (in_first s u g b))

-- ---- the first tags of one type differ

tagged_distinct : (s : List Resolved) (t : ℕ) → HasTag s t → AreDistinct (firsts s t)
tagged_distinct s t h = go (slice_get s t) h
  where
    taken : (tags : List Tag) (k : Kind) → 0 < length tags → AreDistinct (firsts_by s tags k)
    taken [] k l = absurd (omega arith)
    taken (g ∷ gs) k l = ((λ m. elim m [ ]), tt)

    go : (o : Option Resolved) → IsSomeAnd o (λ r. 0 < length r.tags) → AreDistinct (firsts_of s o)
    go None h = absurd h
    go (Some r) h = taken r.tags r.kind h

alternatives_distinct : (s : List Resolved) (as' : List Alternative) → AllApart s (map (λ a. a.type) as') → AreDistinct (alternative_heads s as')
alternatives_distinct s [] a = tt
alternatives_distinct s (b ∷ as') a =
    (distinct_join (heads s b.type) (alternative_heads s as')).1
    ((one (slice_get s b.type), alternatives_distinct s as' a.1), λ g m n. let r = of_alternatives s as' n in all_at (λ u. AreApart s b.type u) (map (λ c. c.type) as') r.place r.alternative.type (mapped as' r.place r.alternative r.there) a.0 g (head_first s b.type m) (head_first s r.alternative.type r.member))
  where
    one : (o : Option Resolved) → AreDistinct (outermost_of o)
    one None = tt
    one (Some r) = at_most_one r.tags
      where
        at_most_one : (tags : List Tag) → AreDistinct (outermost tags)
        at_most_one [] = tt
        at_most_one (g ∷ gs) = ((λ m. elim m [ ]), tt)

    mapped : (xs : List Alternative) (i : ℕ) (x : Alternative) → slice_get xs i ≡ Some x → slice_get (map (λ c. c.type) xs) i ≡ Some x.type
    mapped [] i x e = absurd cc
    mapped (y ∷ xs) zero x e = let q : y ≡ x = cc in ap (λ z. Some z.type) q
    mapped (y ∷ xs) (suc i) x e = mapped xs i x e

pub any_distinct : (s : List Resolved) → AreChoicesApart s → (t : ℕ) → AreDistinct (firsts s t)
any_distinct s apart t = go (slice_get s t) refl
  where
    chosen : (k : Kind) → slice_get s t ≡ Some (record { tags = []; kind = k }) → AreDistinct (choice_heads s k)
    chosen (a_choice root e more) i = alternatives_distinct s (root ++ more) (apart t [] (a_choice root e more) (record { found = i }))
    chosen k i = tt

    taken : (tags : List Tag) (k : Kind) → slice_get s t ≡ Some (record { tags = tags; kind = k }) → AreDistinct (firsts_by s tags k)
    taken [] k e = chosen k e
    taken (g ∷ gs) k e = ((λ m. elim m [ ]), tt)

    go : (o : Option Resolved) → slice_get s t ≡ o → AreDistinct (firsts_of s o)
    go None e = tt
    go (Some r) e = taken r.tags r.kind e

-- ---- SET and CHOICE

one_distinct : (s : List Resolved) (ts : List ℕ) → AllByRecursion (λ t. HasTag s t) ts → AllByRecursion (λ p. AreDistinct (firsts s p.1)) (in_one ts)
one_distinct s [] a = tt
one_distinct s (t ∷ ts) a = (tagged_distinct s t a.0, one_distinct s ts a.1)

one_apart : (s : List Resolved) → AreOwn s → (ts : List ℕ) → PairsApart s (in_one ts) ↔ AllApart s ts
one_apart s own ts = (to ts, from ts)
  where
    rest_to : (t : ℕ) (ts : List ℕ) → AllByRecursion (λ q. 0 ≡ q.0 → Disjoint (firsts s t) (firsts s q.1)) (in_one ts) → AllByRecursion (AreApart s t) ts
    rest_to t [] a = tt
    rest_to t (u ∷ ts) a = ((apart_by s own t u).0 (a.0 refl), rest_to t ts a.1)

    rest_from : (t : ℕ) (ts : List ℕ) → AllByRecursion (AreApart s t) ts → AllByRecursion (λ q. 0 ≡ q.0 → Disjoint (firsts s t) (firsts s q.1)) (in_one ts)
    rest_from t [] a = tt
    rest_from t (u ∷ ts) a = ((λ e. (apart_by s own t u).1 a.0), rest_from t ts a.1)

    to : (ts : List ℕ) → PairsApart s (in_one ts) → AllApart s ts
    to [] a = tt
    to (t ∷ ts) a = (rest_to t ts a.0, to ts a.1)

    from : (ts : List ℕ) → AllApart s ts → PairsApart s (in_one ts)
    from [] a = tt
    from (t ∷ ts) a = (rest_from t ts a.0, from ts a.1)

pub one_run : (s : List Resolved) → AreOwn s → (ts : List ℕ) → AllByRecursion (λ t. HasTag s t) ts → AreDistinct (flat s (in_one ts)) ↔ AllApart s ts
one_run s own ts tags = let a = one_apart s own ts in onward (flat_distinct s (in_one ts) (one_distinct s ts tags)) a.0 a.1

-- the types whose first tags must differ have tags
pub of_own : (s : List Resolved) (k : Kind) → AllByRecursion (HasTag s) (own_types k) → HasOwnTags s k
of_own s (a_set e cs) a = all_map (HasTag s) (λ c. c.type) cs a
of_own s (a_choice root e more) a = all_map (HasTag s) (λ b. b.type) (root ++ more) a
of_own s k a = tt

pub own_of : (s : List Resolved) (k : Kind) → HasOwnTags s k → AllByRecursion (HasTag s) (own_types k)
own_of s (a_set e cs) a = map_all (HasTag s) (λ c. c.type) cs a
own_of s (a_choice root e more) a = map_all (HasTag s) (λ b. b.type) (root ++ more) a
own_of s k a = tt

pub own_apart : (s : List Resolved) → AreOwn s → (k : Kind) → HasOwnTags s k → AreDistinct (flat s (in_one (own_types k))) ↔ HasFirstTagsApart s k
own_apart s own k tags = onward (one_run s own (own_types k) (own_of s k tags)) (to k) (from k)
  where
    to : (k : Kind) → AllApart s (own_types k) → HasFirstTagsApart s k
    to (a_set e cs) a = a
    to (a_choice root e more) a = a
    to k a = tt

    from : (k : Kind) → HasFirstTagsApart s k → AllApart s (own_types k)
    from (a_set e cs) a = a
    from (a_choice root e more) a = a
    from k a = tt

-- ---- SEQUENCE

runs_distinct : (s : List Resolved) → AreChoicesApart s → (n : ℕ) (cs : List Component) → AllByRecursion (λ p. AreDistinct (firsts s p.1)) (in_runs n cs)
runs_distinct s apart n [] = tt
runs_distinct s apart n (c ∷ cs) = (any_distinct s apart c.type, runs_distinct s apart (if is_mandatory c then suc n else n) cs)

-- a later run has a greater number
later : (P : ℕ → Type 0) (m n : ℕ) (cs : List Component) → m < n → AllByRecursion (λ q. m ≡ q.0 → P q.1) (in_runs n cs)
later P m n [] l = tt
later P m n (c ∷ cs) l = ((λ e. absurd (omega (arith, l, e))), go (is_mandatory c) (later P m (suc n) cs (omega (arith, l))) (later P m n cs l))
  where
    go : (b : Bool) → AllByRecursion (λ q. m ≡ q.0 → P q.1) (in_runs (suc n) cs) → AllByRecursion (λ q. m ≡ q.0 → P q.1) (in_runs n cs) → AllByRecursion (λ q. m ≡ q.0 → P q.1) (in_runs (if b then suc n else n) cs)
    go true a b = a
    go false a b = b

same_run : (P : ℕ → Type 0) (n : ℕ) (cs : List Component) → AllByRecursion (λ q. n ≡ q.0 → P q.1) (in_runs n cs) ↔ AllByRecursion (λ d. P d.type) (first_run cs)
same_run P n [] = (λ a. tt, λ a. tt)
same_run P n (c ∷ cs) = go (is_mandatory c) (same_run P n cs) (later P n (suc n) cs (omega arith))
  where
    go : (b : Bool) → AllByRecursion (λ q. n ≡ q.0 → P q.1) (in_runs n cs) ↔ AllByRecursion (λ d. P d.type) (first_run cs) → AllByRecursion (λ q. n ≡ q.0 → P q.1) (in_runs (suc n) cs)
        → ((n ≡ n → P c.type) × AllByRecursion (λ q. n ≡ q.0 → P q.1) (in_runs (if b then suc n else n) cs)) ↔ AllByRecursion (λ d. P d.type) (if b then c ∷ [] else c ∷ first_run cs)
    go true r l = (λ a. (a.0 refl, tt), λ a. ((λ e. a.0), l))
    go false r l = (λ a. (a.0 refl, r.0 a.1), λ a. ((λ e. a.0), r.1 a.1))

in_run_apart : (s : List Resolved) → AreOwn s → (t : ℕ) (cs : List Component) → AllByRecursion (λ d. Disjoint (firsts s t) (firsts s d.type)) cs ↔ AllByRecursion (λ d. AreApart s t d.type) cs
in_run_apart s own t cs = (to cs, from cs)
  where
    to : (cs : List Component) → AllByRecursion (λ d. Disjoint (firsts s t) (firsts s d.type)) cs → AllByRecursion (λ d. AreApart s t d.type) cs
    to [] a = tt
    to (c ∷ cs) a = ((apart_by s own t c.type).0 a.0, to cs a.1)

    from : (cs : List Component) → AllByRecursion (λ d. AreApart s t d.type) cs → AllByRecursion (λ d. Disjoint (firsts s t) (firsts s d.type)) cs
    from [] a = tt
    from (c ∷ cs) a = ((apart_by s own t c.type).1 a.0, from cs a.1)

runs_apart : (s : List Resolved) → AreOwn s → (n : ℕ) (cs : List Component) → PairsApart s (in_runs n cs) ↔ RunsApart s cs
runs_apart s own n [] = (λ a. tt, λ a. tt)
runs_apart s own n (c ∷ cs) = go (is_mandatory c) refl (runs_apart s own (suc n) cs) (runs_apart s own n cs)
  where
    go : (b : Bool) → is_mandatory c ≡ b → PairsApart s (in_runs (suc n) cs) ↔ RunsApart s cs → PairsApart s (in_runs n cs) ↔ RunsApart s cs
        → (AllByRecursion (λ q. n ≡ q.0 → Disjoint (firsts s c.type) (firsts s q.1)) (in_runs (if b then suc n else n) cs) × PairsApart s (in_runs (if b then suc n else n) cs)) ↔ ((is_mandatory c ≡ false → AllByRecursion (λ d. AreApart s c.type d.type) (first_run cs)) × RunsApart s cs)
    go true e r l = (λ a. ((λ f. absurd (true≢false (sym e ∙ f))), r.0 a.1), λ a. (later (λ u. Disjoint (firsts s c.type) (firsts s u)) n (suc n) cs (omega arith), r.1 a.1))
    go false e r l =
        let m = same_run (λ u. Disjoint (firsts s c.type) (firsts s u)) n cs in
        let k = in_run_apart s own c.type (first_run cs) in
        (λ a. ((λ f. k.0 (m.0 a.0)), l.0 a.1), λ a. (m.1 (k.1 (a.0 e)), l.1 a.1))

pub in_runs_apart : (s : List Resolved) → AreOwn s → AreChoicesApart s → (cs : List Component) → AreDistinct (flat s (in_runs 0 cs)) ↔ RunsApart s cs
in_runs_apart s own apart cs = let a = runs_apart s own 0 cs in onward (flat_distinct s (in_runs 0 cs) (runs_distinct s apart 0 cs)) a.0 a.1

pub next_small : (b : Bool) (run i next : ℕ) → next ≡ (if b then suc run else run) → run ≤ i → next ≤ i + 1
next_small true run i next e l = omega (arith, e, l)
next_small false run i next e l = omega (arith, e, l)

pub decided : {P E : Type 0} {keys all : List ℕ} (r : Result Bool E) → keys ≡ all → AreDistinct all ↔ P → IfOk r (λ b. IsTrue b ↔ AreDistinct keys) → IfOk r (λ b. IsTrue b ↔ P)
decided (Ok b) e a h = onward (subst (λ q. IsTrue b ↔ AreDistinct q) e h) a.0 a.1
decided (Err x) e a h = tt

pub choice_piece : (s : List Resolved) (n : ℕ) (old mid new : List ℕ) (root more : List Alternative) (k : Kind) (e : Bool) → k ≡ a_choice root e more → mid ≡ old ++ map (key n) (alternative_heads s root) → new ≡ mid ++ map (key n) (alternative_heads s more) → new ≡ old ++ map (key n) (choice_heads s k)
choice_piece s n old mid new root more k e q a b =
    b ∙ ap (λ z. z ++ map (key n) (alternative_heads s more)) a
    ∙ assoc old (map (key n) (alternative_heads s root)) (map (key n) (alternative_heads s more))
    ∙ ap (λ z. old ++ z) (sym (map-append (key n) (alternative_heads s root) (alternative_heads s more)) ∙ ap (map (key n)) (sym (alternatives_joined s root more)) ∙ ap (λ z. map (key n) (choice_heads s z)) (sym q))

pub from_none : (keys old piece : List ℕ) → keys ≡ old ++ piece → old ≡ [] → keys ≡ piece
from_none keys old piece e z = e ∙ ap (λ q. q ++ piece) z

pub run_piece : (s : List Resolved) (run next : ℕ) (c : Component) (rest whole : List Component) → whole ≡ c ∷ rest → next ≡ (if is_mandatory c then suc run else run) → flat s (in_runs run whole) ≡ map (key run) (firsts s c.type) ++ flat s (in_runs next rest)
run_piece s run next c rest whole e f = ap (λ q. flat s (in_runs run q)) e ∙ ap (λ n. map (key run) (firsts s c.type) ++ flat s (in_runs n rest)) (sym f)

-- ---- the canonical order

abbrev First' : List Resolved → Alternative → Alternative → Type 0
First' s a b = (g f : Tag) → First s a.type g → First s b.type f → TagBefore g f

before_number : (g f : Tag) → TagBefore g f → key 0 g < key 0 f
before_number g f b =
    let l = g.in_range in
    let m = f.in_range in
    elim b [ inl c ↦ omega (arith, c, l, m) | inr e ↦ omega (arith, e.0, e.1, l, m) ]

number_before : (g f : Tag) → key 0 g < key 0 f → TagBefore g f
number_before g f h = go (cases_lt (class_rank g.class) (class_rank f.class))
  where
    go : (class_rank g.class < class_rank f.class) ⊎ (class_rank f.class ≤ class_rank g.class) → TagBefore g f
    go (inl l) = inl l
    go (inr m) =
        let a = g.in_range in
        let b = f.in_range in
        let e : class_rank g.class ≡ class_rank f.class = omega (arith, m, h, a, b) in
        inr (e, omega (arith, e, h))

pub record Headed (s : List Resolved) (t : ℕ) : Type 0 where
  pub tag : Tag
  pub heads : heads s t ≡ tag ∷ []
  pub first : First s t tag
  pub only : (g : Tag) → First s t g → g ≡ tag

headed : (s : List Resolved) (t : ℕ) → HasTag s t → Headed s t
headed s t h = go (slice_get s t) refl h
  where
    one : {g f : Tag} → IsMember g (f ∷ []) → g ≡ f
    one is_first = refl
    one (is_later m) = elim m [ ]

    taken : (tags : List Tag) (k : Kind) → slice_get s t ≡ Some (record { tags = tags; kind = k }) → 0 < length tags → Headed s t
    taken [] k e l = absurd (omega (arith, l))
    taken (g ∷ gs) k e l =
        let q : heads s t ≡ g ∷ [] = ap outermost_of e in
        record { tag = g; heads = q; first = first_tag (record { found = e }); only = λ f i. one (subst (IsMember f) q (head_only h i)) }

    go : (o : Option Resolved) → slice_get s t ≡ o → IsSomeAnd o (λ r. 0 < length r.tags) → Headed s t
    go None e l = absurd l
    go (Some r) e l = taken r.tags r.kind e l

ordered : (s : List Resolved) (a b : Alternative) → HasTag s a.type → HasTag s b.type → IsHeadBefore s a b ↔ First' s a b
ordered s a b h k =
    let x = headed s a.type h in
    let y = headed s b.type k in
    let p = ap number_of x.heads in
    let q = ap number_of y.heads in (
      λ l g f i j. number_before g f (subst (λ z. key 0 z < key 0 f) (sym (x.only g i)) (subst (λ z. key 0 x.tag < key 0 z) (sym (y.only f j)) (omega (arith, l, p, q)))),
      λ d. let m = before_number x.tag y.tag (d x.tag y.tag x.first y.first) in omega (arith, m, p, q),
    )

all_ordered : (s : List Resolved) (a : Alternative) (as' : List Alternative) → HasTag s a.type → AllByRecursion (λ b. HasTag s b.type) as' → AllByRecursion (IsHeadBefore s a) as' ↔ AllByRecursion (First' s a) as'
all_ordered s a [] h t = (λ x. tt, λ x. tt)
all_ordered s a (b ∷ as') h t =
    let o = ordered s a b h t.0 in
    let r = all_ordered s a as' h t.1 in
    (λ x. (o.0 x.0, r.0 x.1), λ x. (o.1 x.0, r.1 x.1))

pairs_ordered : (s : List Resolved) (as' : List Alternative) → AllByRecursion (λ b. HasTag s b.type) as' → Pairs (IsHeadBefore s) as' ↔ TagsAscend s as'
pairs_ordered s [] t = (λ x. tt, λ x. tt)
pairs_ordered s (a ∷ as') t =
    let o = all_ordered s a as' t.0 t.1 in
    let r = pairs_ordered s as' t.1 in
    (λ x. (o.0 x.0, r.0 x.1), λ x. (o.1 x.0, r.1 x.1))

pub in_order : (s : List Resolved) (as' : List Alternative) → AllByRecursion (λ b. HasTag s b.type) as' → Adjacent (IsHeadBefore s) as' ↔ TagsAscend s as'
in_order s as' t =
    let p = pairs_ordered s as' t in
    onward (by_neighbours (IsHeadBefore s) (λ x y z a b. omega (arith, a, b)) as') p.0 p.1
