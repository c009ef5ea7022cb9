-- Keys are in the order of tags.
use Rattle.std.proofs.Common.{arith, ◌≡◌, ℕ, ◌<◌, ◌≤◌, inl, inr, ⊎_elim, Bool, true, false, nat_lt, List, [], ◌∷◌, length, refl, sym, ap, ◌∙◌}
use Rattle.std.specs.Prelude.{Option, Some, None, IsSomeAnd, map, slice_get}
use Rattle.std.specs.List.Sorted.{IsPermutation}
use Rattle.std.proofs.lemmas.Bool.{cases_lt, lt-ltb, ltb-true}
use Rattle.std.proofs.lemmas.List.Sorted.{sum_by-IsPermutation}
use Rattle.asn_base.specs.declared.tag.Class.{Class}
use Rattle.asn_base.specs.declared.tag.Class.TheVariants.{Universal, Application, Context, Private}
use Rattle.asn_base.specs.declared.tag.Tag.{Tag}
use Rattle.asn_base.specs.Order.{both_before, outermost, place_among, precedes, tag_at, tag_precedes}
use Rattle.asn_base.specs.Schemas.{HasTag}
use Rattle.asn_base.specs.Tags.{class_rank, TagBefore}
use Rattle.asn_base.specs.Types.{Resolved, TypeNumber}
use Rattle.asn_base.specs.proving.Places.{before_is, is_before}
use Rattle.tag_places.specs.Keys.{below, key_at, key_of, tag_key, untagged}
use Rattle.tag_places.proofs.Counting.{below_more, one_if}

few_classes : (c : Class) → class_rank c ≤ 3
few_classes Universal = omega arith
few_classes Application = omega arith
few_classes Context = omega arith
few_classes Private = omega arith

same_test : (b c : Bool) → (b ≡ true → c ≡ true) → (c ≡ true → b ≡ true) → b ≡ c
same_test true true f g = refl
same_test true false f g = sym (f refl)
same_test false true f g = g refl
same_test false false f g = refl

not_less : (m n : ℕ) → n ≤ m → false ≡ nat_lt m n
not_less m n l = same_test false (nat_lt m n) (λ e. absurd (cc)) (λ e. absurd (let h = ltb-true m n e in omega (arith, h, l)))

key_less : (g f : Tag) → TagBefore g f → tag_key g < tag_key f
key_less g f b =
    let n = g.in_range in
    ⊎_elim (λ l. omega (arith, l, n)) (λ r. let e = r.0 in let l = r.1 in omega (arith, e, l)) b

less_key : (g f : Tag) → tag_key g < tag_key f → TagBefore g f
less_key g f h =
    let n = f.in_range in
    ⊎_elim (λ l. inl l)
    (λ m. let e : class_rank g.class ≡ class_rank f.class = omega (arith, h, m, n) in inr (e, omega (arith, e, h)))
    (cases_lt (class_rank g.class) (class_rank f.class))

before_by_key : (g f : Tag) → tag_precedes g f ≡ nat_lt (tag_key g) (tag_key f)
before_by_key g f =
    same_test (tag_precedes g f) (nat_lt (tag_key g) (tag_key f))
    (λ e. lt-ltb (tag_key g) (tag_key f) (key_less g f (before_is g f e)))
    (λ e. is_before g f (less_key g f (ltb-true (tag_key g) (tag_key f) e)))

before_key : (o p : Option Tag) → both_before o p ≡ nat_lt (key_of untagged o) (key_of 0 p)
before_key None None = not_less untagged 0 (omega arith)
before_key None (Some f) =
    not_less untagged (tag_key f) (let c = few_classes f.class in let n = f.in_range in omega (arith, c, n))
before_key (Some g) None = not_less (tag_key g) 0 (omega arith)
before_key (Some g) (Some f) = before_by_key g f

same_first : (gs : List Tag) → 0 < length gs → key_of untagged (outermost gs) ≡ key_of 0 (outermost gs)
same_first [] h = absurd (omega (arith, h))
same_first (g ∷ gs) h = refl

same_found : (o : Option Resolved) → IsSomeAnd o (λ r. 0 < length r.tags)
    → key_of untagged (elim o [ None ↦ None | Some r ↦ outermost r.tags ]) ≡ key_of 0 (elim o [ None ↦ None | Some r ↦ outermost r.tags ])
same_found None h = absurd h
same_found (Some r) h = same_first r.tags h

-- the key of a type that has a tag is that of the tag
same_key : (s : List Resolved) (t : TypeNumber) → HasTag s t → key_at untagged s t ≡ key_at 0 s t
same_key s t h = same_found (slice_get s t) h

-- as many types come before type t as have a key below its own
pub place_by_keys : (s : List Resolved) (us : List TypeNumber) (t : TypeNumber)
    → place_among s us t ≡ below (map (key_at untagged s) us) (key_at 0 s t)
place_by_keys s [] t = refl
place_by_keys s (u ∷ us) t =
    let e = ap one_if (before_key (tag_at s u) (tag_at s t)) in
    let r = place_by_keys s us t in
    let m = below_more (key_at untagged s u) (map (key_at untagged s) us) (key_at 0 s t) in
    omega (arith, e, r, m)

-- the same of the keys in any order
pub place_by_sorted : (s : List Resolved) (us : List TypeNumber) (ks : List ℕ) (t : TypeNumber)
    → IsPermutation (map (key_at untagged s) us) ks → place_among s us t ≡ below ks (key_at 0 s t)
place_by_sorted s us ks t p =
    place_by_keys s us t
    ∙ sym (sum_by-IsPermutation (λ x. one_if (nat_lt x (key_at 0 s t))) (map (key_at untagged s) us) ks p)

-- a type that has a tag comes before another one if its key is less
pub precedes_key : (s : List Resolved) (t u : TypeNumber) → HasTag s t → precedes s t u ≡ nat_lt (key_at 0 s t) (key_at 0 s u)
precedes_key s t u h = before_key (tag_at s t) (tag_at s u) ∙ ap (λ q. nat_lt q (key_at 0 s u)) (same_key s t h)
