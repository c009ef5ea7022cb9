-- The parts of a SET's contents: encodings of components, in the order of their tags or not, and others among them.
use Rattle.std.proofs.Common.{arith, ◌≡◌, ℕ, ◌+◌, ◌≤◌, ◌⊎◌, inl, inr, ⊎_elim, Bool, List, [], ◌∷◌, length, map, refl, sym, ap, subst, ◌∙◌}
use Rattle.std.specs.List.{concat, AllByRecursion}
use Rattle.asn_base.specs.declared.tag.Tag.{Tag}
use Rattle.asn_base.specs.Abstract.{fields, Row}
use Rattle.asn_base.specs.Types.{a_set, Component, Resolved}
use Rattle.asn_base.specs.Tags.{First, AreApart, AllApart, AllTagged}
use Rattle.encodings.specs.Rules.{Rules, Sorted}
use Rattle.encodings.specs.Orders.{Ascending, InTagOrder, EncodingInserted, here, there, Permutes, permutes_none, permutes_more, Merges, merges_none, merges_first, merges_second}
use Rattle.encodings.specs.Encoding.{Unknown, no_unknown, unknown, UnknownIf, closed, extensible, ContentsEncode, leaf, set, Members, no_member, left_out, member}
use Rattle.der_check.specs.Units.{IsUnit, AreUnits}
use Rattle.der_check.specs.Sets.{IsOfOne, of_first, of_later, IsOfNone, Parted, parted_none, parted_known, parted_other}
use Rattle.der_check.specs.Places.{Once, once_first, once_later, Has, has_first, has_later, BeginsType, ArePlaced, placed_none, placed_absent, placed_present}
use Rattle.der_check.proofs.Split.{HeadersApart, AllUnits, units_list}
use Rattle.der_check.proofs.Climbing.{both_ways, units_tag}
use Rattle.der_check.proofs.KindParts.{says_begins}

-- ---- one of some encodings

inserted_has : {x y : List ℕ} {xs ys : List (List ℕ)} → EncodingInserted y xs ys → Has x (y ∷ xs) → Has x ys
inserted_has here h = h
inserted_has (there i) has_first = has_later (inserted_has i has_first)
inserted_has (there i) (has_later has_first) = has_first
inserted_has (there i) (has_later (has_later h)) = has_later (inserted_has i (has_later h))

swap : {x y z : List ℕ} {xs : List (List ℕ)} → Has x (y ∷ xs) → Has x (y ∷ z ∷ xs)
swap has_first = has_first
swap (has_later h) = has_later (has_later h)

inserted_had : {x y : List ℕ} {xs ys : List (List ℕ)} → EncodingInserted y xs ys → Has x ys → Has x (y ∷ xs)
inserted_had here h = h
inserted_had (there i) has_first = has_later has_first
inserted_had (there i) (has_later h) = swap (inserted_had i h)

permutes_has : {x : List ℕ} {xs zs : List (List ℕ)} → Permutes xs zs → Has x xs → Has x zs
permutes_has permutes_none h = h
permutes_has (permutes_more p i) has_first = inserted_has i has_first
permutes_has (permutes_more p i) (has_later h) = inserted_has i (has_later (permutes_has p h))

later_by : {x y : List ℕ} {xs ys : List (List ℕ)} → (Has x xs → Has x ys) → Has x (y ∷ xs) → Has x (y ∷ ys)
later_by f has_first = has_first
later_by f (has_later h) = has_later (f h)

permutes_had : {x : List ℕ} {xs zs : List (List ℕ)} → Permutes xs zs → Has x zs → Has x xs
permutes_had permutes_none h = h
permutes_had (permutes_more p i) h = later_by (permutes_had p) (inserted_had i h)

all_inserted : (P : List ℕ → Type 0) {x : List ℕ} {xs ys : List (List ℕ)} → P x → AllByRecursion P xs → EncodingInserted x xs ys → AllByRecursion P ys
all_inserted P p a here = (p, a)
all_inserted P p a (there i) = (a.0, all_inserted P p a.1 i)

all_permutes : (P : List ℕ → Type 0) {xs ys : List (List ℕ)} → Permutes xs ys → AllByRecursion P xs → AllByRecursion P ys
all_permutes P permutes_none a = tt
all_permutes P (permutes_more p i) a = all_inserted P a.0 (all_permutes P p a.1) i

-- ---- encodings of components, and others

record IsKnown (s : List Resolved) (cs : List Component) (x : List ℕ) : Type 0 where
  tag : Tag
  unit : IsUnit tag x
  one : IsOfOne s tag cs

record IsOther (s : List Resolved) (cs : List Component) (x : List ℕ) : Type 0 where
  tag : Tag
  unit : IsUnit tag x
  none : IsOfNone s tag cs

known_more : (s : List Resolved) (c : Component) (cs : List Component) (xs : List (List ℕ)) → AllByRecursion (IsKnown s cs) xs → AllByRecursion (IsKnown s (c ∷ cs)) xs
known_more s c cs [] a = tt
known_more s c cs (x ∷ xs) a = (record { tag = a.0.tag; unit = a.0.unit; one = of_later a.0.one }, known_more s c cs xs a.1)

all_known : {s : List Resolved} {r : Rules} {cs : List Component} {vs : Row} {n : ℕ} {xs : List (List ℕ)} → AllTagged s → Members s r cs vs n xs → AllByRecursion (IsKnown s cs) xs
all_known all no_member = tt
all_known {s} all (left_out {c = c} {cs = cs} {xs = xs} m ms) = known_more s c cs xs (all_known all ms)
all_known {s} all (member {c = c} {cs = cs} {xs = xs} a d ms) = (let b = says_begins all a in record { tag = b.tag; unit = b.unit; one = of_first b.is_first }, known_more s c cs xs (all_known all ms))

all_unknown : {s : List Resolved} {cs : List Component} {k : ℕ} {us : List (List ℕ)} → Unknown s cs k us → AllByRecursion (IsOther s cs) us
all_unknown no_unknown = tt
all_unknown (unknown {g = g} {c = c} {h = h} x hd b f u) = (record { tag = g; unit = record { constructed = c; header = h; contents = x; is_header = hd; whole = refl }; none = f }, all_unknown u)

all_others : {s : List Resolved} {cs : List Component} {e : Bool} {k : ℕ} {us : List (List ℕ)} → UnknownIf s cs e k us → AllByRecursion (IsOther s cs) us
all_others closed = tt
all_others (extensible u) = all_unknown u

parted_by : {s : List Resolved} {cs : List Component} {zs us ys : List (List ℕ)} → Merges zs us ys → AllByRecursion (IsKnown s cs) zs → AllByRecursion (IsOther s cs) us → Parted s cs ys zs us
parted_by merges_none a b = parted_none
parted_by (merges_first m) a b = parted_known a.0.unit a.0.one (parted_by m a.1 b)
parted_by (merges_second m) a b = parted_other b.0.unit b.0.none (parted_by m a b.1)

two_more : {x : List ℕ} {xs ys zs us : List (List ℕ)} → (xs ≡ ys) × (zs ≡ us) → (x ∷ xs ≡ x ∷ ys) × (zs ≡ us)
two_more {x} e = (ap (λ q. x ∷ q) e.0, e.1)

more_two : {x : List ℕ} {xs ys zs us : List (List ℕ)} → (xs ≡ ys) × (zs ≡ us) → (xs ≡ ys) × (x ∷ zs ≡ x ∷ us)
more_two {x} e = (e.0, ap (λ q. x ∷ q) e.1)

-- in one way only
parted_one : HeadersApart → {s : List Resolved} {cs : List Component} {ys zs us zs' us' : List (List ℕ)} → Parted s cs ys zs us → Parted s cs ys zs' us' → (zs ≡ zs') × (us ≡ us')
parted_one law parted_none parted_none = (refl, refl)
parted_one law (parted_known u i p) (parted_known u' i' p') = two_more (parted_one law p p')
parted_one law {s} {cs} (parted_known {g = g} u i p) (parted_other {g = f} u' n p') = absurd (both_ways s cs f (subst (λ q. IsOfOne s q cs) (units_tag law u u') i) n)
parted_one law {s} {cs} (parted_other {g = f} u' n p') (parted_known {g = g} u i p) = absurd (both_ways s cs f (subst (λ q. IsOfOne s q cs) (units_tag law u u') i) n)
parted_one law (parted_other u i p) (parted_other u' i' p') = more_two (parted_one law p p')

parted_units : {s : List Resolved} {cs : List Component} {ys zs us : List (List ℕ)} → Parted s cs ys zs us → AllUnits ys
parted_units parted_none = tt
parted_units (parted_known {g = g} u i p) = ((g, u), parted_units p)
parted_units (parted_other {g = g} u i p) = ((g, u), parted_units p)

-- ---- components of different types

begins_one : HeadersApart → {s : List Resolved} {t u : ℕ} {x : List ℕ} → AreApart s t u → BeginsType s t x → BeginsType s u x → ⊥
begins_one law {s} {t} apart a b = apart b.tag (subst (First s t) (units_tag law a.unit b.unit) a.is_first) b.is_first

none_of : HeadersApart → {s : List Resolved} {t : ℕ} (cs : List Component) {x : List ℕ} → AllByRecursion (AreApart s t) (map (λ c. c.type) cs) → BeginsType s t x → IsKnown s cs x → ⊥
none_of law {s} {t} cs a b k = by cs a (subst (λ q. IsOfOne s q cs) (units_tag law k.unit b.unit) k.one)
  where
    by : (ds : List Component) → AllByRecursion (AreApart s t) (map (λ c. c.type) ds) → IsOfOne s b.tag ds → ⊥
    by [] a o = elim o [ ]
    by (d ∷ ds) a (of_first h) = a.0 b.tag b.is_first h
    by (d ∷ ds) a (of_later o) = by ds a.1 o

all_has : (P : List ℕ → Type 0) {x : List ℕ} {xs : List (List ℕ)} → AllByRecursion P xs → Has x xs → P x
all_has P a has_first = a.0
all_has P a (has_later h) = all_has P a.1 h

first_or_later : {x y : List ℕ} {xs : List (List ℕ)} → Has x (y ∷ xs) → (x ≡ y) ⊎ Has x xs
first_or_later has_first = inl refl
first_or_later (has_later h) = inr h

must_be_later : {x y : List ℕ} {xs : List (List ℕ)} → Has x (y ∷ xs) → (x ≡ y → ⊥) → Has x xs
must_be_later h n = ⊎_elim (λ e. absurd (n e)) (λ l. l) (first_or_later h)

-- the encodings of one row are determined by their places
members_one : HeadersApart → {s : List Resolved} {q r : Rules} {cs : List Component} {ws : Row} {j n : ℕ} {xs ys : List (List ℕ)} → AllTagged s → AllApart s (map (λ c. c.type) cs) → Members s q cs ws j xs → Members s r cs ws n ys → ((x : List ℕ) → Has x xs → Has x ys) → xs ≡ ys
members_one law all a no_member no_member f = refl
members_one law all a (left_out m ms) (left_out m' ms') f = members_one law all a.1 ms ms' f
members_one law {s} {cs = c ∷ cs} all a (member {x = x} {xs = xs} b nd ms) (member {x = y} {xs = ys} b' nd' ms') f =
    let here' : x ≡ y = ⊎_elim (λ e. e) (λ h. absurd (none_of law cs a.0 (says_begins all b) (all_has (IsKnown s cs) (all_known all ms') h))) (first_or_later (f x has_first)) in
    let rest : xs ≡ ys = members_one law all a.1 ms ms'
    (λ z h. must_be_later (f z (has_later h)) (λ e. none_of law cs a.0 (says_begins all b') (subst (λ l. IsKnown s cs l) e (all_has (IsKnown s cs) (all_known all ms) h)))) in
    cc

-- the place of each encoding
placed : HeadersApart → {s : List Resolved} {r : Rules} {cs : List Component} {ws : Row} {n : ℕ} {xs : List (List ℕ)} (ys : List (List ℕ)) → AllTagged s → AllApart s (map (λ c. c.type) cs) → Members s r cs ws n xs → ((x : List ℕ) → Has x xs → Has x ys) → ((y : List ℕ) → Has y ys → IsKnown s cs y → Has y xs) → ArePlaced s ys cs ws xs
placed law ys all a no_member inn out = placed_none
placed law {s} {cs = c ∷ cs} ys all a (left_out m ms) inn out =
    placed_absent (placed law ys all a.1 ms inn (λ y h k. out y h (record { tag = k.tag; unit = k.unit; one = of_later k.one })))
placed law {s} {cs = c ∷ cs} ys all a (member {x = x} {xs = xs} b nd ms) inn out =
    let x_first = says_begins all b in
    placed_present (record {
      there = inn x has_first;
      begins = x_first;
      only = λ y h d. ⊎_elim (λ e. e) (λ l. absurd (none_of law cs a.0 d (all_has (IsKnown s cs) (all_known all ms) l))) (first_or_later (out y h (record { tag = d.tag; unit = d.unit; one = of_first d.is_first })));
    }) (placed law ys all a.1 ms (λ z h. inn z (has_later h))
    (λ y h k. must_be_later (out y h (record { tag = k.tag; unit = k.unit; one = of_later k.one })) (λ e. none_of law cs a.0 x_first (subst (λ l. IsKnown s cs l) e k))))

-- ---- the parts

pub record SetParts (s : List Resolved) (r : Rules) (e : Bool) (cs : List Component) (ws : Row) (n : ℕ) (o : List ℕ) : Type 0 where
  pub known : List (List ℕ)
  pub in_order : List (List ℕ)
  pub others : List (List ℕ)
  pub all : List (List ℕ)
  pub count : ℕ
  pub skipped : ℕ
  pub members : Members s r cs ws count known
  pub permutes : Permutes known in_order
  pub sorted : Sorted r (Ascending InTagOrder in_order)
  pub unknown_ones : UnknownIf s cs e skipped others
  pub merges : Merges in_order others all
  pub whole : o ≡ concat all
  pub counts : n ≡ count + skipped

pub set_parts : {s : List Resolved} {r : Rules} {e : Bool} {cs : List Component} {ws : Row} {n : ℕ} {c : Bool} {o : List ℕ} → ContentsEncode s r (a_set e cs) (fields ws) n c o → SetParts s r e cs ws n o
set_parts (leaf con) = elim con [ ]
set_parts (set {j = j} {k = k} {xs = xs} {zs = zs} {us = us} {ys = ys} ms p st u m) = record { known = xs; in_order = zs; others = us; all = ys; count = j; skipped = k; members = ms; permutes = p; sorted = st; unknown_ones = u; merges = m; whole = refl; counts = refl }

pub set_parted : {s : List Resolved} {r : Rules} {e : Bool} {cs : List Component} {ws : Row} {n : ℕ} {o : List ℕ} → AllTagged s → (p : SetParts s r e cs ws n o) → Parted s cs p.all p.in_order p.others
set_parted {s} {cs = cs} all p = parted_by p.merges (all_permutes (IsKnown s cs) p.permutes (all_known all p.members)) (all_others p.unknown_ones)

pub set_units : {s : List Resolved} {r : Rules} {e : Bool} {cs : List Component} {ws : Row} {n : ℕ} {o : List ℕ} → AllTagged s → length o ≤ 16777216 → (p : SetParts s r e cs ws n o) → AreUnits p.all o
set_units all l p = record { units = parted_units (set_parted all p); whole = p.whole; short = l }

merges_has : {x : List ℕ} {zs us ms : List (List ℕ)} → Merges zs us ms → Has x zs → Has x ms
merges_has merges_none h = h
merges_has (merges_first m) has_first = has_first
merges_has (merges_first m) (has_later h) = has_later (merges_has m h)
merges_has (merges_second m) h = has_later (merges_has m h)

merges_had : {x : List ℕ} {zs us ms : List (List ℕ)} → Merges zs us ms → Has x ms → Has x zs ⊎ Has x us
merges_had merges_none h = inl h
merges_had (merges_first m) has_first = inl has_first
merges_had (merges_first m) (has_later h) = ⊎_elim (λ a. inl (has_later a)) (λ b. inr b) (merges_had m h)
merges_had (merges_second m) has_first = inr has_first
merges_had (merges_second m) (has_later h) = ⊎_elim (λ a. inl a) (λ b. inr (has_later b)) (merges_had m h)

never_other : HeadersApart → {s : List Resolved} {cs : List Component} {x : List ℕ} → IsKnown s cs x → IsOther s cs x → ⊥
never_other law {s} {cs} k o = both_ways s cs o.tag (subst (λ q. IsOfOne s q cs) (units_tag law k.unit o.unit) k.one) o.none

pub set_placed : HeadersApart → {s : List Resolved} {r : Rules} {e : Bool} {cs : List Component} {ws : Row} {n : ℕ} {o : List ℕ} → AllTagged s → AllApart s (map (λ c. c.type) cs) → (p : SetParts s r e cs ws n o) → ArePlaced s p.all cs ws p.known
set_placed law {s} {cs = cs} all a p =
    placed law p.all all a p.members (λ x h. merges_has p.merges (permutes_has p.permutes h))
    (λ y h k. ⊎_elim (λ z. permutes_had p.permutes z) (λ u. absurd (never_other law k (all_has (IsOther s cs) (all_others p.unknown_ones) u))) (merges_had p.merges h))

-- ---- each encoding is there once

inserted_once : {x y : List ℕ} {xs ys : List (List ℕ)} → EncodingInserted y xs ys → Once x (y ∷ xs) → Once x ys
inserted_once here o = o
inserted_once {x = x} (there {x = y'} {y = z} {xs = zs} i) (once_first n) = once_later (λ e. n (subst (λ q. Has x (q ∷ zs)) e has_first)) (inserted_once i (once_first (λ h. n (has_later h))))
inserted_once (there i) (once_later e (once_first n)) = once_first (λ h. must_not (inserted_had i h) e n)
  where
    must_not : {x y : List ℕ} {xs : List (List ℕ)} → Has x (y ∷ xs) → (x ≡ y → ⊥) → (Has x xs → ⊥) → ⊥
    must_not has_first e n = e refl
    must_not (has_later h) e n = n h
inserted_once (there i) (once_later e (once_later f o)) = once_later f (inserted_once i (once_later e o))

permutes_once : {x : List ℕ} {xs zs : List (List ℕ)} → Permutes xs zs → Once x xs → Once x zs
permutes_once permutes_none o = o
permutes_once (permutes_more p i) (once_first n) = inserted_once i (once_first (λ h. n (permutes_had p h)))
permutes_once (permutes_more p i) (once_later e o) = inserted_once i (once_later e (permutes_once p o))

merges_once : {x : List ℕ} {zs us ms : List (List ℕ)} → Merges zs us ms → (Has x us → ⊥) → Once x zs → Once x ms
merges_once merges_none n o = o
merges_once (merges_first m) n (once_first a) = once_first (λ h. ⊎_elim a n (merges_had m h))
merges_once (merges_first m) n (once_later e o) = once_later e (merges_once m n o)
merges_once {us = u ∷ us} (merges_second m) n o = once_later (λ e. n (subst (λ q. Has q (u ∷ us)) (sym e) has_first)) (merges_once m (λ h. n (has_later h)) o)

members_once : HeadersApart → {s : List Resolved} {r : Rules} {cs : List Component} {ws : Row} {n : ℕ} {x : List ℕ} {xs : List (List ℕ)} → AllTagged s → AllApart s (map (λ c. c.type) cs) → Members s r cs ws n xs → Has x xs → Once x xs
members_once law all a no_member h = elim h [ ]
members_once law all a (left_out m ms) h = members_once law all a.1 ms h
members_once law {s} {cs = c ∷ cs} all a (member b nd ms) has_first = once_first (λ h. none_of law cs a.0 (says_begins all b) (all_has (IsKnown s cs) (all_known all ms) h))
members_once law {s} {cs = c ∷ cs} all a (member b nd ms) (has_later h) =
    once_later (λ e. none_of law cs a.0 (says_begins all b) (subst (IsKnown s cs) e (all_has (IsKnown s cs) (all_known all ms) h))) (members_once law all a.1 ms h)

pub set_once : HeadersApart → {s : List Resolved} {r : Rules} {e : Bool} {cs : List Component} {ws : Row} {n : ℕ} {o : List ℕ} → AllTagged s → AllApart s (map (λ c. c.type) cs) → (p : SetParts s r e cs ws n o) → (x : List ℕ) → Has x p.in_order → Once x p.all
set_once law {s} {cs = cs} all a p x h =
    let k = permutes_had p.permutes h in
    merges_once p.merges (λ u. never_other law (all_has (IsKnown s cs) (all_known all p.members) k) (all_has (IsOther s cs) (all_others p.unknown_ones) u)) (permutes_once p.permutes (members_once law all a p.members k))

-- the same by other rules
pub record SetSame (xs zs us xs' zs' us' : List (List ℕ)) : Type 0 where
  pub known : xs' ≡ xs
  pub in_order : zs' ≡ zs
  pub others : us' ≡ us

pub units_same : HeadersApart → {s : List Resolved} {q r : Rules} {e : Bool} {cs : List Component} {ws : Row} {j n : ℕ} {o : List ℕ} → AllTagged s → (p : SetParts s q e cs ws j o) (p' : SetParts s r e cs ws n o) → p'.all ≡ p.all
units_same law all p p' = units_list law p'.all p.all (parted_units (set_parted all p')) (parted_units (set_parted all p)) (sym p'.whole ∙ p.whole)

pub set_same : HeadersApart → {s : List Resolved} {q r : Rules} {e : Bool} {cs : List Component} {ws : Row} {j n : ℕ} {o : List ℕ} → AllTagged s → AllApart s (map (λ c. c.type) cs) → (p : SetParts s q e cs ws j o) (p' : SetParts s r e cs ws n o) → SetSame p.known p.in_order p.others p'.known p'.in_order p'.others
set_same law {s} {cs = cs} all a p p' =
    let one = set_parted all p in
    let two = set_parted all p' in
    let e = units_same law all p p' in
    let f = parted_one law (subst (λ l. Parted s cs l p'.in_order p'.others) e two) one in
    record {
      known = members_one law all a p'.members p.members (λ x h. permutes_had p.permutes (subst (Has x) f.0 (permutes_has p'.permutes h)));
      in_order = f.0;
      others = f.1;
    }

-- ---- without components

pub permutes_nothing : {xs zs : List (List ℕ)} → Permutes xs zs → xs ≡ [] → zs ≡ []
permutes_nothing permutes_none e = refl
permutes_nothing (permutes_more p i) e = absurd (let l = ap length e in omega arith)

pub merges_nothing : {zs us ms : List (List ℕ)} → Merges zs us ms → zs ≡ [] → ms ≡ us
merges_nothing merges_none e = refl
merges_nothing (merges_first m) e = absurd (let l = ap length e in omega arith)
merges_nothing (merges_second {y = y} m) e = ap (λ q. y ∷ q) (merges_nothing m e)
