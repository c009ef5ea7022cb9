-- The order of a SET's components.
use Rattle.std.proofs.Common.{arith, ◌≡◌, ℕ, zero, suc, ◌+◌, ◌-◌, ◌<◌, ◌≤◌, Bool, true, false, List, [], ◌∷◌, ◌++◌, length, refl, sym, ap, subst, ◌∙◌, length-append}
use Rattle.std.specs.Prelude.{◌↔◌, IsTrue, Option, Some, None, get_or, slice_get}
use Rattle.std.specs.List.{concat, AllByRecursion}
use Rattle.asn_base.specs.declared.tag.Tag.{Tag}
use Rattle.asn_base.specs.Tags.{First, TagBefore}
use Rattle.asn_base.specs.Types.{Component, Resolved}
use Rattle.codec_code.specs.declared.step.Field.{Field as Field'}
use Rattle.codec_code.specs.declared.step.Step.{Step}
use Rattle.codec_code.specs.Routines.{field_of, fields_from, ranked_from, rest_if, ends}
use Rattle.encodings.specs.Orders.{Ascending, ascending_none, ascending_one, ascending_more, InTagOrder, BeginsWith}
use Rattle.octet_answers.specs.Found.{field_in, IsFound, found, not_yet}
use Rattle.der_check.specs.Units.{IsUnit, AreUnits}
use Rattle.der_check.specs.Sets.{ReadsComponents, reads_none, reads_more, IsOfOne, of_first, of_later, IsOfNone, Parted, parted_none, parted_known, parted_other, IsAfter, Climbs, climbs, passes}
use Rattle.der_check.specs.Broken.{StartsAt, starts_first, starts_later, FirstFall, falls_here, falls_later}
use Rattle.der_check.specs.Strict.{ClimbsNot, StartsFirst}
use Rattle.der_check.specs.Places.{Has, has_first, has_later, IsOnly}
use Rattle.der_check.proofs.Split.{HeadersApart, AllUnits, unit_some}
use Rattle.der_check.proofs.Orders.{Front, front_of, at_zero}

none_some : {A : Type 0} {x : A} → None ≡ Some x → ⊥
none_some e = cc

some_same : {A : Type 0} {x y : A} → Some x ≡ Some y → x ≡ y
some_same e = cc

-- the element at a place
pub got : {A : Type 0} (xs : List A) (i : ℕ) (y d : A) → slice_get xs i ≡ Some y → d ≡ get_or xs i d → d ≡ y
got [] i y d e f = absurd (none_some e)
got (x ∷ xs) zero y d e f = f ∙ some_same e
got (x ∷ xs) (suc i) y d e f = got xs i y d e f

pub none_past : {A : Type 0} (xs : List A) (i : ℕ) (y : A) → slice_get xs i ≡ Some y → length xs ≤ i → ⊥
none_past [] i y e l = none_some e
none_past (x ∷ xs) zero y e l = absurd (omega arith)
none_past (x ∷ xs) (suc i) y e l = none_past xs i y e (omega arith)

-- ---- the components that steps read

-- the step at a place
pub record StepAt (ss : List Step) (i : ℕ) (f : Field') : Type 0 where
  pub step : Step
  pub is_at : slice_get ss i ≡ Some step
  pub reads : field_in step ≡ Some f

pub step_at : {cs : List Component} {k : ℕ} {ss : List Step} {c : Component} (i n : ℕ) → n ≡ k + i → ReadsComponents cs k ss → slice_get cs i ≡ Some c → StepAt ss i (field_of n c)
step_at i n z (reads_none a) e = absurd (none_some e)
step_at {k = k} {c = c} zero n z (reads_more {c = d} {p = p} f r) e =
    record { step = p; is_at = refl; reads = f ∙ ap (λ q. Some (field_of k q)) (some_same e) ∙ ap (λ q. Some (field_of q c)) (let w : k ≡ n = omega arith in w) }
step_at {k = k} (suc i) n z (reads_more f r) e = let a = step_at i n (omega arith) r e in record { step = a.step; is_at = a.is_at; reads = a.reads }

no_field : {s : List Resolved} {g : Tag} {ss : List Step} {f : Field'} → AllByRecursion (λ p. field_in p ≡ None) ss → IsFound s g ss f → ⊥
no_field a (found e h) = none_some (sym a.0 ∙ e)
no_field a (not_yet n i) = no_field a.1 i

pub found_one : {s : List Resolved} {g : Tag} {cs : List Component} {k : ℕ} {ss : List Step} {f : Field'} → ReadsComponents cs k ss → IsFound s g ss f → IsOfOne s g cs
found_one (reads_none a) i = absurd (no_field a i)
found_one {s} {g} (reads_more {c = c} e r) (found d h) = of_first (subst (λ q. First s q g) (ap (λ q. q.ty.index) (some_same (sym d ∙ e))) h)
found_one (reads_more e r) (not_yet n i) = of_later (found_one r i)

pub found_none : {s : List Resolved} {g : Tag} {cs : List Component} {k : ℕ} {ss : List Step} → ReadsComponents cs k ss → ((f : Field') → IsFound s g ss f → ⊥) → IsOfNone s g cs
found_none (reads_none a) n = tt
found_none (reads_more {c = c} {i = i} e r) n = (
  λ h. n (field_of i c) (found e h),
  found_none r (λ f j. n f (not_yet (λ b. n b.0 (found b.1 b.2)) j)),
)

no_ends : (n : ℕ) → AllByRecursion (λ p. field_in p ≡ None) (ends n)
no_ends zero = tt
no_ends (suc n) = (refl, no_ends n)

no_rest : (e : Bool) (n : ℕ) → AllByRecursion (λ p. field_in p ≡ None) (rest_if e ++ ends n)
no_rest true n = (refl, no_ends n)
no_rest false n = no_ends n

pub reads_fields : (e : Bool) (n i : ℕ) (cs : List Component) → ReadsComponents cs i (fields_from i cs ++ (rest_if e ++ ends n))
reads_fields e n i [] = reads_none (no_rest e n)
reads_fields e n i (c ∷ cs) = reads_more refl (reads_fields e n (suc i) cs)

pub reads_ranked : (s : List Resolved) (all : List Component) (e : Bool) (n i : ℕ) (cs : List Component) → ReadsComponents cs i (ranked_from s all i cs ++ (rest_if e ++ ends n))
reads_ranked s all e n i [] = reads_none (no_rest e n)
reads_ranked s all e n i (c ∷ cs) = reads_more refl (reads_ranked s all e n (suc i) cs)

-- ---- the order of tags

pub both_ways : (s : List Resolved) (cs : List Component) (g : Tag) → IsOfOne s g cs → IsOfNone s g cs → ⊥
both_ways s [] g o n = elim o [ ]
both_ways s (c ∷ cs) g (of_first h) n = n.0 h
both_ways s (c ∷ cs) g (of_later o) n = both_ways s cs g o n.1

-- tags that ascend after the last one
pub data Ascends : Option Tag → List (List ℕ) → Type 0 where
  ascends_none : {last : Option Tag} → Ascends last []
  ascends_more : {last : Option Tag} {g : Tag} {z : List ℕ} {zs : List (List ℕ)} → IsUnit g z → IsAfter last g → Ascends (Some g) zs → Ascends last (z ∷ zs)

begins_with : {g : Tag} {o : List ℕ} → IsUnit g o → BeginsWith g o
begins_with u = record { constructed = u.constructed; count = length u.contents; header = u.header; rest = u.contents; is_header = u.is_header; whole = u.whole }

one_tag : HeadersApart → {g f : Tag} {o : List ℕ} → BeginsWith g o → IsUnit f o → g ≡ f
one_tag law {g} {f} a u = (law g f a.constructed u.constructed a.count (length u.contents) a.header u.header a.rest u.contents a.is_header u.is_header (sym a.whole ∙ u.whole)).0

pub to_ascending : {last : Option Tag} {zs : List (List ℕ)} → Ascends last zs → Ascending InTagOrder zs
to_ascending ascends_none = ascending_none
to_ascending (ascends_more u b ascends_none) = ascending_one
to_ascending (ascends_more {g = g} u b (ascends_more {g = f} v d k)) =
    ascending_more (record { former = g; latter = f; begins_former = begins_with u; begins_latter = begins_with v; before = d }) (to_ascending {last = Some g} (ascends_more v d k))

abbrev StartsAfter : Option Tag → List (List ℕ) → Type 0
StartsAfter last [] = Unit {0}
StartsAfter last (z ∷ zs) = (g : Tag) → IsUnit g z → IsAfter last g

from_ascending : HeadersApart → (last : Option Tag) (zs : List (List ℕ)) → AllUnits zs → StartsAfter last zs → Ascending InTagOrder zs → Ascends last zs
from_ascending law last [] a b h = ascends_none
from_ascending law last (z ∷ []) a b h = ascends_more a.0.1 (b a.0.0 a.0.1) ascends_none
from_ascending law last (z ∷ y ∷ zs) a b (ascending_more r k) =
    ascends_more a.0.1 (b a.0.0 a.0.1) (from_ascending law (Some a.0.0) (y ∷ zs) a.1
    (λ g u. subst (λ q. TagBefore q g) (one_tag law r.begins_former a.0.1) (subst (λ q. TagBefore r.former q) (one_tag law r.begins_latter u) r.before)) k)

any_start : (zs : List (List ℕ)) → StartsAfter None zs
any_start [] = tt
any_start (z ∷ zs) = λ g u. tt

pub known_units : {s : List Resolved} {cs : List Component} {ys zs us : List (List ℕ)} → Parted s cs ys zs us → AllUnits zs
known_units parted_none = tt
known_units (parted_known {g = g} u o p) = ((g, u), known_units p)
known_units (parted_other u n p) = known_units p

-- the first unit that doesn't come after the one before it, if the first one must come after a last tag
pub data FallsFrom : Option Tag → List (List ℕ) → List ℕ → Type 0 where
  falls_now : {last : Option Tag} {g : Tag} {y : List ℕ} {ys : List (List ℕ)} → IsUnit g y → (IsAfter last g → ⊥) → FallsFrom last (y ∷ ys) y
  falls_on : {last : Option Tag} {g : Tag} {x y : List ℕ} {ys : List (List ℕ)} → IsUnit g x → IsAfter last g → FallsFrom (Some g) ys y → FallsFrom last (x ∷ ys) y

abbrev Fall : List (List ℕ) → List ℕ → Type 0
Fall zs y = (n : ℕ) × FirstFall InTagOrder zs y n

pub tag_order : HeadersApart → {f g : Tag} {x y : List ℕ} → IsUnit f x → IsUnit g y → InTagOrder x y → TagBefore f g
tag_order law {f} {g} u v r = subst (λ q. TagBefore q g) (one_tag law r.begins_former u) (subst (TagBefore r.former) (one_tag law r.begins_latter v) r.before)

fall_after : HeadersApart → {f : Tag} {x y : List ℕ} {ys : List (List ℕ)} → IsUnit f x → FallsFrom (Some f) ys y → Fall (x ∷ ys) y
fall_after law {x = x} u (falls_now v n) = (length x, falls_here (λ r. n (tag_order law u v r)))
fall_after law {f} {x} u (falls_on {g = g} {x = z} v a h) =
    let r = fall_after law v h in
    (length x + r.0, falls_later (record { former = f; latter = g; begins_former = begins_with u; begins_latter = begins_with v; before = a }) r.1)

to_fall : HeadersApart → {zs : List (List ℕ)} {y : List ℕ} → FallsFrom None zs y → Fall zs y
to_fall law (falls_now v n) = absurd (n tt)
to_fall law (falls_on v a h) = fall_after law v h

-- the units that are left after the last tag, at an offset of a total of octets
pub record ClimbsFrom (s : List Resolved) (cs : List Component) (zs us ys : List (List ℕ)) (last : Option Tag) (rest : List ℕ) (whole : Bool) (total : ℕ) : Type 0 where
  pub todo : List (List ℕ)
  pub start : ℕ
  pub reached : start + length rest ≡ total
  pub starts : (y : List ℕ) (n : ℕ) → StartsAt y n todo → StartsAt y (start + n) ys
  pub known : List (List ℕ)
  pub others : List (List ℕ)
  pub units : AreUnits todo rest
  pub parted : Parted s cs todo known others
  pub as_all : Ascends last known ↔ Ascending InTagOrder zs
  pub none_yet : (IsTrue whole × (others ≡ [])) ↔ (us ≡ [])
  pub falls : (y : List ℕ) → FallsFrom last known y → FallsFrom None zs y

pub climbs_begin : HeadersApart → (s : List Resolved) (cs : List Component) (ys zs us : List (List ℕ)) (o : List ℕ) → AreUnits ys o → Parted s cs ys zs us → ClimbsFrom s cs zs us ys None o true (length o)
climbs_begin law s cs ys zs us o u p = record {
  todo = ys;
  start = 0;
  reached = omega arith;
  starts = λ y n h. at_zero (λ q. StartsAt y q ys) n h;
  falls = λ y h. h;
  known = zs;
  others = us;
  units = u;
  parted = p;
  as_all = (to_ascending, from_ascending law None zs (known_units p) (any_start zs));
  none_yet = (λ h. h.1, λ h. (refl, h));
}

-- the first of the units that are left
pub data FirstParted (s : List Resolved) (cs : List Component) (x : List ℕ) : List (List ℕ) → List (List ℕ) → List (List ℕ) → Type 0 where
  first_known : {more known others : List (List ℕ)} → Parted s cs more known others → FirstParted s cs x more (x ∷ known) others
  first_other : {more known others : List (List ℕ)} → Parted s cs more known others → FirstParted s cs x more known (x ∷ others)

pub units_tag : HeadersApart → {g f : Tag} {x : List ℕ} → IsUnit g x → IsUnit f x → g ≡ f
units_tag law {g} {f} u v = one_tag law (begins_with u) v

known_first : HeadersApart → {s : List Resolved} {cs : List Component} {g : Tag} {x : List ℕ} {more known others : List (List ℕ)} → IsUnit g x → IsOfOne s g cs → Parted s cs (x ∷ more) known others → (rest : List (List ℕ)) × (known ≡ x ∷ rest) × Parted s cs more rest others
known_first law u o (parted_known {zs = zs} v n p) = (zs, refl, p)
known_first law {s} {cs} u o (parted_other {g = f} v n p) = absurd (both_ways s cs f (subst (λ q. IsOfOne s q cs) (units_tag law u v) o) n)

other_first : HeadersApart → {s : List Resolved} {cs : List Component} {g : Tag} {x : List ℕ} {more known others : List (List ℕ)} → IsUnit g x → IsOfNone s g cs → Parted s cs (x ∷ more) known others → (rest : List (List ℕ)) × (others ≡ x ∷ rest) × Parted s cs more known rest
other_first law u n (parted_other {us = us} v o p) = (us, refl, p)
other_first law {s} {cs} u n (parted_known {g = f} v o p) = absurd (both_ways s cs f o (subst (λ q. IsOfNone s q cs) (units_tag law u v) n))

first_ascends : HeadersApart → {last : Option Tag} {g : Tag} {x : List ℕ} {zs : List (List ℕ)} → IsUnit g x → Ascends last (x ∷ zs) → IsAfter last g × Ascends (Some g) zs
first_ascends law {last} {g} {zs = zs} u (ascends_more {g = f} v b k) =
    let e = units_tag law v u in (subst (IsAfter last) e b, subst (λ q. Ascends (Some q) zs) e k)

-- where the first of the units that are left starts
start_of : {x rest o : List ℕ} {g : Tag} {ys todo : List (List ℕ)} (start total : ℕ) → ((y : List ℕ) (n : ℕ) → StartsAt y n todo → StartsAt y (start + n) ys) → start + length o ≡ total → IsUnit g x → o ≡ x ++ rest → Front todo x rest → (offset : ℕ) → offset ≡ total - length o → StartsAt x offset ys × (offset < total)
start_of {x} {rest} {ys = ys} start total h r u e f offset d =
    let s = h x 0 (subst (StartsAt x 0) (sym f.is) starts_first) in
    let l = ap length e in
    let b = length-append x rest in
    let c = unit_some u in
    (subst (λ q. StartsAt x q ys) (let z : start + 0 ≡ offset = omega (arith, r, d) in z) s, omega (arith, r, d, l, b, c))

next_start : {x rest : List ℕ} {ys todo : List (List ℕ)} (start : ℕ) → ((y : List ℕ) (n : ℕ) → StartsAt y n todo → StartsAt y (start + n) ys) → (f : Front todo x rest) → (y : List ℕ) (n : ℕ) → StartsAt y n f.more → StartsAt y ((start + length x) + n) ys
next_start {x} {ys = ys} start h f y n s = subst (λ q. StartsAt y q ys) (let z : start + (length x + n) ≡ (start + length x) + n = omega arith in z) (h y (length x + n) (subst (StartsAt y (length x + n)) (sym f.is) (starts_later s)))

next_reached : (x rest : List ℕ) {o : List ℕ} (start total : ℕ) → start + length o ≡ total → o ≡ x ++ rest → (start + length x) + length rest ≡ total
next_reached x rest start total r e = let l = ap length e in let b = length-append x rest in omega (arith, r, l, b)

pub climbs_refused : HeadersApart → {s : List Resolved} {cs : List Component} {zs us ys : List (List ℕ)} {last : Option Tag} {o x : List ℕ} {whole : Bool} {g : Tag} (rest all_octets : List ℕ) (offset : ℕ) → ClimbsFrom s cs zs us ys last o whole (length all_octets) → IsUnit g x → o ≡ x ++ rest → IsOfOne s g cs → (IsAfter last g → ⊥) → offset ≡ length all_octets - length o → ClimbsNot zs ys all_octets offset
climbs_refused law {s} {cs} {last = last} {x = x} rest all_octets offset c u e i n d =
    let f = front_of law c.todo c.units u e in
    let k = known_first law u i (subst (λ q. Parted s cs q c.known c.others) f.is c.parted) in
    let h = to_fall law (c.falls x (subst (λ q. FallsFrom last q x) (sym k.1) (falls_now u n))) in
    let a = start_of c.start (length all_octets) c.starts c.reached u e f offset d in
    (x, h.0, h.1, a.0, a.1)

never_both : {P : Type 0} {x : List ℕ} {xs : List (List ℕ)} → x ∷ xs ≡ [] → P
never_both e = absurd (let l = ap length e in omega arith)

true_is : IsTrue false → ⊥
true_is e = cc

pub climbs_next : HeadersApart → {s : List Resolved} {cs : List Component} {zs us ys : List (List ℕ)} {last now : Option Tag} {o x rest : List ℕ} {whole after : Bool} {g : Tag} {total : ℕ} (known : Bool) → ClimbsFrom s cs zs us ys last o whole total → IsUnit g x → o ≡ x ++ rest → Climbs s cs g last now known → IsTrue after ↔ (IsTrue whole × IsTrue known) → ClimbsFrom s cs zs us ys now rest after total
climbs_next law {s} {cs} {last = last} {x = x} {rest = rest} {g = g} {total = total} known c u e (climbs i b) w =
    let f = front_of law c.todo c.units u e in
    let k = known_first law u i (subst (λ q. Parted s cs q c.known c.others) f.is c.parted) in
    record {
      todo = f.more;
      start = c.start + length x;
      reached = next_reached x rest c.start total c.reached e;
      starts = next_start c.start c.starts f;
      falls = λ y h. c.falls y (subst (λ q. FallsFrom last q y) (sym k.1) (falls_on u b h));
      known = k.0;
      others = c.others;
      units = f.units;
      parted = k.2;
      as_all = (
        λ h. c.as_all.0 (subst (Ascends last) (sym k.1) (ascends_more u b h)),
        λ h. (first_ascends law u (subst (Ascends last) k.1 (c.as_all.1 h))).1,
      );
      none_yet = (λ h. c.none_yet.0 ((w.0 h.0).0, h.1), λ h. let z = c.none_yet.1 h in (w.1 (z.0, refl), z.1));
    }
climbs_next law {s} {cs} {x = x} {rest = rest} {g = g} {total = total} known c u e (passes i) w =
    let f = front_of law c.todo c.units u e in
    let k = other_first law u i (subst (λ q. Parted s cs q c.known c.others) f.is c.parted) in
    record {
      todo = f.more;
      start = c.start + length x;
      reached = next_reached x rest c.start total c.reached e;
      starts = next_start c.start c.starts f;
      falls = c.falls;
      known = c.known;
      others = k.0;
      units = f.units;
      parted = k.2;
      as_all = c.as_all;
      none_yet = (λ h. absurd (true_is (w.0 h.0).1), λ h. never_both (sym k.1 ∙ (c.none_yet.1 h).1));
    }

no_units : {todo : List (List ℕ)} {o : List ℕ} → AreUnits todo o → length o ≡ 0 → todo ≡ []
no_units {todo = []} u z = refl
no_units {todo = y ∷ ys} u z = absurd (let a = ap length u.whole in let b = unit_some u.units.0.1 in let c = length-append y (concat ys) in omega (arith, a, b, c, z))

nothing_parted : {s : List Resolved} {cs : List Component} {todo known others : List (List ℕ)} → todo ≡ [] → Parted s cs todo known others → (known ≡ []) × (others ≡ [])
nothing_parted e parted_none = (refl, refl)
nothing_parted e (parted_known u i p) = never_both e
nothing_parted e (parted_other u i p) = never_both e

pub climbs_end : {s : List Resolved} {cs : List Component} {zs us ys : List (List ℕ)} {last : Option Tag} {o : List ℕ} {whole : Bool} {total : ℕ} → ClimbsFrom s cs zs us ys last o whole total → length o ≡ 0 → Ascending InTagOrder zs × (IsTrue whole ↔ (us ≡ []))
climbs_end {last = last} c z =
    let n = nothing_parted (no_units c.units z) c.parted in
    (c.as_all.0 (subst (Ascends last) (sym n.0) ascends_none), (λ h. c.none_yet.0 (h, n.1), λ h. (c.none_yet.1 h).0))

pub after_none : (last : Option Tag) (g : Tag) → last ≡ None → IsTrue true ↔ IsAfter last g
after_none last g e = (λ h. subst (λ q. IsAfter q g) (sym e) tt, λ h. refl)

pub after_some : (b : Bool) (last : Option Tag) (f g : Tag) → last ≡ Some f → IsTrue b ↔ TagBefore f g → IsTrue b ↔ IsAfter last g
after_some b last f g e h = subst (λ q. IsTrue b ↔ IsAfter q g) (sym e) h

-- ---- the only encoding of a type

-- the encoding is in what is left, at an offset of a total of octets
pub record ComesFrom (s : List Resolved) (t : ℕ) (ys : List (List ℕ)) (x rest : List ℕ) (total : ℕ) : Type 0 where
  pub todo : List (List ℕ)
  pub start : ℕ
  pub reached : start + length rest ≡ total
  pub starts : (y : List ℕ) (n : ℕ) → StartsAt y n todo → StartsAt y (start + n) ys
  pub left : (n : ℕ) → StartsAt x n ys → (m : ℕ) × StartsAt x m todo × (n ≡ start + m)
  pub units : AreUnits todo rest
  pub only : IsOnly s t todo x

has_more : {x y : List ℕ} {ys : List (List ℕ)} → (x ≡ y → ⊥) → Has x (y ∷ ys) → Has x ys
has_more n has_first = absurd (n refl)
has_more n (has_later h) = h

pub comes_begin : {s : List Resolved} {t : ℕ} {ys : List (List ℕ)} {x o : List ℕ} → AreUnits ys o → IsOnly s t ys x → ComesFrom s t ys x o (length o)
comes_begin {ys = ys} u i = record { todo = ys; start = 0; reached = omega arith; starts = λ y n h. at_zero (λ q. StartsAt y q ys) n h; left = λ n h. (n, h, omega arith); units = u; only = i }

pub comes_first : HeadersApart → {s : List Resolved} {t : ℕ} {ys : List (List ℕ)} {x y o : List ℕ} {g : Tag} {total : ℕ} (rest : List ℕ) (offset : ℕ) → ComesFrom s t ys x o total → IsUnit g y → o ≡ y ++ rest → First s t g → offset ≡ total - length o → (y ≡ x) × StartsFirst x offset ys
comes_first law {s} {t} {ys} {x} {y} {g = g} {total = total} rest offset w u e i d =
    let f = front_of law w.todo w.units u e in
    let same = w.only.only y (subst (Has y) (sym f.is) has_first) (record { tag = g; unit = u; is_first = i }) in
    let r = w.reached in
    (same, (subst (λ q. StartsAt q offset ys) same (start_of w.start total w.starts w.reached u e f offset d).0, λ m h. let l = w.left m h in let z = l.2 in omega (arith, d, r, z)))

later_start : {x y : List ℕ} {ys : List (List ℕ)} {n : ℕ} → (x ≡ y → ⊥) → StartsAt x n (y ∷ ys) → (m : ℕ) × StartsAt x m ys × (n ≡ length y + m)
later_start n starts_first = absurd (n refl)
later_start n (starts_later {n = m} h) = (m, h, refl)

pub comes_later : HeadersApart → {s : List Resolved} {t : ℕ} {ys : List (List ℕ)} {x y o rest : List ℕ} {g : Tag} {total : ℕ} → ComesFrom s t ys x o total → IsUnit g y → o ≡ y ++ rest → (First s t g → ⊥) → ComesFrom s t ys x rest total
comes_later law {s} {t} {ys} {x} {y} {rest = rest} {g = g} {total = total} w u e n =
    let f = front_of law w.todo w.units u e in
    let b = w.only.begins in
    let other : x ≡ y → ⊥ = λ d. n (subst (First s t) (units_tag law (subst (IsUnit b.tag) d b.unit) u) b.is_first) in
    record {
      todo = f.more;
      start = w.start + length y;
      reached = next_reached y rest w.start total w.reached e;
      starts = next_start w.start w.starts f;
      left = λ n h. let l = w.left n h in let k = later_start other (subst (StartsAt x l.0) f.is l.1) in (k.0, k.1, let a = l.2 in let b = k.2 in omega (arith, a, b));
      units = f.units;
      only = record {
        there = has_more other (subst (Has x) f.is w.only.there);
        begins = b;
        only = λ z h k. w.only.only z (subst (Has z) (sym f.is) (has_later h)) k;
      };
    }

none_has : {x : List ℕ} {todo : List (List ℕ)} → todo ≡ [] → Has x todo → ⊥
none_has e has_first = never_both e
none_has e (has_later h) = never_both e

pub comes_nowhere : {s : List Resolved} {t : ℕ} {ys : List (List ℕ)} {x o : List ℕ} {total : ℕ} → ComesFrom s t ys x o total → length o ≡ 0 → ⊥
comes_nowhere w z = none_has (no_units w.units z) w.only.there
