-- Ranks that ascend are tags in their canonical order.
use Rattle.std.proofs.Common.{◌≡◌, ℕ, suc, ◌+◌, ◌<◌, ◌≤◌, ⊎_elim, Bool, true, List, [], ◌∷◌, length, refl, sym, ap, ◌∙◌, arith}
use Rattle.std.specs.Prelude.{◌==◌, if◌then◌else◌, Some, slice_get, map}
use Rattle.std.specs.List.{AllByRecursion, sum_by}
use Rattle.std.specs.List.Sorted.{IsPermutation}
use Rattle.std.proofs.lemmas.List.Sorted.{sum_by-IsPermutation}
use Rattle.std.proofs.lemmas.List.Sums.{sum_by-cons}
use Rattle.std.proofs.lemmas.Bool.{cases_Bool, cases_lt, eqb-true, eq-eqb}
use Rattle.asn_base.specs.declared.tag.Tag.{Tag}
use Rattle.asn_base.specs.Order.{tag_at}
use Rattle.asn_base.specs.Tags.{AllApart}
use Rattle.asn_base.specs.Schemas.{HasTag}
use Rattle.asn_base.specs.Types.{Component, Resolved}
use Rattle.asn_base.specs.proving.Places.{before_by_place, one_place}
use Rattle.encodings.specs.Rules.{Distinguished}
use Rattle.encodings.specs.Orders.{Ascending, ascending_none, ascending_one, ascending_more, BeginsWith, InTagOrder}
use Rattle.encodings.specs.Encoding.{Framed, innermost, outer}
use Rattle.codec_code.specs.Events.{SetMember, encodings_of, RanksAscend}
use Rattle.codec_code.specs.Routines.{rank}

abbrev pub one_if : Bool → ℕ
one_if b = if b then 1 else 0

-- an encoding that begins with the tag of a type, and has the type's rank
pub record HasRank (s : List Resolved) (cs : List Component) (p : SetMember) : Type 0 where
  pub type : ℕ
  pub tag : Tag
  pub found : tag_at s type ≡ Some tag
  pub begins : BeginsWith tag p.octets
  pub rank_is : p.rank ≡ rank s cs type

ordered_two : (s : List Resolved) (cs : List Component) (p q : SetMember) → HasRank s cs p → HasRank s cs q → p.rank < q.rank → InTagOrder p.octets q.octets
ordered_two s cs p q a b lt = record {
  former = a.tag;
  latter = b.tag;
  begins_former = a.begins;
  begins_latter = b.begins;
  before = before_by_place s (map (λ c. c.type) cs) a.type b.type a.tag b.tag a.found b.found (let e = a.rank_is in let f = b.rank_is in omega arith);
}

-- each rank is less than those after it
abbrev pub RanksRise : List SetMember → Type 0
RanksRise [] = Unit {0}
RanksRise (p ∷ ps) = AllByRecursion (λ q. p.rank < q.rank) ps × RanksRise ps

pub ordered_all : (s : List Resolved) (cs : List Component) (ps : List SetMember) → AllByRecursion (HasRank s cs) ps → RanksRise ps → Ascending InTagOrder (encodings_of ps)
ordered_all s cs [] a r = ascending_none
ordered_all s cs (p ∷ []) a r = ascending_one
ordered_all s cs (p ∷ q ∷ ps) a r = ascending_more (ordered_two s cs p q a.0 a.1.0 r.0.0) (ordered_all s cs (q ∷ ps) a.1 r.1)

-- ---- each rank is there once

abbrev pub one_at : ℕ → ℕ → ℕ
one_at r n = one_if (n == r)

-- how many parts have this rank
abbrev pub times : ℕ → List SetMember → ℕ
times r [] = 0
times r (p ∷ ps) = one_at r p.rank + times r ps

times_sum : (r : ℕ) (ps : List SetMember) → times r ps ≡ sum_by (λ p. one_at r p.rank) ps
times_sum r [] = refl
times_sum r (p ∷ ps) = ap (λ n. one_at r p.rank + n) (times_sum r ps) ∙ sym (sum_by-cons (λ p. one_at r p.rank) p ps)

pub times_same : (r : ℕ) (ps qs : List SetMember) → IsPermutation ps qs → times r qs ≡ times r ps
times_same r ps qs h = times_sum r qs ∙ sum_by-IsPermutation (λ p. one_at r p.rank) ps qs h ∙ sym (times_sum r ps)

one_itself : (r n : ℕ) → n ≡ r → one_at r n ≡ 1
one_itself r n e = ap one_if (eq-eqb n r e)

less_from : (m n : ℕ) → m ≤ n → (n ≡ m → ⊥) → m < n
less_from m n h d = ⊎_elim (λ l. l) (λ g. absurd (d (omega (arith, h, g)))) (cases_lt m n)

all_less : (n : ℕ) (ps : List SetMember) → AllByRecursion (λ q. n ≤ q.rank) ps → times n ps ≡ 0 → AllByRecursion (λ q. n < q.rank) ps
all_less n [] a h = tt
all_less n (q ∷ ps) a h =
    (less_from n q.rank a.0 (λ e. let k = one_itself n q.rank e in omega (arith, h, k)), all_less n ps a.1 (omega (arith, h)))

pub rising : (ps : List SetMember) → ((r : ℕ) → times r ps ≤ 1) → RanksAscend ps → RanksRise ps
rising [] o a = tt
rising (p ∷ ps) o a =
    let i = one_itself p.rank p.rank refl in
    let k = o p.rank in
    (all_less p.rank ps a.0 (omega (arith, i, k)), rising ps (λ r. let l = o r in omega (arith, l)) a.1)

-- ---- components with tags of their own have ranks of their own

-- how many of the components have this rank
abbrev pub members_at : List Resolved → List Component → ℕ → List Component → ℕ
members_at s all r [] = 0
members_at s all r (c ∷ cs) = one_at r (rank s all c.type) + members_at s all r cs

-- `ds` are the components from place n on
abbrev AreFrom : List Component → ℕ → List Component → Type 0
AreFrom all n ds = (i : ℕ) → slice_get (map (λ c. c.type) all) (n + i) ≡ slice_get (map (λ c. c.type) ds) i

others_from : (all ds : List Component) (d : Component) (n : ℕ) → AreFrom all n (d ∷ ds) → AreFrom all (suc n) ds
others_from all ds d n f i = ap (slice_get (map (λ c. c.type) all)) (omega arith) ∙ f (suc i)

module _ (s : List Resolved) (all : List Component)
    (one : (i j t u : ℕ) → slice_get (map (λ c. c.type) all) i ≡ Some t → slice_get (map (λ c. c.type) all) j ≡ Some u → rank s all t ≡ rank s all u → i ≡ j) where
  none_else : (m n t r : ℕ) (ds : List Component) → m < n → slice_get (map (λ c. c.type) all) m ≡ Some t → rank s all t ≡ r → AreFrom all n ds → members_at s all r ds ≡ 0
  none_else m n t r [] l g e f = refl
  none_else m n t r (d ∷ ds) l g e f =
      let z = none_else m (suc n) t r ds (omega (arith, l)) g e (others_from all ds d n f) in
      ⊎_elim
      (λ b. absurd (let k = one m (n + 0) t d.type g (f 0) (e ∙ sym (eqb-true (rank s all d.type) r b)) in omega (arith, k, l)))
      (λ b. let k : one_at r (rank s all d.type) ≡ 0 = ap one_if b in omega (arith, k, z))
      (cases_Bool (rank s all d.type == r))

  once_in : (n : ℕ) (ds : List Component) → AreFrom all n ds → (r : ℕ) → members_at s all r ds ≤ 1
  once_in n [] f r = omega arith
  once_in n (d ∷ ds) f r = ⊎_elim
      (λ b.
      let k : one_at r (rank s all d.type) ≡ 1 = ap one_if b in
      let z = none_else (n + 0) (suc n) d.type r ds (omega arith) (f 0) (eqb-true (rank s all d.type) r b) (others_from all ds d n f) in
      omega (arith, k, z))
      (λ b.
      let k : one_at r (rank s all d.type) ≡ 0 = ap one_if b in
      let z = once_in (suc n) ds (others_from all ds d n f) r in
      omega (arith, k, z))
      (cases_Bool (rank s all d.type == r))

types_tagged : (s : List Resolved) (cs : List Component) → AllByRecursion (λ c. HasTag s c.type) cs → AllByRecursion (HasTag s) (map (λ c. c.type) cs)
types_tagged s [] a = tt
types_tagged s (c ∷ cs) a = (a.0, types_tagged s cs a.1)

-- components of a SET have a rank each
pub once : (s : List Resolved) (cs : List Component) → AllApart s (map (λ c. c.type) cs) → AllByRecursion (λ c. HasTag s c.type) cs → (r : ℕ) → members_at s cs r cs ≤ 1
once s cs apart tagged r = once_in s cs (λ i j t u g h e. one_place s (map (λ c. c.type) cs) i j t u apart (types_tagged s cs tagged) g h e) 0 cs (λ i. ap (slice_get (map (λ c. c.type) cs)) (let z : 0 + i ≡ i = omega arith in z)) r

-- contents with tags begin with the outermost tag
pub framed_begins : {g : Tag} {gs : List Tag} {c : Bool} {x o : List ℕ} → Framed Distinguished (g ∷ gs) c x o → BeginsWith g o
framed_begins (innermost {c = c} {h = h} {x = x} a) = record { constructed = c; count = length x; header = h; rest = x; is_header = a.header; whole = refl }
framed_begins (outer {h = h} {y = y} f a) = record { constructed = true; count = length y; header = h; rest = y; is_header = a.header; whole = refl }
