-- Headers with the tags of a type, one right before the next.
use Rattle.std.proofs.Common.{arith, ◌≡◌, ℕ, suc, ◌+◌, ◌<◌, ◌≤◌, Bool, List, [], ◌∷◌, length, drop, take, get_or, refl, sym, ap, subst, ◌∙◌, drop-cons, add-one, length-drop}
use Rattle.std.proofs.lemmas.List.{drop_all}
use Rattle.asn_base.specs.declared.tag.Tag.{Tag}
use Rattle.encodings.specs.Header.{Octets}
use Rattle.octets.specs.Fronts.{HeaderAt}
use Rattle.octet_findings.specs.Places.{PartFrom, last, outer}
use Rattle.octet_findings.specs.Tags.{HasNoHeader}
use Rattle.octet_findings.proofs.Leaves.{OneHeader}

-- a part at offset `at` with all tags is one at offset s with those from a level on
pub record IsOnWay (o : Octets) (at : ℕ) (tags : List Tag) (level s : ℕ) : Type 0 where
  pub on : (c : Bool) (a : ℕ) (x : Octets) → PartFrom o at tags c a x → PartFrom o s (drop level tags) c a x
  pub back : (c : Bool) (a : ℕ) (x : Octets) → PartFrom o s (drop level tags) c a x → PartFrom o at tags c a x

pub way_first : (o : Octets) (at : ℕ) (tags : List Tag) → IsOnWay o at tags 0 at
way_first o at tags = record { on = λ c a x p. p; back = λ c a x p. p }

pub drop_next : (tags : List Tag) (i : ℕ) (t : Tag) → i < length tags → t ≡ get_or tags i t → drop i tags ≡ t ∷ drop (i + 1) tags
drop_next tags i t l e = drop-cons tags i t l ∙ ap (λ y. y ∷ drop (suc i) tags) (sym e) ∙ ap (λ y. t ∷ drop y tags) (sym (add-one i))

no_part : {o : Octets} {s : ℕ} → HasNoHeader (drop s o) → (tags : List Tag) (c : Bool) (a : ℕ) (x : Octets) → PartFrom o s tags c a x → ⊥
no_part h tags c a x (last {n = n} {k = k} {t = t} g e q) = h t c n k g
no_part h tags c a x (outer {n = n} {k = k} {d = d} {t = t} g p) = h t d n k g

pub part_without : {o : Octets} {at : ℕ} {tags : List Tag} {level s : ℕ}
    → IsOnWay o at tags level s
    → HasNoHeader (drop s o)
    → (c : Bool) (a : ℕ) (x : Octets) → PartFrom o at tags c a x → ⊥
part_without {tags = tags} {level = level} w h c a x p = no_part h (drop level tags) c a x (w.on c a x p)

other_part : OneHeader
    → {o : Octets} {s n k : ℕ} {u t : Tag} {d : Bool}
    → HeaderAt u d n k (drop s o)
    → (u ≡ t → ⊥)
    → (ts : List Tag) (c : Bool) (a : ℕ) (x : Octets) → PartFrom o s (t ∷ ts) c a x → ⊥
other_part one {o} {s} {n} {k} {u} {t} {d} h e ts c a x (last {n = m} {k = j} g q r) =
    e (one u t d c n m k j (drop s o) h g).0
other_part one {o} {s} {n} {k} {u} {t} {d} h e ts c a x (outer {n = m} {k = j} {d = b} g p) =
    e (one u t d b n m k j (drop s o) h g).0

pub part_other : OneHeader
    → {o : Octets} {at : ℕ} {tags : List Tag} {level s n k : ℕ} {u t : Tag} {d : Bool}
    → IsOnWay o at tags level s
    → HeaderAt u d n k (drop s o)
    → level < length tags
    → t ≡ get_or tags level t
    → (u ≡ t → ⊥)
    → (c : Bool) (a : ℕ) (x : Octets) → PartFrom o at tags c a x → ⊥
part_other one {o} {at} {tags} {level} {s} {t = t} w h l g e c a x p =
    other_part one h e (drop (level + 1) tags) c a x
    (subst (λ y. PartFrom o s y c a x) (drop_next tags level t l g) (w.on c a x p))

part_of_none : {o : Octets} {s : ℕ} (ts : List Tag) → ts ≡ [] → (c : Bool) (a : ℕ) (x : Octets) → PartFrom o s ts c a x → ⊥
part_of_none ts e c a x (last g q r) = absurd cc
part_of_none ts e c a x (outer g p) = absurd cc

pub part_end : {o : Octets} {at : ℕ} {tags : List Tag} {level s : ℕ}
    → IsOnWay o at tags level s
    → length tags ≤ level
    → (c : Bool) (a : ℕ) (x : Octets) → PartFrom o at tags c a x → ⊥
part_end {tags = tags} {level = level} w l c a x p =
    part_of_none (drop level tags) (drop_all level tags l) c a x (w.on c a x p)

-- the contents octets after the last header
pub part_found : {o : Octets} {at : ℕ} {tags : List Tag} {level s n k : ℕ} {u t : Tag} {d e : Bool} {x : Octets} (b : ℕ)
    → IsOnWay o at tags level s
    → HeaderAt u d n k (drop s o)
    → level + 1 ≡ length tags
    → t ≡ get_or tags level t
    → u ≡ t
    → b ≡ s + k
    → e ≡ d
    → x ≡ take n (drop b o)
    → PartFrom o at tags e b x
part_found {o} {at} {tags} {level} {s} {n} {k} {u} {t} {d} {e} {x} b w h l g v q r z =
    let one : drop level tags ≡ t ∷ [] =
    drop_next tags level t (omega (arith, l)) g
    ∙ ap (λ y. t ∷ y) (drop_all (level + 1) tags (omega (arith, l))) in
    let f = subst (λ y. HeaderAt y d n k (drop s o)) v h in
    let p = last f (sym q) z in
    subst (λ y. PartFrom o at tags y b x) (sym r)
    (w.back d b x (subst (λ y. PartFrom o s y d b x) (sym one) p))

to_next : OneHeader
    → {o : Octets} {s n k : ℕ} {u t v : Tag} {d : Bool} {ts : List Tag}
    → HeaderAt u d n k (drop s o)
    → (c : Bool) (a : ℕ) (x : Octets) → PartFrom o s (t ∷ v ∷ ts) c a x → PartFrom o (s + k) (v ∷ ts) c a x
to_next one {o} {s} {n} {k} {u} {t} {v} {d} {ts} h c a x (outer {n = m} {k = j} {d = b} g p) =
    let q = (one u t d b n m k j (drop s o) h g).3 in
    subst (λ y. PartFrom o (s + y) (v ∷ ts) c a x) (sym q) p

-- the tags from a level on, of which there are at least two
from_level : (ts : List Tag) → 1 ≤ length ts → (v : Tag) × (us : List Tag) × (ts ≡ v ∷ us)
from_level [] l = absurd (omega arith)
from_level (v ∷ us) l = (v, us, refl)

pub way_next : OneHeader
    → {o : Octets} {at : ℕ} {tags : List Tag} {level s n k z : ℕ} {u t : Tag} {d : Bool}
    → IsOnWay o at tags level s
    → HeaderAt u d n k (drop s o)
    → level + 1 < length tags
    → t ≡ get_or tags level t
    → u ≡ t
    → z ≡ s + k
    → IsOnWay o at tags (level + 1) z
way_next one {o} {at} {tags} {level} {s} {n} {k} {z} {u} {t} {d} w h l g v q =
    let e = drop_next tags level t (omega arith) g in
    let more = from_level (drop (level + 1) tags) (let i = length-drop (level + 1) tags in omega (arith, l, i)) in
    let f = e ∙ ap (λ y. t ∷ y) more.2 in
    let h' = subst (λ y. HeaderAt y d n k (drop s o)) v h in
    record {
      on = λ c a x p. subst (λ y. PartFrom o y (drop (level + 1) tags) c a x) (sym q)
          (subst (λ y. PartFrom o (s + k) y c a x) (sym more.2)
          (to_next one h c a x (subst (λ y. PartFrom o s y c a x) f (w.on c a x p))));
      back = λ c a x p. w.back c a x (subst (λ y. PartFrom o s y c a x) (sym f)
          (outer h' (subst (λ y. PartFrom o (s + k) y c a x) more.2
          (subst (λ y. PartFrom o y (drop (level + 1) tags) c a x) q p))));
    }
