-- Primitive contents octets on the way from offset 0.
use Rattle.std.proofs.Common.{arith, ◌≡◌, inl, inr, ℕ, ◌+◌, ◌<◌, ◌≤◌, Bool, true, false, List, length, drop, take, refl, sym, ap, subst, ◌∙◌}
use Rattle.std.proofs.lemmas.Bool.{cases_lt}
use Rattle.asn_base.specs.declared.tag.Tag.{Tag}
use Rattle.encodings.specs.Header.{Octets}
use Rattle.octets.specs.Fronts.{HeaderAt}
use Rattle.octet_findings.specs.Places.{LeafFrom, here, within, after}
use Rattle.octet_findings.specs.Tags.{HasNoHeader}
use Rattle.octet_findings.proofs.Fronts.{header_some, header_within}

-- at most one header is at the start of octets
abbrev pub OneHeader : Type 0
OneHeader = (t u : Tag) (c d : Bool) (n m k j : ℕ) (o : List ℕ)
    → HeaderAt t c n k o
    → HeaderAt u d m j o
    → (t ≡ u) × (c ≡ d) × (n ≡ m) × (k ≡ j)

-- contents octets from offset s on are those from offset 0 on
pub record AreSame (o : Octets) (at s : ℕ) : Type 0 where
  pub on : (t : Tag) (x : Octets) → LeafFrom o at 0 t x → LeafFrom o at s t x
  pub back : (t : Tag) (x : Octets) → LeafFrom o at s t x → LeafFrom o at 0 t x

pub same_first : (o : Octets) (at : ℕ) → AreSame o at 0
same_first o at = record { on = λ t x f. f; back = λ t x f. f }

-- contents start after the offset that leads to them
pub leaf_later : {o : Octets} {at s : ℕ} {t : Tag} {x : Octets} → LeafFrom o at s t x → s < at
leaf_later (here h e q) = let k = header_some h in omega (arith, e, k)
leaf_later (within h l f) = let k = header_some h in let m = leaf_later f in omega (arith, k, m)
leaf_later (after h l f) = let k = header_some h in omega (arith, k, l)

pub leaf_none : {o : Octets} {at s : ℕ} → HasNoHeader (drop s o) → (t : Tag) (x : Octets) → LeafFrom o at s t x → ⊥
leaf_none e t x (here {n = n} {k = k} {t = u} h p q) = e u false n k h
leaf_none e t x (within {n = n} {k = k} {u = u} h l f) = e u true n k h
leaf_none e t x (after {n = n} {k = k} {c = c} {u = u} h l f) = e u c n k h

-- none are after the octets
pub leaf_past : (o : Octets) (at s : ℕ) → length o ≤ s → (t : Tag) (x : Octets) → LeafFrom o at s t x → ⊥
leaf_past o at s l = leaf_none (λ u c n k h.
    let w = header_within o s h in
    let m = header_some h in
    absurd (omega (arith, l, w, m)))

pub leaf_at_next : {o : Octets} {at s z : ℕ} {t : Tag} {x : Octets} → s ≡ z → LeafFrom o at s t x → LeafFrom o at z t x
leaf_at_next {o} {at} {t = t} {x = x} e f = subst (λ y. LeafFrom o at y t x) e f

-- from a header at s on to the next one
pub step_on : OneHeader
    → {o : Octets} {at s n k z : ℕ} {u : Tag} {c : Bool}
    → HeaderAt u c n k (drop s o)
    → (c ≡ false → s + k ≡ at → ⊥)
    → (c ≡ true → at ≤ s + k + n → z ≡ s + k)
    → (s + k + n < at → z ≡ s + k + n)
    → (t : Tag) (x : Octets) → LeafFrom o at s t x → LeafFrom o at z t x
step_on one {o} {at} {s} {n} {k} {z} {u} {c} h not_here into past t x (here {n = m} {k = j} {t = v} g e q) =
    let a = one u v c false n m k j (drop s o) h g in
    absurd (not_here a.1 (ap (λ y. s + y) a.3 ∙ e))
step_on one {o} {at} {s} {n} {k} {z} {u} {c} h not_here into past t x (within {n = m} {k = j} {u = v} g l f) =
    let a = one u v c true n m k j (drop s o) h g in
    let p = a.2 in
    let q = a.3 in
    let i = into a.1 (omega (arith, l, p, q)) in
    leaf_at_next (omega (arith, i, q)) f
step_on one {o} {at} {s} {n} {k} {z} {u} {c} h not_here into past t x (after {n = m} {k = j} {c = d} {u = v} g l f) =
    let a = one u v c d n m k j (drop s o) h g in
    let p = a.2 in
    let q = a.3 in
    let i = past (omega (arith, l, p, q)) in
    leaf_at_next (omega (arith, i, p, q)) f

pub step_back : {o : Octets} {at s n k z : ℕ} {u : Tag} {c : Bool}
    → HeaderAt u c n k (drop s o)
    → (c ≡ true → at ≤ s + k + n → z ≡ s + k)
    → (s + k + n < at → z ≡ s + k + n)
    → (c ≡ false → z ≡ s + k + n)
    → (t : Tag) (x : Octets) → LeafFrom o at z t x → LeafFrom o at s t x
step_back {o} {at} {s} {n} {k} {z} {u} {c = false} h into past other t x f =
    let e = other refl in
    let l = leaf_later f in
    after h (omega (arith, e, l)) (leaf_at_next e f)
step_back {o} {at} {s} {n} {k} {z} {u} {c = true} h into past other t x f =
    elim (cases_lt (s + k + n) at) [
      | inl l ↦ after h l (leaf_at_next (past l) f)
      | inr l ↦ within h l (leaf_at_next (into refl l) f)
    ]

pub same_next : OneHeader
    → {o : Octets} {at s n k z : ℕ} {u : Tag} {c : Bool}
    → AreSame o at s
    → HeaderAt u c n k (drop s o)
    → (c ≡ false → s + k ≡ at → ⊥)
    → (c ≡ true → at ≤ s + k + n → z ≡ s + k)
    → (s + k + n < at → z ≡ s + k + n)
    → (c ≡ false → z ≡ s + k + n)
    → AreSame o at z
same_next one a h not_here into past other = record {
  on = λ t x f. step_on one h not_here into past t x (a.on t x f);
  back = λ t x f. a.back t x (step_back h into past other t x f);
}

pub none_from : {o : Octets} {at s : ℕ}
    → AreSame o at s
    → ((t : Tag) (x : Octets) → LeafFrom o at s t x → ⊥)
    → (t : Tag) (x : Octets) → LeafFrom o at 0 t x → ⊥
none_from a e t x f = e t x (a.on t x f)

-- no contents octets, since no header is at s
pub none_without : {o : Octets} {at s : ℕ}
    → AreSame o at s
    → HasNoHeader (drop s o)
    → (t : Tag) (x : Octets) → LeafFrom o at 0 t x → ⊥
none_without a h = none_from a (leaf_none h)

-- none, since s is past the offset
pub none_before : {o : Octets} {at s : ℕ}
    → AreSame o at s
    → at < s
    → (t : Tag) (x : Octets) → LeafFrom o at 0 t x → ⊥
none_before a l = none_from a (λ t x f. let m = leaf_later f in absurd (omega (arith, l, m)))

-- none, since s is past the octets
pub none_at_end : {o : Octets} {at s : ℕ}
    → AreSame o at s
    → length o ≤ s
    → (t : Tag) (x : Octets) → LeafFrom o at 0 t x → ⊥
none_at_end {o} {at} {s} a l = none_from a (leaf_past o at s l)

-- the contents octets after the primitive header at s
pub found_here : {o : Octets} {at s n k : ℕ} {t u : Tag} {c : Bool} {x : Octets} (b : ℕ)
    → AreSame o at s
    → HeaderAt t c n k (drop s o)
    → c ≡ false
    → s + k ≡ at
    → b ≡ s + k
    → u ≡ t
    → x ≡ take n (drop b o)
    → LeafFrom o at 0 u x
found_here {o} {at} {s} {n} {k} {t} {u} {c} {x} b a h p e g v q =
    let w = subst (λ y. HeaderAt t y n k (drop s o)) p h in
    let z = subst (λ y. HeaderAt y false n k (drop s o)) (sym v) w in
    a.back u x (here z e (q ∙ ap (λ y. take n (drop y o)) (g ∙ e)))
