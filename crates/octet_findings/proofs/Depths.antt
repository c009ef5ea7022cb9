-- Headers that have an octet, on the way from offset 0.
use Rattle.std.proofs.Common.{arith, ◌≡◌, ℕ, zero, suc, ◌+◌, ◌<◌, ◌≤◌, Bool, length, drop, refl, sym, ap, subst, ◌∙◌}
use Rattle.asn_base.specs.declared.tag.Tag.{Tag}
use Rattle.encodings.specs.Header.{Octets}
use Rattle.octets.specs.Fronts.{HeaderAt}
use Rattle.octet_findings.specs.Places.{HasContentsDepth, HasDepth, HeaderFrom, a_header, at_header, in_contents}
use Rattle.octet_findings.specs.Places.{no_contents, no_header, past_encoding, some_contents}
use Rattle.octet_findings.specs.Tags.{HasNoHeader}
use Rattle.octet_findings.proofs.Fronts.{header_some, header_within}
use Rattle.octet_findings.proofs.Leaves.{OneHeader}

-- the way to an octet is at offset s, within n encodings
pub record HasEntered (o : Octets) (at n s : ℕ) : Type 0 where
  pub on : (h e d : ℕ) → HeaderFrom o at h e 0 d → (b : ℕ) × (d ≡ n + b) × HeaderFrom o at h e s b
  pub back : (h e b : ℕ) → HeaderFrom o at h e s b → HeaderFrom o at h e 0 (n + b)

same_depth : {o : Octets} {at h e s d b : ℕ} → d ≡ b → HeaderFrom o at h e s d → HeaderFrom o at h e s b
same_depth {o} {at} {h} {e} {s} q f = subst (λ y. HeaderFrom o at h e s y) q f

same_start : {o : Octets} {at h e s z d : ℕ} → s ≡ z → HeaderFrom o at h e s d → HeaderFrom o at h e z d
same_start {o} {at} {h} {e} {d = d} q f = subst (λ y. HeaderFrom o at h e y d) q f

pub entered_first : (o : Octets) (at : ℕ) → HasEntered o at 0 0
entered_first o at = record {
  on = λ h e d f. (d, omega arith, f);
  back = λ h e b f. same_depth (omega arith) f;
}

-- no header is at s
no_way : {o : Octets} {at h e s d : ℕ} → HasNoHeader (drop s o) → HeaderFrom o at h e s d → ⊥
no_way q (at_header {n = n} {k = k} {c = c} {t = t} g a b l) = q t c n k g
no_way q (in_contents {n = n} {k = k} {c = c} {t = t} g a b f) = q t c n k g
no_way q (past_encoding {n = n} {k = k} {c = c} {t = t} g a f) = q t c n k g

-- the octet is in no header, since none is at s
pub none_here : {o : Octets} {at n s : ℕ}
    → HasEntered o at n s
    → HasNoHeader (drop s o)
    → (h e d : ℕ) → HeaderFrom o at h e 0 d → ⊥
none_here w q h e d f = no_way q (w.on h e d f).2

-- it is in none, since s is past the octets
pub none_left : {o : Octets} {at n s : ℕ}
    → HasEntered o at n s
    → length o ≤ s
    → (h e d : ℕ) → HeaderFrom o at h e 0 d → ⊥
none_left {o} {at} {n} {s} w l = none_here w (λ u c m k g.
    let i = header_within o s g in
    let j = header_some g in
    absurd (omega (arith, l, i, j)))

-- it is in the header at s
pub header_found : {o : Octets} {at n s m k h e : ℕ} {c : Bool} {t : Tag}
    → HasEntered o at n s
    → HeaderAt t c m k (drop s o)
    → h ≡ s
    → e ≡ s + k
    → at < e
    → HeaderFrom o at h e 0 n
header_found {h = h} {e = e} w g p q l = same_depth (omega arith) (w.back h e zero (at_header g p q l))

-- from a header at s on to the contents octets, which have the octet
into : OneHeader
    → {o : Octets} {at s m k h e d : ℕ} {c : Bool} {t : Tag}
    → HeaderAt t c m k (drop s o)
    → s + k ≤ at
    → at < s + k + m
    → HeaderFrom o at h e s d
    → (b : ℕ) × (d ≡ suc b) × HeaderFrom o at h e (s + k) b
into one {o} {at} {s} {m} {k} {c = c} {t = t} g l r (at_header {n = i} {k = j} {c = v} {t = u} f p q z) =
    let a = (one t u c v m i k j (drop s o) g f).3 in
    absurd (omega (arith, a, l, q, z))
into one {o} {at} {s} {m} {k} {c = c} {t = t} g l r (in_contents {n = i} {k = j} {d = b} {c = v} {t = u} f p q w) =
    let a = (one t u c v m i k j (drop s o) g f).3 in
    (b, refl, same_start (omega (arith, a)) w)
into one {o} {at} {s} {m} {k} {c = c} {t = t} g l r (past_encoding {n = i} {k = j} {c = v} {t = u} f p w) =
    let y = one t u c v m i k j (drop s o) g f in
    let a = y.3 in
    let b = y.2 in
    absurd (omega (arith, a, b, r, p))

-- from a header at s on to the next encoding, since its own ends before the octet
past : OneHeader
    → {o : Octets} {at s m k h e d : ℕ} {c : Bool} {t : Tag}
    → HeaderAt t c m k (drop s o)
    → s + k + m ≤ at
    → HeaderFrom o at h e s d
    → HeaderFrom o at h e (s + k + m) d
past one {o} {at} {s} {m} {k} {c = c} {t = t} g l (at_header {n = i} {k = j} {c = v} {t = u} f p q z) =
    let a = (one t u c v m i k j (drop s o) g f).3 in
    absurd (omega (arith, a, l, q, z))
past one {o} {at} {s} {m} {k} {c = c} {t = t} g l (in_contents {n = i} {k = j} {c = v} {t = u} f p q w) =
    let y = one t u c v m i k j (drop s o) g f in
    let a = y.3 in
    let b = y.2 in
    absurd (omega (arith, a, b, l, q))
past one {o} {at} {s} {m} {k} {c = c} {t = t} g l (past_encoding {n = i} {k = j} {c = v} {t = u} f p w) =
    let y = one t u c v m i k j (drop s o) g f in
    let a = y.3 in
    let b = y.2 in
    same_start (omega (arith, a, b)) w

pub entered_contents : OneHeader
    → {o : Octets} {at n s m k l z : ℕ} {c : Bool} {t : Tag}
    → HasEntered o at n s
    → HeaderAt t c m k (drop s o)
    → s + k ≤ at
    → at < s + k + m
    → z ≡ s + k
    → l ≡ n + 1
    → HasEntered o at l z
entered_contents one w g i r q v = record {
  on = λ h e d f.
      let a = w.on h e d f in
      let b = into one g i r a.2 in
      let p = a.1 in
      let y = b.1 in
      (b.0, omega (arith, p, y, v), same_start (sym q) b.2);
  back = λ h e b f. same_depth (omega (arith, v)) (w.back h e (suc b) (in_contents g i r (same_start q f)));
}

pub entered_next : OneHeader
    → {o : Octets} {at n s m k l z : ℕ} {c : Bool} {t : Tag}
    → HasEntered o at n s
    → HeaderAt t c m k (drop s o)
    → s + k + m ≤ at
    → z ≡ s + k + m
    → l ≡ n
    → HasEntered o at l z
entered_next one w g i q v = record {
  on = λ h e d f.
      let a = w.on h e d f in
      let p = a.1 in
      (a.0, omega (arith, p, v), same_start (sym q) (past one g i a.2));
  back = λ h e b f. same_depth (omega (arith, v)) (w.back h e b (past_encoding g i (same_start q f)));
}

-- the octet is in the header at s
only_here : OneHeader
    → {o : Octets} {at s m k h e d : ℕ} {c : Bool} {t : Tag}
    → HeaderAt t c m k (drop s o)
    → at < s + k
    → HeaderFrom o at h e s d
    → (h ≡ s) × (e ≡ s + k)
only_here one {o} {at} {s} {m} {k} {c = c} {t = t} g l (at_header {n = i} {k = j} {c = v} {t = u} f p q z) =
    let a = (one t u c v m i k j (drop s o) g f).3 in
    (p, q ∙ ap (λ y. s + y) (sym a))
only_here one {o} {at} {s} {m} {k} {c = c} {t = t} g l (in_contents {n = i} {k = j} {c = v} {t = u} f p q w) =
    let a = (one t u c v m i k j (drop s o) g f).3 in
    absurd (omega (arith, a, l, p))
only_here one {o} {at} {s} {m} {k} {c = c} {t = t} g l (past_encoding {n = i} {k = j} {c = v} {t = u} f p w) =
    let a = (one t u c v m i k j (drop s o) g f).3 in
    absurd (omega (arith, a, l, p))

-- an octet is in one header at most
one_around : OneHeader
    → {o : Octets} {at h e s d i f b : ℕ}
    → HeaderFrom o at h e s d
    → HeaderFrom o at i f s b
    → (i ≡ h) × (f ≡ e)
one_around one (at_header g p q l) y =
    let a = only_here one g (omega (arith, q, l)) y in
    (a.0 ∙ sym p, a.1 ∙ sym q)
one_around one (in_contents g l r w) y = one_around one w (into one g l r y).2
one_around one (past_encoding g l w) y = one_around one w (past one g l y)

pub depth_there : {o : Octets} {at h e d : ℕ} → HeaderFrom o at h e 0 d → h ≡ at → HasDepth o at d
depth_there {o} {at} {h} {e} {d} f q = a_header (subst (λ y. HeaderFrom o at y e 0 d) q f)

pub depth_nowhere : OneHeader
    → {o : Octets} {at h e d : ℕ}
    → HeaderFrom o at h e 0 d
    → (h ≡ at → ⊥)
    → HasDepth o at 0
depth_nowhere one f q = no_header (λ e b g. q (sym (one_around one f g).0)) refl

pub contents_there : {o : Octets} {at i h e d : ℕ}
    → at ≡ i + 1
    → HeaderFrom o i h e 0 d
    → e ≡ at
    → HasContentsDepth o at (d + 1)
contents_there {o} {at} {i} {h} {e} {d} l f q = some_contents l (subst (λ y. HeaderFrom o i h y 0 d) q f) refl

pub contents_nowhere : OneHeader
    → {o : Octets} {at i h e d : ℕ}
    → at ≡ i + 1
    → HeaderFrom o i h e 0 d
    → (e ≡ at → ⊥)
    → HasContentsDepth o at 0
contents_nowhere one {o} {at} {i} {h} {e} {d} l f q = no_contents (λ j g b p w.
    let r : j ≡ i = omega (arith, l, p) in
    q (sym (one_around one f (subst (λ y. HeaderFrom o y g at 0 b) r w)).1)) refl
