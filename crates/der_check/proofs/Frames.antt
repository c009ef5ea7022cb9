-- Octets in headers have one contents, and primitive contents break one rule at most.
use Rattle.std.proofs.Common.{arith, ◌≡◌, ℕ, ◌≤◌, Bool, true, false, List, [], ◌∷◌, length, refl, sym, subst, ◌∙◌, length-append}
use Rattle.asn_base.specs.declared.tag.Tag.{Tag}
use Rattle.asn_base.specs.Abstract.{AbstractValue}
use Rattle.asn_base.specs.Types.{Kind, Resolved}
use Rattle.encodings.specs.Header.{FewestOctets}
use Rattle.encodings.specs.Rules.{Rules, Basic, Distinguished}
use Rattle.encodings.specs.Encoding.{Framed, bare, innermost, outer}
use Rattle.der_check.specs.declared.rule.RuleOfDer.{RuleOfDer}
use Rattle.der_check.specs.Broken.{HasLongHeader, long_innermost, long_outer, long_within, HasInnermost, innermost_first, innermost_within, PrimitiveBreaks, other_true, one_unused, one_unused_named, zero_last, ContentsBreak, by_primitive, in_sequence, in_set, by_tag, in_sequence_of, in_set_of, by_element, in_choice}
use Rattle.der_check.specs.Strict.{form_of}
use Rattle.der_check.proofs.KindParts.{frames_contents}
use Rattle.encodings.specs.proving.LeafForms.{bare_is}
use Rattle.der_check.proofs.Split.{HeadersApart}

-- ---- headers

pub long_not : HeadersApart → {tags : List Tag} {c d : Bool} {x y o p : List ℕ} {n : ℕ} → HasLongHeader tags c x o n → Framed Distinguished tags d y p → o ≡ p → ⊥
long_not law (long_innermost {t = t} {c = c} {h = h} {x = x} a few) (innermost {c = d} {h = g} {x = y} b) e =
    let r = law t t c d (length x) (length y) h g x y a b.header e in
    few (subst (FewestOctets t c (length x)) (sym r.3) (subst (λ q. FewestOctets t c q g) (sym r.2) (subst (λ q. FewestOctets t q (length y) g) (sym r.1) b.fewest)))
long_not law (long_outer {t = t} {h = h} {y = z} fr a few) (outer {h = g} {y = y} f b) e =
    let r = law t t true true (length z) (length y) h g z y a b.header e in
    few (subst (FewestOctets t true (length z)) (sym r.3) (subst (λ q. FewestOctets t true q g) (sym r.2) b.fewest))
long_not law (long_within {t = t} {h = h} {y = z} l a) (outer {h = g} {y = y} f b) e =
    long_not law l f (law t t true true (length z) (length y) h g z y a b.header e).4

pub one_form : HeadersApart → {tags : List Tag} {c d : Bool} {x y o p : List ℕ} {n : ℕ} → HasInnermost tags c x o n → Framed Distinguished tags d y p → o ≡ p → c ≡ d
one_form law (innermost_first {t = t} {c = c} {h = h} {x = x} a) (innermost {c = d} {h = g} {x = y} b) e = (law t t c d (length x) (length y) h g x y a b.header e).1
one_form law (innermost_within {t = t} {h = h} {y = z} l a) (outer {h = g} {y = y} f b) e = one_form law l f (law t t true true (length z) (length y) h g z y a b.header e).4

pub one_contents : HeadersApart → {q r : Rules} (tags : List Tag) {c d : Bool} {x y o : List ℕ} → Framed q tags c x o → Framed r tags d y o → x ≡ y
one_contents law [] f g = sym (bare_is f) ∙ bare_is g
one_contents law (t ∷ ts) f g = (frames_contents law f g refl).inside

-- ---- contents

primitive_form : {k : Kind} {v : AbstractValue} {x : List ℕ} {r : RuleOfDer} {n : ℕ} → PrimitiveBreaks k v x r n → false ≡ form_of k
primitive_form (other_true a b e) = refl
primitive_form (one_unused w f) = refl
primitive_form (one_unused_named w f) = refl
primitive_form (zero_last w f e) = refl

pub breaks_form : {s : List Resolved} {k : Kind} {v : AbstractValue} {c : Bool} {x : List ℕ} {r : RuleOfDer} {n : ℕ} → ContentsBreak s k v c x r n → c ≡ form_of k
breaks_form (by_primitive p) = primitive_form p
breaks_form (in_sequence ms u h b) = refl
breaks_form (in_set ms p u m h a b) = refl
breaks_form (by_tag ms p u m f a) = refl
breaks_form (in_sequence_of es h b) = refl
breaks_form (in_set_of es h b) = refl
breaks_form (by_element es f) = refl
breaks_form (in_choice at b) = refl

-- all rules that primitive contents may break are broken at one octet
pub primitive_first : {k : Kind} {v : AbstractValue} {x : List ℕ} {r q : RuleOfDer} {n m : ℕ} → PrimitiveBreaks k v x r n → PrimitiveBreaks k v x q m → n ≤ m
primitive_first (other_true a b e) (other_true a' b' e') = omega arith
primitive_first (one_unused w f) (one_unused w' f') = omega arith
primitive_first (one_unused_named w f) (one_unused_named w' f') = omega arith
primitive_first (one_unused_named w f) (zero_last w' f' e') = omega arith
primitive_first (zero_last w f e) (one_unused_named w' f') = omega arith
primitive_first (zero_last w f e) (zero_last w' f' e') = omega arith

-- ---- headers around contents

pub long_framed : {tags : List Tag} {c : Bool} {x o : List ℕ} {n : ℕ} → HasLongHeader tags c x o n → Framed Basic tags c x o
long_framed (long_innermost a f) = innermost (record { header = a; fewest = tt })
long_framed (long_outer fr a f) = outer fr (record { header = a; fewest = tt })
long_framed (long_within l a) = outer (long_framed l) (record { header = a; fewest = tt })

pub innermost_framed : {tags : List Tag} {c : Bool} {x o : List ℕ} {n : ℕ} → HasInnermost tags c x o n → Framed Basic tags c x o
innermost_framed (innermost_first a) = innermost (record { header = a; fewest = tt })
innermost_framed (innermost_within l a) = outer (innermost_framed l) (record { header = a; fewest = tt })

-- the same contents in the same form
pub long_same : HeadersApart → (tags : List Tag) {c d : Bool} {x y o : List ℕ} {n : ℕ} → HasLongHeader tags c x o n → Framed Basic tags d y o → HasLongHeader tags d y o n
long_same law [] l f = elim l [ ]
long_same law (t ∷ ts) {c} {d} {x} {y} {o} {n} l f =
    let e = frames_contents law (long_framed l) f refl in
    subst (λ q. HasLongHeader (t ∷ ts) d q o n) e.inside (subst (λ q. HasLongHeader (t ∷ ts) q x o n) e.forms l)

pub innermost_same : HeadersApart → (tags : List Tag) {c d : Bool} {x y o : List ℕ} {n : ℕ} → HasInnermost tags c x o n → Framed Basic tags d y o → (c ≡ d) × HasInnermost tags d y o n
innermost_same law [] l f = elim l [ ]
innermost_same law (t ∷ ts) {c} {d} {x} {y} {o} {n} l f =
    let e = frames_contents law (innermost_framed l) f refl in
    (e.forms, subst (λ q. HasInnermost (t ∷ ts) d q o n) e.inside (subst (λ q. HasInnermost (t ∷ ts) q x o n) e.forms l))

pub framed_inner : {r : Rules} {tags : List Tag} {c : Bool} {x o : List ℕ} → Framed r tags c x o → length x ≤ length o
framed_inner bare = omega arith
framed_inner {x = x} (innermost {h = h} a) = let l = length-append h x in omega (arith, l)
framed_inner (outer {h = h} {y = y} f a) = let i = framed_inner f in let l = length-append h y in omega (arith, i, l)
