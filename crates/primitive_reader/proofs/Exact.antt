-- Contents octets have one value or one fault, and never both.
use Rattle.std.proofs.Common.{arith, ◌≡◌, ℕ, ℤ, ◌+◌, ◌*◌, ◌<◌, ◌≤◌, Bool, false, List, [], ◌∷◌, ◌++◌, length, refl, sym, ap, subst, ◌∙◌, ⊎_elim, length-append}
use Rattle.std.specs.Prelude.{flat_map, IfErr, IfOk, IsOk, Result, Ok, Err}
use Rattle.std.proofs.lemmas.Bool.{cases_lt}
use Rattle.asn_base.specs.Abstract.{AbstractValue, integer, enumerated, bits, octets, text, oid, relative_oid, bits_of_octet}
use Rattle.asn_base.specs.Typed.{IsWithinLimit, IsObjectIdentifier, arcs, IsRelativeOid}
use Rattle.encodings.specs.Rules.{Basic}
use Rattle.encodings.specs.Strings.{WholeBits, whole_bits, whole}
use Rattle.encodings.specs.Contents.{Number, Contents, joined, of_false, of_true, of_integer, of_enumerated, of_bits, of_named_bits, of_octets, of_null, of_oid, of_relative_oid, of_utf8, of_restricted}
use Rattle.encodings.specs.declared.leaf_kind.LeafKind.{LeafKind}
use Rattle.encodings.specs.declared.leaf_kind.LeafKind.TheVariants as kinds
use Rattle.encodings.specs.Leaves.{plain}
use Rattle.primitive_reader.specs.declared.fault.LeafFault.{LeafFault}
use Rattle.primitive_reader.specs.declared.leaf.Leaf.{Leaf}
use Rattle.primitive_reader.specs.Leaves.{Suits, IsReadAs, ReadsContents}
use Rattle.primitive_reader.specs.Refused.{AreNumbers, HasForm, IsRightFault, without_form, integer_past, enumerated_past, oid_past, relative_past}
use Rattle.primitive_reader.proofs.Lists.{eight_each, head_same, tail_same}
use Rattle.primitive_reader.proofs.Spelling.{one_list}
use Rattle.primitive_reader.specs.proving.Shortest.{one_worth}

-- ---- numbers

one_number : {z y : ℤ} {o : List ℕ} → Number z o → Number y o → z ≡ y
one_number a b = one_worth a.is b.is

-- ---- bits

pub front_same : (s t f g : List Bool) → s ++ f ≡ t ++ g → length s ≡ length t → s ≡ t
front_same [] [] f g e l = refl
front_same [] (b ∷ t) f g e l = absurd (omega arith)
front_same (a ∷ s) [] f g e l = absurd (omega arith)
front_same (a ∷ s) (b ∷ t) f g e l =
    let h : a ≡ b = cc in
    let i : s ++ f ≡ t ++ g = cc in
    ap (λ q. q ∷ s) h ∙ ap (λ q. b ∷ q) (front_same s t f g i (omega arith))

one_bits : (s t : List Bool) (o : List ℕ) → WholeBits s o → WholeBits t o → s ≡ t
one_bits s t o v w =
    let u : v.unused ≡ w.unused = head_same (sym v.is ∙ w.is) in
    let p : v.octets ≡ w.octets = tail_same (sym v.is ∙ w.is) in
    let e : s ++ v.filling ≡ t ++ w.filling = sym v.bits ∙ ap (flat_map bits_of_octet) p ∙ w.bits in
    front_same s t v.filling w.filling e
    (omega (arith, u, ap length p, ap length v.bits, ap length w.bits, eight_each v.octets, eight_each w.octets, length-append s v.filling, length-append t w.filling, v.as_many, w.as_many))

-- ---- the first two numbers of an OBJECT IDENTIFIER

not_less : (x y z w : ℕ) → (x < 2 → y < 40) → z ≤ 2 → 40 * x + y ≡ 40 * z + w → x < z → ⊥
not_less x y z w h l e lt = let k : y < 40 = h (omega arith) in omega (arith, k, e, lt)

one_oid : {ns ms : List ℕ} → IsObjectIdentifier ns → IsObjectIdentifier ms → joined ns ≡ joined ms → ns ≡ ms
one_oid (arcs {x = x} {y = y} {zs = zs} a b c d f) (arcs {x = z} {y = w} {zs = us} a' b' c' d' f') e =
    let n : 40 * x + y ≡ 40 * z + w = head_same e in
    let t : zs ≡ us = tail_same e in
    let i : x ≡ z = ⊎_elim (λ lt. absurd (not_less x y z w b a' n lt)) (λ ge. ⊎_elim (λ lt. absurd (not_less z w x y b' a (sym n) lt)) (λ le. omega (arith, ge, le)) (cases_lt z x)) (cases_lt x z) in
    let j : y ≡ w = omega (arith, i, n) in
    ap (λ q. q ∷ y ∷ zs) i ∙ ap (λ q. z ∷ q ∷ zs) j ∙ ap (λ q. z ∷ w ∷ q) t

-- ---- one value

one_contents : (k : LeafKind) (v w : AbstractValue) (x y : List ℕ) → Contents Basic (plain k) v false x → Contents Basic (plain k) w false y → x ≡ y → v ≡ w
one_contents kinds.Boolean v w x y of_false of_false e = refl
one_contents kinds.Boolean v w x y of_false (of_true p q r) e = absurd (let h = head_same e in omega (arith, p, h))
one_contents kinds.Boolean v w x y (of_true p q r) of_false e = absurd (let h = head_same e in omega (arith, p, h))
one_contents kinds.Boolean v w x y (of_true p q r) (of_true p' q' r') e = refl
one_contents kinds.Integer v w x y (of_integer {z = z} a) (of_integer b) e = ap integer (one_number (subst (λ q. Number z q) e a) b)
one_contents kinds.Enumerated v w x y (of_enumerated {z = z} a) (of_enumerated b) e = ap enumerated (one_number (subst (λ q. Number z q) e a) b)
one_contents kinds.BitString v w x y (of_bits {s = s} (whole_bits a) p q) (of_bits {s = t} (whole_bits b) p' q') e = ap bits (one_bits s t y (subst (WholeBits s) e a) b)
one_contents kinds.NamedBits v w x y (of_named_bits {s = s} (whole_bits a) p q r) (of_named_bits {s = t} (whole_bits b) p' q' r') e = ap bits (one_bits s t y (subst (WholeBits s) e a) b)
one_contents kinds.OctetString v w x y (of_octets (whole a) p) (of_octets (whole b) q) e = ap octets e
one_contents kinds.Null v w x y of_null of_null e = refl
one_contents kinds.ObjectIdentifier v w x y (of_oid {ns = ns} a) (of_oid {ns = ms} b) e = ap oid (one_oid a b (one_list (joined ns) (joined ms) e))
one_contents kinds.RelativeOid v w x y (of_relative_oid {ns = ns} a) (of_relative_oid {ns = ms} b) e = ap relative_oid (one_list ns ms e)
one_contents kinds.Utf8String v w x y (of_utf8 (whole a) p) (of_utf8 (whole b) q) e = ap text e
one_contents (kinds.RestrictedString k) v w x y (of_restricted (whole a) p) (of_restricted (whole b) q) e = ap text e

pub one_value : (k : LeafKind) (v w : AbstractValue) (x : List ℕ) → IsReadAs k v x → IsReadAs k w x → v ≡ w
one_value k v w x a b = one_contents k v w x x a.contents b.contents refl

-- ---- a value or a fault

some_joined : {ns : List ℕ} → IsObjectIdentifier ns → 1 ≤ length (joined ns)
some_joined (arcs a b c d f) = omega arith

form_of : (k : LeafKind) (v : AbstractValue) (x : List ℕ) → Contents Basic (plain k) v false x → Suits k v → HasForm k x
form_of kinds.Boolean v x of_false s = (0, refl)
form_of kinds.Boolean v x (of_true {x = n} p q r) s = (n, refl)
form_of kinds.Integer v x (of_integer {z = z} a) s = (z, a)
form_of kinds.Enumerated v x (of_enumerated {z = z} a) s = (z, a)
form_of kinds.BitString v x (of_bits {s = t} (whole_bits a) p q) s = (t, a)
form_of kinds.NamedBits v x (of_named_bits {s = t} (whole_bits a) p q r) s = (t, a)
form_of kinds.OctetString v x (of_octets a p) s = tt
form_of kinds.Null v x of_null s = refl
form_of kinds.ObjectIdentifier v x (of_oid {ns = ns} a) s = (joined ns, record { some = some_joined a; whole = refl })
form_of kinds.RelativeOid v x (of_relative_oid {ns = ns} a) s = (ns, record { some = a.some; whole = refl })
form_of kinds.Utf8String v x (of_utf8 (whole a) p) s = s
form_of (kinds.RestrictedString k) v x (of_restricted (whole a) p) s = s

number_limit : (v : AbstractValue) (x : List ℕ) (z : ℤ) → Contents Basic (plain kinds.Integer) v false x → Suits kinds.Integer v → Number z x → IsWithinLimit z
number_limit v x z (of_integer a) s n = subst IsWithinLimit (one_number a n) s

item_limit : (v : AbstractValue) (x : List ℕ) (z : ℤ) → Contents Basic (plain kinds.Enumerated) v false x → Suits kinds.Enumerated v → Number z x → IsWithinLimit z
item_limit v x z (of_enumerated a) s n = subst IsWithinLimit (one_number a n) s

oid_limit : (v : AbstractValue) (x ns : List ℕ) → Contents Basic (plain kinds.ObjectIdentifier) v false x → AreNumbers x ns → ((ms : List ℕ) → IsObjectIdentifier ms → joined ms ≡ ns → ⊥) → ⊥
oid_limit v x ns (of_oid {ns = ms} a) n h = h ms a (one_list (joined ms) ns n.whole)

relative_limit : (v : AbstractValue) (x ns : List ℕ) → Contents Basic (plain kinds.RelativeOid) v false x → AreNumbers x ns → (IsRelativeOid ns → ⊥) → ⊥
relative_limit v x ns (of_relative_oid {ns = ms} a) n h = h (subst IsRelativeOid (one_list ms ns n.whole) a)

pub never_both : (e : LeafFault) (k : LeafKind) (v : AbstractValue) (x : List ℕ) → IsRightFault e k x → IsReadAs k v x → ⊥
never_both e k v x (without_form h) a = h (form_of k v x a.contents a.suits)
never_both e k v x (integer_past {z = z} n h) a = h (number_limit v x z a.contents a.suits n)
never_both e k v x (enumerated_past {z = z} n h) a = h (item_limit v x z a.contents a.suits n)
never_both e k v x (oid_past {ns = ns} n h) a = oid_limit v x ns a.contents n h
never_both e k v x (relative_past {ns = ns} n h) a = relative_limit v x ns a.contents n h

pub one_fault : (e f : LeafFault) (k : LeafKind) (x : List ℕ) → IsRightFault e k x → IsRightFault f k x → e ≡ f
one_fault e f k x (without_form h) (without_form i) = refl
one_fault e f k x (without_form h) (integer_past {z = z} n i) = absurd (h (z, n))
one_fault e f k x (without_form h) (enumerated_past {z = z} n i) = absurd (h (z, n))
one_fault e f k x (without_form h) (oid_past {ns = ns} n i) = absurd (h (ns, n))
one_fault e f k x (without_form h) (relative_past {ns = ns} n i) = absurd (h (ns, n))
one_fault e f k x (integer_past {z = z} n i) (without_form h) = absurd (h (z, n))
one_fault e f k x (enumerated_past {z = z} n i) (without_form h) = absurd (h (z, n))
one_fault e f k x (oid_past {ns = ns} n i) (without_form h) = absurd (h (ns, n))
one_fault e f k x (relative_past {ns = ns} n i) (without_form h) = absurd (h (ns, n))
one_fault e f k x (integer_past n i) (integer_past m j) = refl
one_fault e f k x (enumerated_past n i) (enumerated_past m j) = refl
one_fault e f k x (oid_past n i) (oid_past m j) = refl
one_fault e f k x (relative_past n i) (relative_past m j) = refl

-- ---- so results are the true ones

pub is_ok : (k : LeafKind) (x : List ℕ) (r : Result Leaf LeafFault) → IfErr r (λ e. IsRightFault e k x) → (v : AbstractValue) → IsReadAs k v x → IsOk r
is_ok k x (Ok l) s v a = refl
is_ok k x (Err e) s v a = absurd (never_both e k v x s a)

pub is_err : (k : LeafKind) (x : List ℕ) (r : Result Leaf LeafFault) → IfOk r (ReadsContents k x) → IfErr r (λ e. IsRightFault e k x) → (e : LeafFault) → IsRightFault e k x → r ≡ Err e
is_err k x (Ok l) a s e t = absurd (never_both e k a.value x t a.is_read)
is_err k x (Err f) a s e t = ap Err (one_fault f e k x s t)
