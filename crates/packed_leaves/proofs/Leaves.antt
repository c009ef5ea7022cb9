-- What is added of a value is what its kind's bits are.
use Rattle.std.proofs.Common.{◌≡◌, ℕ, zero, suc, ◌+◌, ◌-◌, ◌*◌, ◌<◌, ◌≤◌, Bool, true, false, List, [], ◌∷◌, ◌++◌, length, map, take, drop, get_or, refl, sym, ap, subst, ◌∙◌, arith, length-append, inl, inr, ⊎_elim}
use Rattle.asn_base.specs.declared.schema.Item.{Item as Item'}
use Rattle.asn_base.specs.Seen.{item_of}
use Rattle.std.specs.Prelude.{ℤ, flat_map, replicate, slice_get, Some}
use Rattle.std.specs.Int.Digits.{AllBelowBase}
use Rattle.std.proofs.lemmas.List.{take_at, length-replicate, length-map}
use Rattle.bits.specs.Words.{low_bits, octet_bits}
use Rattle.asn_base.specs.Abstract.{AbstractValue, integer, enumerated, bits, oid, relative_oid, bits_of_octet}
use Rattle.asn_base.specs.Types.{Constraint, Item, NamedBit, Kind, Resolved, any_number, an_integer, an_enumerated, a_named_bit_string, an_object_identifier, a_relative_oid}
use Rattle.asn_base.specs.Typed.{IsPrimitive, IsObjectIdentifier, IsRelativeOid, HasNumber}
use Rattle.asn_base.specs.Same.{AlikeBy, equal, zeros}
use Rattle.asn_base.specs.Schemas.{AreBounds, AreItems, AreNamedBits, IsNumber, IsSound}
use Rattle.encodings.specs.declared.leaf_kind.LeafKind.TheVariants as leaves
use Rattle.encodings.specs.Leaves.{HasContents}
use Rattle.encodings.specs.Contents.{Contents, Number, EndsInOne, joined, of_integer, of_named_bits, of_oid, of_relative_oid}
use Rattle.encodings.specs.Header.{Octets, septets}
use Rattle.encodings.specs.Rules.{Distinguished}
use Rattle.primitive_writer.specs.Held.{HasSome}
use Rattle.packed_encodings.specs.Computed.{leaf_bits}
use Rattle.packed_encodings.specs.Lengths.{Bits, Counted, CountedOctets}
use Rattle.packed_encodings.specs.Leaves as packed
use Rattle.packed_encodings.specs.Leaves.{LeafPer, ItemBits, root_item, added_item, root_bit, place_bits, place_width, singly}
use Rattle.packed_encodings.specs.Numbers.{Integer}
use Rattle.packed_counts.specs.Counts.{Adds}
use Rattle.packed_leaves.specs.proving.Contents.{AddsContents, AddsNumber}
use Rattle.packed_leaves.specs.proving.Items.{IsPlace}
use Rattle.packed_leaves.proofs.Front.{octets_same, bits_long}

abbrev pub LeafLaw : Type 0
LeafLaw = (s : List Resolved) (k : Kind) (v w : AbstractValue) (b : Bits) → IsSound s k → AlikeBy s k v w → LeafPer k w b → leaf_bits k v ≡ b

abbrev pub SomeLaw : Type 0
SomeLaw = (s : List Resolved) (k : Kind) (v : AbstractValue) → IsSound s k → IsPrimitive k v → (w : AbstractValue) × (x : List ℕ) × AlikeBy s k v w × Contents Distinguished k w false x

added : (k : Kind) (v w : AbstractValue) (b old new : Bits) → v ≡ w → leaf_bits k w ≡ b → new ≡ old ++ b → new ≡ old ++ leaf_bits k v
added k v w b old new e f g = g ∙ ap (λ q. old ++ q) (sym f ∙ ap (leaf_bits k) (sym e))

-- ---- numbers

pub integer_added : LeafLaw → (c : Constraint) (v : AbstractValue) (z : ℤ) (old new : Bits) → AreBounds IsNumber c → v ≡ integer z → Adds (Integer c.visible z) old new → new ≡ old ++ leaf_bits (an_integer c) v
integer_added law c v z old new ok e a = added (an_integer c) v (integer z) a.bits old new e (law [] (an_integer c) (integer z) (integer z) a.bits ok (equal tt) (packed.of_integer a.is)) a.whole

number_in : (c : Constraint) (z : ℤ) (w : AbstractValue) (x : List ℕ) → AlikeBy [] (an_integer c) (integer z) w → Contents Distinguished (an_integer c) w false x → Number z x
number_in c z w x (equal l) (of_integer n) = n

pub some_number : SomeLaw → (c : Constraint) (v : AbstractValue) (z : ℤ) → AreBounds IsNumber c → v ≡ integer z → IsPrimitive (an_integer c) v → HasSome leaves.Integer v
some_number law c v z ok e f =
    let d = law [] (an_integer c) (integer z) ok (subst (IsPrimitive (an_integer c)) e f) in
    subst (HasSome leaves.Integer) (sym e) (d.1, record { trimmed = integer z; same = equal tt; contents = of_integer (number_in c z d.0 d.1 d.2 d.3) })

number_of : (z : ℤ) (w : AbstractValue) (x : List ℕ) → AlikeBy [] (an_integer any_number) (integer z) w → Contents Distinguished (an_integer any_number) w false x → Number z x
number_of z w x (equal l) (of_integer n) = n

pub number_added : (v : AbstractValue) (z : ℤ) (old new : Bits) → v ≡ integer z → AddsContents leaves.Integer v old new → AddsNumber z old new
number_added v z old new e a =
    let h : HasContents leaves.Integer (integer z) a.is.0 = subst (λ q. HasContents leaves.Integer q a.is.0) e a.is.1 in
    record { bits = a.bits; is = (a.is.0, number_of z h.trimmed a.is.0 h.same h.contents, a.is.2); whole = a.whole }

-- ---- items

pub root_added : (root more : List Item) (e : Bool) (z : ℤ) (i : ℕ) (old new : Bits) → IsPlace root z i → new ≡ old ++ (root_bit e ++ place_bits (length root) i) → Adds (ItemBits root e more z) old new
root_added root more e z i old new p h = record { bits = root_bit e ++ place_bits (length root) i; is = root_item i p.0 p.1 p.2; whole = h }

is_marked : (e : Bool) (more : List Item) (i : ℕ) (x : Item) → (e ≡ false → more ≡ []) → slice_get more i ≡ Some x → e ≡ true
is_marked true more i x m h = refl
is_marked false [] i x m h = absurd (none_there i x h)
  where
    none_there : (i : ℕ) (x : Item) → slice_get {X = Item} [] i ≡ Some x → ⊥
    none_there i x h = cc
is_marked false (y ∷ more) i x m h = absurd (let e = m refl in cc)

pub more_added : (root more : List Item) (e : Bool) (z : ℤ) (i : ℕ) (old new : Bits) → AreItems e root more → i < 64 → IsPlace more z i → new ≡ old ++ (true ∷ (false ∷ low_bits 6 i)) → Adds (ItemBits root e more z) old new
more_added root more e z i old new ok l p h = record { bits = true ∷ (false ∷ low_bits 6 i); is = added_item i p.0 (is_marked e more i p.0 ok.marked p.1) p.1 p.2 l; whole = h }

pub place_below : (is : List Item) (z : ℤ) (i : ℕ) → length is ≤ 64 → IsPlace is z i → i < 64
place_below is z i l p = let b = by is i p.0 p.1 in omega (arith, l, b)
  where
    by : (is : List Item) (i : ℕ) (x : Item) → slice_get is i ≡ Some x → i < length is
    by [] i x h = absurd (cc)
    by (y ∷ is) zero x h = omega arith
    by (y ∷ is) (suc i) x h = let r = by is i x h in omega (arith, r)

pub in_one : (root more : List Item) (z : ℤ) → HasNumber (root ++ more) z → (HasNumber root z → ⊥) → (HasNumber more z → ⊥) → ⊥
in_one [] more z h n m = m h
in_one (x ∷ root) more z (inl e) n m = n (inl e)
in_one (x ∷ root) more z (inr h) n m = in_one root more z h (λ q. n (inr q)) m

pub item_added : LeafLaw → (root more : List Item) (e : Bool) (v : AbstractValue) (z : ℤ) (old new : Bits) → AreItems e root more → v ≡ enumerated z → Adds (ItemBits root e more z) old new → new ≡ old ++ leaf_bits (an_enumerated root e more) v
item_added law root more e v z old new ok f a = added (an_enumerated root e more) v (enumerated z) a.bits old new f (law [] (an_enumerated root e more) (enumerated z) (enumerated z) a.bits ok (equal tt) (packed.of_enumerated a.is)) a.whole

-- ---- identifiers

oid_in : (ns : List ℕ) (w : AbstractValue) (x : List ℕ) → AlikeBy [] an_object_identifier (oid ns) w → Contents Distinguished an_object_identifier w false x → IsObjectIdentifier ns × (x ≡ flat_map septets (joined ns))
oid_in ns w x (equal l) (of_oid a) = (a, refl)

pub some_oid : (v : AbstractValue) (ns : List ℕ) → v ≡ oid ns → IsObjectIdentifier ns → HasSome leaves.ObjectIdentifier v
some_oid v ns e a = subst (HasSome leaves.ObjectIdentifier) (sym e) (flat_map septets (joined ns), record { trimmed = oid ns; same = equal tt; contents = of_oid a })

pub oid_added : LeafLaw → (v : AbstractValue) (ns : List ℕ) (old new : Bits) → v ≡ oid ns → AddsContents leaves.ObjectIdentifier v old new → new ≡ old ++ leaf_bits an_object_identifier v
oid_added law v ns old new e a =
    let h : HasContents leaves.ObjectIdentifier (oid ns) a.is.0 = subst (λ q. HasContents leaves.ObjectIdentifier q a.is.0) e a.is.1 in
    let p = oid_in ns h.trimmed a.is.0 h.same h.contents in
    let b : CountedOctets (flat_map septets (joined ns)) a.bits = subst (λ q. CountedOctets q a.bits) p.1 a.is.2 in
    added an_object_identifier v (oid ns) a.bits old new e (law [] an_object_identifier (oid ns) (oid ns) a.bits tt (equal tt) (packed.of_oid p.0 b)) a.whole

relative_in : (ns : List ℕ) (w : AbstractValue) (x : List ℕ) → AlikeBy [] a_relative_oid (relative_oid ns) w → Contents Distinguished a_relative_oid w false x → IsRelativeOid ns × (x ≡ flat_map septets ns)
relative_in ns w x (equal l) (of_relative_oid a) = (a, refl)

pub some_relative : (v : AbstractValue) (ns : List ℕ) → v ≡ relative_oid ns → IsRelativeOid ns → HasSome leaves.RelativeOid v
some_relative v ns e a = subst (HasSome leaves.RelativeOid) (sym e) (flat_map septets ns, record { trimmed = relative_oid ns; same = equal tt; contents = of_relative_oid a })

pub relative_added : LeafLaw → (v : AbstractValue) (ns : List ℕ) (old new : Bits) → v ≡ relative_oid ns → AddsContents leaves.RelativeOid v old new → new ≡ old ++ leaf_bits a_relative_oid v
relative_added law v ns old new e a =
    let h : HasContents leaves.RelativeOid (relative_oid ns) a.is.0 = subst (λ q. HasContents leaves.RelativeOid q a.is.0) e a.is.1 in
    let p = relative_in ns h.trimmed a.is.0 h.same h.contents in
    let b : CountedOctets (flat_map septets ns) a.bits = subst (λ q. CountedOctets q a.bits) p.1 a.is.2 in
    added a_relative_oid v (relative_oid ns) a.bits old new e (law [] a_relative_oid (relative_oid ns) (relative_oid ns) a.bits tt (equal tt) (packed.of_relative_oid p.0 b)) a.whole

-- ---- named bits

-- contents octets of bits under names
pub record Named (v : Bits) (x : Octets) : Type 0 where
  pub trimmed : Bits
  pub same : (ns : List NamedBit) → AlikeBy [] (a_named_bit_string ns) (bits v) (bits trimmed)
  pub ends : EndsInOne trimmed
  pub unused : ℕ
  pub octets : Octets
  pub is : x ≡ unused ∷ octets
  pub are : flat_map bits_of_octet octets ≡ trimmed ++ replicate unused false

named_in : (ns : List NamedBit) (v : Bits) (w : AbstractValue) (x : Octets) → AlikeBy [] (a_named_bit_string ns) (bits v) w → Contents Distinguished (a_named_bit_string ns) w false x → Named v x
named_in ns v w x (equal l) (of_named_bits p c f t) = record { trimmed = v; same = λ ms. equal tt; ends = t; unused = f.0; octets = f.1; is = f.2; are = f.3 }
named_in ns v w x (zeros {b = u} m n e) (of_named_bits p c f t) = record { trimmed = u; same = λ ms. zeros m n e; ends = t; unused = f.0; octets = f.1; is = f.2; are = f.3 }

pub some_named : SomeLaw → (ns : List NamedBit) (v : AbstractValue) (b : Bits) → AreNamedBits ns → v ≡ bits b → IsPrimitive (a_named_bit_string ns) v → HasSome leaves.NamedBits v
some_named law ns v b ok e f =
    let d = law [] (a_named_bit_string ns) (bits b) ok (subst (IsPrimitive (a_named_bit_string ns)) e f) in
    let n = named_in ns b d.0 d.1 d.2 d.3 in
    subst (HasSome leaves.NamedBits) (sym e) (d.1, plainly n d.2 d.3)
  where
    plainly : {w : AbstractValue} {x : Octets} → Named b x → AlikeBy [] (a_named_bit_string ns) (bits b) w → Contents Distinguished (a_named_bit_string ns) w false x → HasContents leaves.NamedBits (bits b) x
    plainly n (equal l) (of_named_bits p c f t) = record { trimmed = bits b; same = equal tt; contents = of_named_bits p c f t }
    plainly n (zeros {b = u} i j e) (of_named_bits p c f t) = record { trimmed = bits u; same = zeros i j e; contents = of_named_bits p c f t }

pub named_of : (v : AbstractValue) (b : Bits) (x : Octets) → v ≡ bits b → HasContents leaves.NamedBits v x → Named b x
named_of v b x e c =
    let h : HasContents leaves.NamedBits (bits b) x = subst (λ q. HasContents leaves.NamedBits q x) e c in
    named_in [] b h.trimmed x h.same h.contents

same_head : {a b : ℕ} {xs ys : List ℕ} → a ∷ xs ≡ b ∷ ys → a ≡ b
same_head e = cc

same_rest : {a b : ℕ} {xs ys : List ℕ} → a ∷ xs ≡ b ∷ ys → xs ≡ ys
same_rest e = cc

pub unused_few : (b : Bits) (u : ℕ) (o : Octets) → Named b (u ∷ o) → AllBelowBase 256 o → u ≤ 8 * length o
unused_few b u o n ok =
    let eu : u ≡ n.unused = same_head n.is in
    let eo : o ≡ n.octets = same_rest n.is in
    let l : length (octet_bits o) ≡ length n.trimmed + n.unused
    = ap length (sym (octets_same o ok) ∙ ap (flat_map bits_of_octet) eo ∙ n.are) ∙ length-append n.trimmed (replicate n.unused false) ∙ ap (λ q. length n.trimmed + q) (length-replicate n.unused false) in
    let m = bits_long o in
    omega (arith, eu, l, m)

trimmed_is : (b : Bits) (u : ℕ) (o : Octets) (n : Named b (u ∷ o)) → AllBelowBase 256 o → take (8 * length o - u) (octet_bits o) ≡ n.trimmed
trimmed_is b u o n ok =
    let eu : u ≡ n.unused = same_head n.is in
    let eo : o ≡ n.octets = same_rest n.is in
    let w : octet_bits o ≡ n.trimmed ++ replicate n.unused false = sym (octets_same o ok) ∙ ap (flat_map bits_of_octet) eo ∙ n.are in
    let l : length (octet_bits o) ≡ length n.trimmed + n.unused = ap length w ∙ length-append n.trimmed (replicate n.unused false) ∙ ap (λ q. length n.trimmed + q) (length-replicate n.unused false) in
    let m = bits_long o in
    let k : length n.trimmed ≡ 8 * length o - u = omega (arith, eu, l, m) in
    ap (take (8 * length o - u)) w ∙ take_at n.trimmed (replicate n.unused false) (8 * length o - u) k

pub named_added : LeafLaw → (ns : List NamedBit) (v : AbstractValue) (b : Bits) (u : ℕ) (o : Octets) (old new : Bits) → AreNamedBits ns → v ≡ bits b → Named b (u ∷ o) → AllBelowBase 256 o → Adds (Counted (singly (take (8 * length o - u) (octet_bits o)))) old new → new ≡ old ++ leaf_bits (a_named_bit_string ns) v
named_added law ns v b u o old new ok e n h a =
    let c : Counted (singly n.trimmed) a.bits = subst (λ q. Counted (singly q) a.bits) (trimmed_is b u o n h) a.is in
    added (a_named_bit_string ns) v (bits b) a.bits old new e (law [] (a_named_bit_string ns) (bits b) (bits n.trimmed) a.bits ok (n.same ns) (packed.of_named_bits n.ends c)) a.whole

-- ---- places of items

pub place_found : (is : List Item') (i : ℕ) (x : Item') (z : ℤ) → i < length is → x ≡ get_or is i x → x.number ≡ z → IsPlace (map item_of is) z i
place_found is i x z l e h = (item_of x, by is i l e, h)
  where
    by : (is : List Item') (i : ℕ) → i < length is → x ≡ get_or is i x → slice_get (map item_of is) i ≡ Some (item_of x)
    by [] i l e = absurd (omega (arith, l))
    by (y ∷ is) zero l e = ap (λ q. Some (item_of q)) (sym e)
    by (y ∷ is) (suc i) l e = by is i (omega (arith, l)) e

pub not_here : (is : List Item') (i : ℕ) (x : Item') (z : ℤ) → i < length is → x ≡ get_or is i x → (x.number ≡ z → ⊥) → HasNumber (drop i (map item_of is)) z → HasNumber (drop (i + 1) (map item_of is)) z
not_here [] i x z l e n h = absurd (omega (arith, l))
not_here (y ∷ is) zero x z l e n h = ⊎_elim (λ k. absurd (n (ap (λ q. q.number) e ∙ k))) (λ k. k) h
not_here (y ∷ is) (suc i) x z l e n h = subst (λ q. HasNumber (drop q (map item_of (y ∷ is))) z) (let c : suc (i + 1) ≡ suc i + 1 = omega arith in c) (not_here is i x z (omega (arith, l)) e n h)

-- there is an octet with the number of unused bits
pub some_octet : (b : Bits) (x : Octets) → Named b x → length x ≡ 0 → ⊥
some_octet b x n e = let f : length x ≡ suc (length n.octets) = ap length n.is in omega (arith, e, f)

pub place_moved : (is js : List Item') (y z : ℤ) (i : ℕ) → js ≡ is → y ≡ z → IsPlace (map item_of js) y i → IsPlace (map item_of is) z i
place_moved is js y z i e f p = subst (λ q. IsPlace (map item_of is) q i) f (subst (λ q. IsPlace (map item_of q) y i) e p)

pub none_moved : (is js : List Item') (y z : ℤ) → js ≡ is → y ≡ z → (HasNumber (map item_of js) y → ⊥) → HasNumber (map item_of is) z → ⊥
none_moved is js y z e f n h = n (subst (λ q. HasNumber (map item_of q) y) (sym e) (subst (HasNumber (map item_of is)) (sym f) h))

pub root_pushed : (is : List Item') (more : List Item) (e : Bool) (z : ℤ) (i : ℕ) (old new : Bits) → IsPlace (map item_of is) z i → new ≡ old ++ (root_bit e ++ low_bits (place_width (length is)) i) → Adds (ItemBits (map item_of is) e more z) old new
root_pushed is more e z i old new p h =
    root_added (map item_of is) more e z i old new p (h ∙ ap (λ q. old ++ (root_bit e ++ low_bits (place_width q) i)) (sym (length-map is item_of)))
