-- Packed bits of values that hold no others, and the places of alternatives, in two versions.
use Rattle.std.proofs.Common.{arith, ◌≡◌, ℕ, zero, suc, ◌+◌, ◌<◌, ◌⊎◌, inl, inr, ℤ, Bool, cond, List, [], ◌∷◌, ◌++◌, length, map, refl, sym, ap, subst, ◌∙◌}
use Rattle.std.proofs.lemmas.Int.{ints}
use Rattle.std.proofs.lemmas.List.{length-map}
use Rattle.std.specs.Prelude.{slice_get, Some, ◌<ℤ◌}
use Rattle.std.specs.List.{AllByRecursion}
use Rattle.asn_base.specs.Abstract.{AbstractValue, enumerated}
use Rattle.asn_base.specs.Types.{Item, Alternative, Kind, an_enumerated, Resolved}
use Rattle.asn_base.specs.Typed.{HasNumber, fits_enumerated, ValueOf, of_leaf}
use Rattle.asn_base.specs.Schemas.{HasTag, IsSound, AreItems, NumbersAscend}
use Rattle.later_versions.specs.Projected.{projected}
use Rattle.later_versions.specs.Later.{IsFront, IsLaterKind, later_boolean, later_integer, later_enumerated, later_bit_string, later_named_bits, later_octet_string, later_null, later_object_identifier, later_relative_oid, later_utf8_string, later_restricted_string, later_sequence, later_set, later_sequence_of, later_set_of, later_choice}
use Rattle.bits.specs.Words.{low_bits}
use Rattle.packed_encodings.specs.Lengths.{Bits, Sized}
use Rattle.packed_encodings.specs.Numbers.{Integer}
use Rattle.packed_encodings.specs.Leaves.{singly, ItemBits, root_item, added_item, LeafPer, of_boolean, of_integer, of_enumerated, of_bits, of_named_bits, of_octets, of_null, of_oid, of_relative_oid, of_utf8, of_restricted}
use Rattle.asn_base.specs.Order.{tag_at, both_before}
use Rattle.packed_encodings.specs.Orders.{canonical_place}
use Rattle.packed_encodings.specs.Packing.{lenient, EncodesKindPer, leaf}
use Rattle.version_laws.specs.LeftOut.{left_out_packed}
use Rattle.version_laws.specs.Lifted.{lifted}
use Rattle.version_laws.proofs.Beside.{LaterMembers}
use Rattle.version_laws.proofs.Apart.{nothing, there, within, mapped, all_at, has_type}
use Rattle.version_laws.proofs.PackedSides.{tag_same}

-- ---- items

in_either : (root more : List Item) (z : ℤ) → HasNumber (root ++ more) z → HasNumber root z ⊎ HasNumber more z
in_either [] more z h = inr h
in_either (x ∷ root) more z (inl e) = inl (inl e)
in_either (x ∷ root) more z (inr h) = elim (in_either root more z h) [ inl a ↦ inl (inr a) | inr a ↦ inr a ]

numbered : (is : List Item) {z : ℤ} → HasNumber is z → (i : ℕ) × (x : Item) × (slice_get is i ≡ Some x) × (x.number ≡ z)
numbered [] h = absurd h
numbered (x ∷ is) (inl e) = (0, x, refl, e)
numbered (x ∷ is) (inr h) = let r = numbered is h in (suc r.0, r.1, r.2, r.3)

some_item : {x y : Item} → Some x ≡ Some y → x.number ≡ y.number
some_item e = cc

not_below : {x y : ℤ} → x <ℤ y → x ≡ y → ⊥
not_below l e = omega (arith, ints, l, e)

one_place : (is : List Item) (i j : ℕ) {x y : Item} → NumbersAscend is → slice_get is i ≡ Some x → slice_get is j ≡ Some y → x.number ≡ y.number → i ≡ j
one_place [] i j a e f g = absurd (nothing e)
one_place (w ∷ is) zero zero a e f g = refl
one_place (w ∷ is) zero (suc j) a e f g = absurd (not_below (all_at (λ o. w.number <ℤ o.number) is j a.0 f) (some_item e ∙ g))
one_place (w ∷ is) (suc i) zero a e f g = absurd (not_below (all_at (λ o. w.number <ℤ o.number) is i a.0 e) (some_item f ∙ sym g))
one_place (w ∷ is) (suc i) (suc j) a e f g = ap suc (one_place is i j a.1 e f g)

-- the item that the later version has at the place of one of the earlier version
later_item : {more all : List Item} {x : Item} (i : ℕ) → IsFront (λ a b. a ≡ b) more all → slice_get more i ≡ Some x → slice_get all i ≡ Some x
later_item {more} {all} {x} i front e =
    let l = within more i e in
    let m = front.none_dropped in
    let b = there all i (omega (arith, l, m)) in
    b.1 ∙ ap (λ o. Some o) (sym (front.projected i x b.0 e b.1))

item_older : {root more all : List Item} {e : Bool} {z : ℤ} {b : Bits} → IsFront (λ a c. a ≡ c) more all → AreItems e root all → HasNumber (root ++ more) z → ItemBits root e all z b → ItemBits root e more z b
item_older front sound h (root_item i x g f) = root_item i x g f
item_older {root} {more} {all} {e = e} {z = z} front sound h (added_item i x m g f l) = elim (in_either root more z h) [
  | inl a ↦ absurd (all_at (λ o. HasNumber root o.number → ⊥) all i sound.apart g (subst (HasNumber root) (sym f) a))
  | inr a ↦ (let y = numbered more a in
      let same = one_place all y.0 i sound.more_ascend (later_item y.0 front y.2) g (y.3 ∙ sym f) in
      added_item i y.1 m (subst (λ o. slice_get more o ≡ Some y.1) same y.2) y.3 l)
]

item_newer : {root more all : List Item} {e : Bool} {z : ℤ} {b : Bits} → IsFront (λ a c. a ≡ c) more all → ItemBits root e more z b → ItemBits root e all z b
item_newer front (root_item i x g f) = root_item i x g f
item_newer front (added_item i x m g f l) = added_item i x m (later_item i front g) f l

-- ---- leaves

items_fit : {n : ℕ} {root more : List Item} {e : Bool} {z : ℤ} {s : List Resolved} {v : AbstractValue} → ValueOf s n (an_enumerated root e more) v → v ≡ enumerated z → HasNumber (root ++ more) z
items_fit {root = root} {more = more} (of_leaf (fits_enumerated {z = y} a b)) e = subst (HasNumber (root ++ more)) (number_of e) b
  where
    number_of : {a b : ℤ} → enumerated a ≡ enumerated b → a ≡ b
    number_of e = cc

pub leaf_older : {s : List Resolved} {k k' : Kind} {v : AbstractValue} {b : Bits} {n : ℕ} (s' : List Resolved) (t t' : ℕ) → IsLaterKind s k k' → LeafPer k' v b → ValueOf s n k (projected s t v) → IsSound s' k' → EncodesKindPer s lenient k (projected s t v) (left_out_packed s t s' t' v) b
leaf_older s' t t' later_boolean of_boolean x sound = leaf of_boolean
leaf_older s' t t' (later_integer q) (of_integer {z = z} {b = b} a) x sound = leaf (of_integer (subst (λ o. Integer o z b) (sym q.visible) a))
leaf_older s' t t' (later_enumerated q) (of_enumerated a) x sound = leaf (of_enumerated (item_older q sound (items_fit x refl) a))
leaf_older s' t t' (later_bit_string q) (of_bits {v = v} {b = b} a) x sound = leaf (of_bits (subst (λ o. Sized o (singly v) b) (sym q.visible) a))
leaf_older s' t t' (later_named_bits q) (of_named_bits a c) x sound = leaf (of_named_bits a c)
leaf_older s' t t' (later_octet_string q) (of_octets {o = o} {b = b} l a) x sound = leaf (of_octets l (subst (λ z. Sized z (map (low_bits 8) o) b) (sym q.visible) a))
leaf_older s' t t' later_null of_null x sound = leaf of_null
leaf_older s' t t' later_object_identifier (of_oid a c) x sound = leaf (of_oid a c)
leaf_older s' t t' later_relative_oid (of_relative_oid a c) x sound = leaf (of_relative_oid a c)
leaf_older s' t t' (later_utf8_string q) (of_utf8 a) x sound = leaf (of_utf8 a)
leaf_older s' t t' (later_restricted_string q) (of_restricted {xs = xs} {b = b} a c) x sound = leaf (of_restricted a (subst (λ z. Sized z xs b) (sym q.visible) c))
leaf_older s' t t' (later_sequence q) a x sound = elim a [ ]
leaf_older s' t t' (later_set q) a x sound = elim a [ ]
leaf_older s' t t' (later_sequence_of q) a x sound = elim a [ ]
leaf_older s' t t' (later_set_of q) a x sound = elim a [ ]
leaf_older s' t t' (later_choice q f) a x sound = elim a [ ]

pub leaf_newer : {s : List Resolved} {k k' : Kind} {v : AbstractValue} {b : Bits} (s' : List Resolved) (t' : ℕ) → IsLaterKind s k k' → LeafPer k v b → EncodesKindPer s' lenient k' (lifted s' t' v) 0 b
leaf_newer s' t' later_boolean of_boolean = leaf of_boolean
leaf_newer s' t' (later_integer q) (of_integer {z = z} {b = b} a) = leaf (of_integer (subst (λ o. Integer o z b) q.visible a))
leaf_newer s' t' (later_enumerated q) (of_enumerated a) = leaf (of_enumerated (item_newer q a))
leaf_newer s' t' (later_bit_string q) (of_bits {v = v} {b = b} a) = leaf (of_bits (subst (λ o. Sized o (singly v) b) q.visible a))
leaf_newer s' t' (later_named_bits q) (of_named_bits a c) = leaf (of_named_bits a c)
leaf_newer s' t' (later_octet_string q) (of_octets {o = o} {b = b} l a) = leaf (of_octets l (subst (λ z. Sized z (map (low_bits 8) o) b) q.visible a))
leaf_newer s' t' later_null of_null = leaf of_null
leaf_newer s' t' later_object_identifier (of_oid a c) = leaf (of_oid a c)
leaf_newer s' t' later_relative_oid (of_relative_oid a c) = leaf (of_relative_oid a c)
leaf_newer s' t' (later_utf8_string q) (of_utf8 a) = leaf (of_utf8 a)
leaf_newer s' t' (later_restricted_string q) (of_restricted {xs = xs} {b = b} a c) = leaf (of_restricted a (subst (λ z. Sized z xs b) q.visible c))
leaf_newer s' t' (later_sequence q) a = elim a [ ]
leaf_newer s' t' (later_set q) a = elim a [ ]
leaf_newer s' t' (later_sequence_of q) a = elim a [ ]
leaf_newer s' t' (later_set_of q) a = elim a [ ]
leaf_newer s' t' (later_choice q f) a = elim a [ ]

-- ---- alternatives

abbrev one_if : Bool → ℕ
one_if b = cond b 1 0

pub rank_same : (s s' : List Resolved) (root others : List Alternative) (t t' : ℕ) → length root ≡ length others
    → ((i : ℕ) (a b : Alternative) → slice_get root i ≡ Some a → slice_get others i ≡ Some b → tag_at s a.type ≡ tag_at s' b.type)
    → tag_at s t ≡ tag_at s' t'
    → canonical_place s root t ≡ canonical_place s' others t'
rank_same s s' [] [] t t' l h e = refl
rank_same s s' [] (b ∷ others) t t' l h e = absurd (omega (arith, l))
rank_same s s' (a ∷ root) [] t t' l h e = absurd (omega (arith, l))
rank_same s s' (a ∷ root) (b ∷ others) t t' l h e =
    ap (λ o. one_if (both_before o (tag_at s t)) + canonical_place s root t) (h 0 a b refl refl)
    ∙ ap (λ o. one_if (both_before (tag_at s' b.type) o) + canonical_place s root t) e
    ∙ ap (λ n. one_if (both_before (tag_at s' b.type) (tag_at s' t')) + n) (rank_same s s' root others t t' (omega (arith, l)) (λ i x y f g. h (suc i) x y f g) e)

pub at_front : {A : Type 0} {x : A} (xs ys : List A) (i : ℕ) → slice_get xs i ≡ Some x → slice_get (xs ++ ys) i ≡ Some x
at_front [] ys i e = absurd (nothing e)
at_front (y ∷ xs) ys zero e = e
at_front (y ∷ xs) ys (suc i) e = at_front xs ys i e

pub in_front_at : {A : Type 0} {x : A} (xs ys : List A) (i : ℕ) → i < length xs → slice_get (xs ++ ys) i ≡ Some x → slice_get xs i ≡ Some x
in_front_at [] ys i l e = absurd (omega (arith, l))
in_front_at (y ∷ xs) ys zero l e = e
in_front_at (y ∷ xs) ys (suc i) l e = in_front_at xs ys i (omega (arith, l)) e

pub at_back : {A : Type 0} (xs ys : List A) (i j : ℕ) → i ≡ length xs + j → slice_get (xs ++ ys) i ≡ slice_get ys j
at_back [] ys i j e = ap (λ q. slice_get ys q) (omega (arith, e))
at_back (y ∷ xs) ys zero j e = absurd (omega (arith, e))
at_back (y ∷ xs) ys (suc i) j e = at_back xs ys i j (omega (arith, e))

pub roots_same : (root others : List Alternative) → map (λ a. a.name) root ≡ map (λ a. a.name) others → length root ≡ length others
roots_same root others names =
    let e = ap length names in
    let a = length-map root (λ b. b.name) in
    let b = length-map others (λ c. c.name) in
    omega (arith, e, a, b)

-- the alternatives of both roots have the same places in the canonical order of tags
module _ (s s' : List Resolved) (root more others all : List Alternative) (ms : LaterMembers s s' (map (λ a. a.type) (root ++ more)) (map (λ a. a.type) (others ++ all))) (th : AllByRecursion (λ a. HasTag s a.type) (root ++ more)) (th' : AllByRecursion (λ a. HasTag s' a.type) (others ++ all)) where
  tags_at : (i : ℕ) (a b : Alternative) → slice_get root i ≡ Some a → slice_get others i ≡ Some b → tag_at s a.type ≡ tag_at s' b.type
  tags_at i a b f g =
      let x = at_front root more i f in
      let y = at_front others all i g in
      tag_same s s' a.type b.type (ms i a.type b.type (mapped (λ o. o.type) (root ++ more) i x) (mapped (λ o. o.type) (others ++ all) i y))
      (has_type s a.type (all_at (λ o. HasTag s o.type) (root ++ more) i th x)) (has_type s' b.type (all_at (λ o. HasTag s' o.type) (others ++ all) i th' y))

  pub ranks_same : (i : ℕ) {a b : Alternative} → length root ≡ length others → slice_get root i ≡ Some a → slice_get others i ≡ Some b → canonical_place s root a.type ≡ canonical_place s' others b.type
  ranks_same i {a} {b} l f g = rank_same s s' root others a.type b.type l tags_at (tags_at i a b f g)
