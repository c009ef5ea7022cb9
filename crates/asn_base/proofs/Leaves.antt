-- Whether a value is one of a kind without other values in it, if kind and value are known by equations.
use Rattle.std.proofs.Common.{arith, ◌≡◌, ℕ, suc, ◌<◌, ◌≤◌, ◌^◌, ℤ, Bool, List, [], ◌∷◌, ◌++◌, length, get_or, inl, inr, refl, sym, subst}
use Rattle.std.specs.Prelude.{◌↔◌, ◌⊎◌, IsTrue, IsUtf8, chars}
use Rattle.std.specs.List.{AllByRecursion}
use Rattle.std.specs.Int.Digits.{AllBelowBase}
use Rattle.std.proofs.lemmas.Bool.{ltb-true, lt-ltb, eqb-true, eq-eqb}
use Rattle.std.proofs.Math.Dec.{ltb, eqb}
use Rattle.asn_base.specs.declared.strings.StringKind.{StringKind}
use Rattle.asn_base.specs.Abstract.{AbstractValue, boolean, integer, enumerated, bits, octets, text, null, oid, relative_oid, fields, list, alternative, Row}
use Rattle.asn_base.specs.Names.{IsMember, is_first, is_later}
use Rattle.asn_base.specs.Types.{Constraint, Item, NamedBit, Kind, a_boolean, an_integer, an_enumerated, a_bit_string, a_named_bit_string, an_octet_string, a_null, an_object_identifier, a_relative_oid, a_utf8_string, a_restricted_string}
use Rattle.asn_base.specs.Typed.{IsPrimitive, fits_boolean, fits_integer, fits_enumerated, fits_bits, fits_named_bits, fits_octets, fits_null, fits_oid, fits_relative_oid, fits_utf8, fits_restricted, HasNumber, IsAllowed, IsAllowedSize, IsWithinLimit, IsObjectIdentifier, arcs, IsRelativeOid}
use Rattle.asn_base.specs.proving.Lists.{onward}

-- ---- lists from a place on

pub yes : {P : Type 0} → P → IsTrue Bool.true ↔ P
yes p = (λ t. p, λ q. refl)

pub no : {P : Type 0} → (P → ⊥) → IsTrue Bool.false ↔ P
no n = (λ t. absurd (cc), λ p. absurd (n p))

pub without : {P Q : Type 0} → (P → ⊥) → P ⊎ Q → Q
without n (inl p) = absurd (n p)
without n (inr q) = q

-- a search that hasn't found it yet
pub not_here : {P Q R : Type 0} → P ↔ (Q ⊎ R) → (Q → ⊥) → P ↔ R
not_here a n = onward a (without n) inr

pub numbers_append : (is js : List Item) (z : ℤ) → HasNumber (is ++ js) z ↔ (HasNumber is z ⊎ HasNumber js z)
numbers_append is js z = (split is, joined is)
  where
    split : (is : List Item) → HasNumber (is ++ js) z → HasNumber is z ⊎ HasNumber js z
    split [] h = inr h
    split (i ∷ is) (inl e) = inl (inl e)
    split (i ∷ is) (inr h) = elim (split is h) [ inl a ↦ inl (inr a) | inr b ↦ inr b ]

    joined : (is : List Item) → HasNumber is z ⊎ HasNumber js z → HasNumber (is ++ js) z
    joined [] (inl h) = absurd h
    joined [] (inr h) = h
    joined (i ∷ is) (inl (inl e)) = inl e
    joined (i ∷ is) (inl (inr h)) = inr (joined is (inl h))
    joined (i ∷ is) (inr h) = inr (joined is (inr h))

abbrev IsHeadOr : ℕ → List ℕ → Type 0
IsHeadOr x [] = ⊥
IsHeadOr x (y ∷ xs) = (y ≡ x) ⊎ IsMember x xs

split_member : {x : ℕ} {ys : List ℕ} → IsMember x ys → IsHeadOr x ys
split_member is_first = inl refl
split_member (is_later m) = inr m

pub member_at : {x y : ℕ} {xs : List ℕ} → IsMember x (y ∷ xs) ↔ ((y ≡ x) ⊎ IsMember x xs)
member_at {x} {y} {xs} = (λ m. split_member m, joined)
  where
    joined : (y ≡ x) ⊎ IsMember x xs → IsMember x (y ∷ xs)
    joined (inl e) = subst (λ q. IsMember q (y ∷ xs)) e is_first
    joined (inr m) = is_later m

pub no_member : {x : ℕ} → IsMember x [] → ⊥
no_member m = elim m [ ]

-- ---- kinds

moved : {k m : Kind} {v w : AbstractValue} {r : Bool} → k ≡ m → v ≡ w → IsTrue r ↔ IsPrimitive m w → IsTrue r ↔ IsPrimitive k v
moved {k} {m} {v} {w} {r} e f a = subst (λ q. IsTrue r ↔ IsPrimitive q v) (sym e) (subst (λ q. IsTrue r ↔ IsPrimitive m q) (sym f) a)

pub boolean_fits : {k : Kind} {v : AbstractValue} {b : Bool} → k ≡ a_boolean → v ≡ boolean b → IsTrue Bool.true ↔ IsPrimitive k v
boolean_fits e f = moved e f (yes fits_boolean)

pub null_fits : {k : Kind} {v : AbstractValue} → k ≡ a_null → v ≡ null → IsTrue Bool.true ↔ IsPrimitive k v
null_fits e f = moved e f (yes fits_null)

pub named_fits : {k : Kind} {v : AbstractValue} {ns : List NamedBit} {s : List Bool} → k ≡ a_named_bit_string ns → v ≡ bits s → IsTrue Bool.true ↔ IsPrimitive k v
named_fits e f = moved e f (yes fits_named_bits)

in_integer : {c : Constraint} {z : ℤ} → IsPrimitive (an_integer c) (integer z) → IsAllowed c z
in_integer (fits_integer l a) = a

pub integer_fits : {k : Kind} {v : AbstractValue} {c : Constraint} {z : ℤ} {r : Bool} → k ≡ an_integer c → v ≡ integer z → IsWithinLimit z → IsTrue r ↔ IsAllowed c z → IsTrue r ↔ IsPrimitive k v
integer_fits e f l a = moved e f (onward a (fits_integer l) in_integer)

pub integer_fits_if : {k : Kind} {v : AbstractValue} {c : Constraint} {z : ℤ} → k ≡ an_integer c → v ≡ integer z → IsWithinLimit z → IsAllowed c z → IsPrimitive k v
integer_fits_if e f l a = (moved e f (yes (fits_integer l a))).0 refl

in_enumerated : {root more : List Item} {e : Bool} {z : ℤ} → IsPrimitive (an_enumerated root e more) (enumerated z) → HasNumber (root ++ more) z
in_enumerated (fits_enumerated l a) = a

pub enumerated_fits : {k : Kind} {v : AbstractValue} {root more : List Item} {b : Bool} {z : ℤ} {r : Bool} → k ≡ an_enumerated root b more → v ≡ enumerated z → IsWithinLimit z → IsTrue r ↔ HasNumber (root ++ more) z → IsTrue r ↔ IsPrimitive k v
enumerated_fits e f l a = moved e f (onward a (fits_enumerated l) in_enumerated)

in_bits : {c : Constraint} {s : List Bool} → IsPrimitive (a_bit_string c) (bits s) → IsAllowedSize c (length s)
in_bits (fits_bits a) = a

pub bits_fits : {k : Kind} {v : AbstractValue} {c : Constraint} {s : List Bool} {r : Bool} → k ≡ a_bit_string c → v ≡ bits s → IsTrue r ↔ IsAllowedSize c (length s) → IsTrue r ↔ IsPrimitive k v
bits_fits e f a = moved e f (onward a fits_bits in_bits)

in_octets : {c : Constraint} {s : List ℕ} → IsPrimitive (an_octet_string c) (octets s) → IsAllowedSize c (length s)
in_octets (fits_octets b a) = a

pub octets_fits : {k : Kind} {v : AbstractValue} {c : Constraint} {s : List ℕ} {r : Bool} → k ≡ an_octet_string c → v ≡ octets s → AllBelowBase 256 s → IsTrue r ↔ IsAllowedSize c (length s) → IsTrue r ↔ IsPrimitive k v
octets_fits e f b a = moved e f (onward a (fits_octets b) in_octets)

pub octets_fits_if : {k : Kind} {v : AbstractValue} {c : Constraint} {s : List ℕ} → k ≡ an_octet_string c → v ≡ octets s → AllBelowBase 256 s → IsAllowedSize c (length s) → IsPrimitive k v
octets_fits_if e f b a = (moved e f (yes (fits_octets b a))).0 refl

in_oid : {s : List ℕ} → IsPrimitive an_object_identifier (oid s) → IsObjectIdentifier s
in_oid (fits_oid a) = a

pub oid_fits : {k : Kind} {v : AbstractValue} {s : List ℕ} {r : Bool} → k ≡ an_object_identifier → v ≡ oid s → IsTrue r ↔ IsObjectIdentifier s → IsTrue r ↔ IsPrimitive k v
oid_fits e f a = moved e f (onward a fits_oid in_oid)

in_relative : {s : List ℕ} → IsPrimitive a_relative_oid (relative_oid s) → IsRelativeOid s
in_relative (fits_relative_oid a) = a

pub relative_fits : {k : Kind} {v : AbstractValue} {s : List ℕ} {r : Bool} → k ≡ a_relative_oid → v ≡ relative_oid s → IsTrue r ↔ IsRelativeOid s → IsTrue r ↔ IsPrimitive k v
relative_fits e f a = moved e f (onward a fits_relative_oid in_relative)

in_utf8 : {c : Constraint} {s : List ℕ} → IsPrimitive (a_utf8_string c) (text s) → IsAllowedSize c (length (chars s))
in_utf8 (fits_utf8 u a) = a

pub utf8_fits : {k : Kind} {v : AbstractValue} {c : Constraint} {s : List ℕ} {r : Bool} → k ≡ a_utf8_string c → v ≡ text s → IsUtf8 s → IsTrue r ↔ IsAllowedSize c (length (chars s)) → IsTrue r ↔ IsPrimitive k v
utf8_fits e f u a = moved e f (onward a (fits_utf8 u) in_utf8)

in_restricted : {j : StringKind} {alphabet : List ℕ} {c : Constraint} {s : List ℕ} → IsPrimitive (a_restricted_string j alphabet c) (text s) → AllByRecursion (λ x. IsMember x alphabet) s × IsAllowedSize c (length s)
in_restricted (fits_restricted m a) = (m, a)

pub restricted_fits : {k : Kind} {v : AbstractValue} {j : StringKind} {alphabet : List ℕ} {c : Constraint} {s : List ℕ} {r : Bool} → k ≡ a_restricted_string j alphabet c → v ≡ text s → IsTrue r ↔ (AllByRecursion (λ x. IsMember x alphabet) s × IsAllowedSize c (length s)) → IsTrue r ↔ IsPrimitive k v
restricted_fits e f a = moved e f (onward a (λ p. fits_restricted p.0 p.1) in_restricted)

in_fields : {k : Kind} {vs : Row} → IsPrimitive k (fields vs) → ⊥
in_fields h = elim h [ ]

in_list : {k : Kind} {vs : Row} → IsPrimitive k (list vs) → ⊥
in_list h = elim h [ ]

in_alternative : {k : Kind} {i : ℕ} {v : AbstractValue} → IsPrimitive k (alternative i v) → ⊥
in_alternative h = elim h [ ]

-- a value that holds others is of no kind of those that hold none
pub fields_fit_none : {k : Kind} {v : AbstractValue} {vs : Row} → v ≡ fields vs → IsTrue Bool.false ↔ IsPrimitive k v
fields_fit_none {k} e = no (λ h. in_fields (subst (IsPrimitive k) e h))

pub list_fits_none : {k : Kind} {v : AbstractValue} {vs : Row} → v ≡ list vs → IsTrue Bool.false ↔ IsPrimitive k v
list_fits_none {k} e = no (λ h. in_list (subst (IsPrimitive k) e h))

pub alternative_fits_none : {k : Kind} {v : AbstractValue} {i : ℕ} {w : AbstractValue} → v ≡ alternative i w → IsTrue Bool.false ↔ IsPrimitive k v
alternative_fits_none {k} e = no (λ h. in_alternative (subst (IsPrimitive k) e h))

-- ---- octets, bits and numbers

pub below_256 : (s : List ℕ) → ((i : ℕ) → get_or s i 0 < 256) → AllBelowBase 256 s
below_256 [] h = tt
below_256 (x ∷ s) h = (h 0, below_256 s (λ i. h (suc i)))

all_small : (s : List ℕ) → ((i : ℕ) → get_or s i 0 < 2 ^ 64) → AllByRecursion (λ n. n < 2 ^ 64) s
all_small [] h = tt
all_small (x ∷ s) h = (h 0, all_small s (λ i. h (suc i)))

pub are_arcs : (s : List ℕ) → ((i : ℕ) → get_or s i 0 < 2 ^ 64) → 2 ≤ length s → length s ≤ 64 → get_or s 0 0 ≤ 2 → (get_or s 0 0 < 2 → get_or s 1 0 < 40) → IsObjectIdentifier s
are_arcs [] b l m f g = absurd (omega arith)
are_arcs (x ∷ []) b l m f g = absurd (omega arith)
are_arcs (x ∷ y ∷ s) b l m f g = arcs f g (b 1) (all_small s (λ i. b (suc (suc i)))) (omega arith)

-- what an OBJECT IDENTIFIER keeps
pub record Arcs (s : List ℕ) : Type 0 where
  pub two : 2 ≤ length s
  pub most : length s ≤ 64
  pub first : get_or s 0 0 ≤ 2
  pub second : get_or s 0 0 < 2 → get_or s 1 0 < 40

pub arcs_of : {s : List ℕ} → IsObjectIdentifier s → Arcs s
arcs_of (arcs f g b a m) = record { two = omega arith; most = omega arith; first = f; second = g }

pub or_first : {P Q R : Type 0} {r : Bool} → P ↔ (Q ⊎ R) → r ≡ Bool.true → IsTrue r ↔ Q → IsTrue r ↔ P
or_first a e q = (λ t. a.1 (inl (q.0 t)), λ p. e)

pub or_second : {P Q R : Type 0} {r : Bool} → P ↔ (Q ⊎ R) → (Q → ⊥) → IsTrue r ↔ R → IsTrue r ↔ P
or_second a n q = (λ t. a.1 (inr (q.0 t)), λ p. q.1 (without n (a.0 p)))

pub arcs_small : (s : List ℕ) → ((i : ℕ) → get_or s i 0 < 2 ^ 64) → 2 ≤ length s → length s ≤ 64 → get_or s 0 0 < 2 → IsTrue (ltb (get_or s 1 0) 40) ↔ IsObjectIdentifier s
arcs_small s b l m f = (
  λ t. are_arcs s b l m (omega arith) (λ h. ltb-true (get_or s 1 0) 40 t),
  λ a. lt-ltb (get_or s 1 0) 40 ((arcs_of a).second f),
)

pub arcs_large : (s : List ℕ) → ((i : ℕ) → get_or s i 0 < 2 ^ 64) → 2 ≤ length s → length s ≤ 64 → 2 ≤ get_or s 0 0 → IsTrue (eqb (get_or s 0 0) 2) ↔ IsObjectIdentifier s
arcs_large s b l m f = (
  λ t. let e = eqb-true (get_or s 0 0) 2 t in are_arcs s b l m (omega arith) (λ h. absurd (omega arith)),
  λ a. let x = (arcs_of a).first in eq-eqb (get_or s 0 0) 2 (omega arith),
)
