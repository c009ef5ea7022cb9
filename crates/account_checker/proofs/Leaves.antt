-- Contents octets don't depend on constraints, items and names.
use Rattle.std.proofs.Common.{◌≡◌, ℕ, subst, sym, ap, ◌∙◌, length}
use Rattle.std.specs.Prelude.{◌↔◌, IsTrue}
use Rattle.std.proofs.lemmas.Bool.{eqb-true, eq-eqb}
use Rattle.std.proofs.Math.Dec.{eqb}
use Rattle.std.specs.Prelude.{Bool, false, List, []}
use Rattle.asn_base.specs.declared.strings.StringKind.{StringKind}
use Rattle.asn_base.specs.Abstract.{AbstractValue}
use Rattle.asn_base.specs.Types.{Constraint, Item, NamedBit, any_number, any_size, Kind, a_boolean, an_integer, an_enumerated, a_bit_string, a_named_bit_string, an_octet_string, a_null, an_object_identifier, a_relative_oid, a_utf8_string, a_restricted_string, Resolved}
use Rattle.asn_base.specs.Same.{AlikeBy, equal, zeros}
use Rattle.encodings.specs.Rules.{Distinguished}
use Rattle.encodings.specs.Contents.{Contents, of_integer, of_enumerated, of_bits, of_named_bits, of_octets, of_utf8, of_restricted}
use Rattle.encodings.specs.declared.leaf_kind.LeafKind.{LeafKind}
use Rattle.encodings.specs.declared.leaf_kind.LeafKind.TheVariants as leaves
use Rattle.encodings.specs.Leaves.{HasContents}
use Rattle.account_checker.specs.Follows.{AreContents, HasContents as HasContents'}
use Rattle.account_checker.specs.Leaves.{IsOfKind}

module _ {s : List Resolved} where
  boolean_to : {v w : AbstractValue} {x : List ℕ} → AlikeBy [] (a_boolean) v w → Contents Distinguished (a_boolean) w false x → AreContents s (a_boolean) v x
  boolean_to {v = v} (equal l) c = (v, equal tt, c)

  boolean_from : {v w : AbstractValue} {x : List ℕ} → AlikeBy s (a_boolean) v w → Contents Distinguished (a_boolean) w false x → HasContents leaves.Boolean v x
  boolean_from {v = v} (equal l) c = record { trimmed = v; same = equal tt; contents = c }

  integer_to : {r : Constraint} {v w : AbstractValue} {x : List ℕ} → AlikeBy [] (an_integer any_number) v w → Contents Distinguished (an_integer any_number) w false x → AreContents s (an_integer r) v x
  integer_to {v = v} (equal l) (of_integer a) = (v, equal tt, (of_integer a))

  integer_from : {r : Constraint} {v w : AbstractValue} {x : List ℕ} → AlikeBy s (an_integer r) v w → Contents Distinguished (an_integer r) w false x → HasContents leaves.Integer v x
  integer_from {v = v} (equal l) (of_integer a) = record { trimmed = v; same = equal tt; contents = (of_integer a) }

  enumerated_to : {root more : List Item} {e : Bool} {v w : AbstractValue} {x : List ℕ} → AlikeBy [] (an_enumerated [] false []) v w → Contents Distinguished (an_enumerated [] false []) w false x → AreContents s (an_enumerated root e more) v x
  enumerated_to {v = v} (equal l) (of_enumerated a) = (v, equal tt, (of_enumerated a))

  enumerated_from : {root more : List Item} {e : Bool} {v w : AbstractValue} {x : List ℕ} → AlikeBy s (an_enumerated root e more) v w → Contents Distinguished (an_enumerated root e more) w false x → HasContents leaves.Enumerated v x
  enumerated_from {v = v} (equal l) (of_enumerated a) = record { trimmed = v; same = equal tt; contents = (of_enumerated a) }

  bits_to : {r : Constraint} {v w : AbstractValue} {x : List ℕ} → AlikeBy [] (a_bit_string any_size) v w → Contents Distinguished (a_bit_string any_size) w false x → AreContents s (a_bit_string r) v x
  bits_to {v = v} (equal l) (of_bits a b c) = (v, equal tt, (of_bits a b c))

  bits_from : {r : Constraint} {v w : AbstractValue} {x : List ℕ} → AlikeBy s (a_bit_string r) v w → Contents Distinguished (a_bit_string r) w false x → HasContents leaves.BitString v x
  bits_from {v = v} (equal l) (of_bits a b c) = record { trimmed = v; same = equal tt; contents = (of_bits a b c) }

  named_to : {ns : List NamedBit} {v w : AbstractValue} {x : List ℕ} → AlikeBy [] (a_named_bit_string []) v w → Contents Distinguished (a_named_bit_string []) w false x → AreContents s (a_named_bit_string ns) v x
  named_to {v = v} (equal l) (of_named_bits a b c d) = (v, equal tt, (of_named_bits a b c d))
  named_to {w = w} (zeros m n e) (of_named_bits a b c d) = (w, zeros m n e, (of_named_bits a b c d))

  named_from : {ns : List NamedBit} {v w : AbstractValue} {x : List ℕ} → AlikeBy s (a_named_bit_string ns) v w → Contents Distinguished (a_named_bit_string ns) w false x → HasContents leaves.NamedBits v x
  named_from {v = v} (equal l) (of_named_bits a b c d) = record { trimmed = v; same = equal tt; contents = (of_named_bits a b c d) }
  named_from {w = w} (zeros m n e) (of_named_bits a b c d) = record { trimmed = w; same = zeros m n e; contents = (of_named_bits a b c d) }

  octets_to : {r : Constraint} {v w : AbstractValue} {x : List ℕ} → AlikeBy [] (an_octet_string any_size) v w → Contents Distinguished (an_octet_string any_size) w false x → AreContents s (an_octet_string r) v x
  octets_to {v = v} (equal l) (of_octets a b) = (v, equal tt, (of_octets a b))

  octets_from : {r : Constraint} {v w : AbstractValue} {x : List ℕ} → AlikeBy s (an_octet_string r) v w → Contents Distinguished (an_octet_string r) w false x → HasContents leaves.OctetString v x
  octets_from {v = v} (equal l) (of_octets a b) = record { trimmed = v; same = equal tt; contents = (of_octets a b) }

  null_to : {v w : AbstractValue} {x : List ℕ} → AlikeBy [] (a_null) v w → Contents Distinguished (a_null) w false x → AreContents s (a_null) v x
  null_to {v = v} (equal l) c = (v, equal tt, c)

  null_from : {v w : AbstractValue} {x : List ℕ} → AlikeBy s (a_null) v w → Contents Distinguished (a_null) w false x → HasContents leaves.Null v x
  null_from {v = v} (equal l) c = record { trimmed = v; same = equal tt; contents = c }

  oid_to : {v w : AbstractValue} {x : List ℕ} → AlikeBy [] (an_object_identifier) v w → Contents Distinguished (an_object_identifier) w false x → AreContents s (an_object_identifier) v x
  oid_to {v = v} (equal l) c = (v, equal tt, c)

  oid_from : {v w : AbstractValue} {x : List ℕ} → AlikeBy s (an_object_identifier) v w → Contents Distinguished (an_object_identifier) w false x → HasContents leaves.ObjectIdentifier v x
  oid_from {v = v} (equal l) c = record { trimmed = v; same = equal tt; contents = c }

  relative_to : {v w : AbstractValue} {x : List ℕ} → AlikeBy [] (a_relative_oid) v w → Contents Distinguished (a_relative_oid) w false x → AreContents s (a_relative_oid) v x
  relative_to {v = v} (equal l) c = (v, equal tt, c)

  relative_from : {v w : AbstractValue} {x : List ℕ} → AlikeBy s (a_relative_oid) v w → Contents Distinguished (a_relative_oid) w false x → HasContents leaves.RelativeOid v x
  relative_from {v = v} (equal l) c = record { trimmed = v; same = equal tt; contents = c }

  utf8_to : {r : Constraint} {v w : AbstractValue} {x : List ℕ} → AlikeBy [] (a_utf8_string any_size) v w → Contents Distinguished (a_utf8_string any_size) w false x → AreContents s (a_utf8_string r) v x
  utf8_to {v = v} (equal l) (of_utf8 a b) = (v, equal tt, (of_utf8 a b))

  utf8_from : {r : Constraint} {v w : AbstractValue} {x : List ℕ} → AlikeBy s (a_utf8_string r) v w → Contents Distinguished (a_utf8_string r) w false x → HasContents leaves.Utf8String v x
  utf8_from {v = v} (equal l) (of_utf8 a b) = record { trimmed = v; same = equal tt; contents = (of_utf8 a b) }

  restricted_to : {k : StringKind} {codes : List ℕ} {r : Constraint} {v w : AbstractValue} {x : List ℕ} → AlikeBy [] (a_restricted_string k [] any_size) v w → Contents Distinguished (a_restricted_string k [] any_size) w false x → AreContents s (a_restricted_string k codes r) v x
  restricted_to {v = v} (equal l) (of_restricted a b) = (v, equal tt, (of_restricted a b))

  restricted_from : {k : StringKind} {codes : List ℕ} {r : Constraint} {v w : AbstractValue} {x : List ℕ} → AlikeBy s (a_restricted_string k codes r) v w → Contents Distinguished (a_restricted_string k codes r) w false x → HasContents (leaves.RestrictedString k) v x
  restricted_from {v = v} (equal l) (of_restricted a b) = record { trimmed = v; same = equal tt; contents = (of_restricted a b) }

pub boolean_kind : {m : Kind} → m ≡ a_boolean → IsOfKind leaves.Boolean m
boolean_kind {m = m} e = subst (λ q. IsOfKind leaves.Boolean q) (sym e) (record { is_leaf = tt; same = λ s v x. (λ h. boolean_to h.same h.contents, λ a. boolean_from a.1 a.2) })

pub integer_kind : {r : Constraint} {m : Kind} → m ≡ an_integer r → IsOfKind leaves.Integer m
integer_kind {m = m} e = subst (λ q. IsOfKind leaves.Integer q) (sym e) (record { is_leaf = tt; same = λ s v x. (λ h. integer_to h.same h.contents, λ a. integer_from a.1 a.2) })

pub enumerated_kind : {root more : List Item} {e : Bool} {m : Kind} → m ≡ an_enumerated root e more → IsOfKind leaves.Enumerated m
enumerated_kind {m = m} e = subst (λ q. IsOfKind leaves.Enumerated q) (sym e) (record { is_leaf = tt; same = λ s v x. (λ h. enumerated_to h.same h.contents, λ a. enumerated_from a.1 a.2) })

pub bits_kind : {r : Constraint} {m : Kind} → m ≡ a_bit_string r → IsOfKind leaves.BitString m
bits_kind {m = m} e = subst (λ q. IsOfKind leaves.BitString q) (sym e) (record { is_leaf = tt; same = λ s v x. (λ h. bits_to h.same h.contents, λ a. bits_from a.1 a.2) })

pub named_kind : {ns : List NamedBit} {m : Kind} → m ≡ a_named_bit_string ns → IsOfKind leaves.NamedBits m
named_kind {m = m} e = subst (λ q. IsOfKind leaves.NamedBits q) (sym e) (record { is_leaf = tt; same = λ s v x. (λ h. named_to h.same h.contents, λ a. named_from a.1 a.2) })

pub octets_kind : {r : Constraint} {m : Kind} → m ≡ an_octet_string r → IsOfKind leaves.OctetString m
octets_kind {m = m} e = subst (λ q. IsOfKind leaves.OctetString q) (sym e) (record { is_leaf = tt; same = λ s v x. (λ h. octets_to h.same h.contents, λ a. octets_from a.1 a.2) })

pub null_kind : {m : Kind} → m ≡ a_null → IsOfKind leaves.Null m
null_kind {m = m} e = subst (λ q. IsOfKind leaves.Null q) (sym e) (record { is_leaf = tt; same = λ s v x. (λ h. null_to h.same h.contents, λ a. null_from a.1 a.2) })

pub oid_kind : {m : Kind} → m ≡ an_object_identifier → IsOfKind leaves.ObjectIdentifier m
oid_kind {m = m} e = subst (λ q. IsOfKind leaves.ObjectIdentifier q) (sym e) (record { is_leaf = tt; same = λ s v x. (λ h. oid_to h.same h.contents, λ a. oid_from a.1 a.2) })

pub relative_kind : {m : Kind} → m ≡ a_relative_oid → IsOfKind leaves.RelativeOid m
relative_kind {m = m} e = subst (λ q. IsOfKind leaves.RelativeOid q) (sym e) (record { is_leaf = tt; same = λ s v x. (λ h. relative_to h.same h.contents, λ a. relative_from a.1 a.2) })

pub utf8_kind : {r : Constraint} {m : Kind} → m ≡ a_utf8_string r → IsOfKind leaves.Utf8String m
utf8_kind {m = m} e = subst (λ q. IsOfKind leaves.Utf8String q) (sym e) (record { is_leaf = tt; same = λ s v x. (λ h. utf8_to h.same h.contents, λ a. utf8_from a.1 a.2) })

pub restricted_kind : {k : StringKind} {codes : List ℕ} {r : Constraint} {m : Kind} → m ≡ a_restricted_string k codes r → IsOfKind (leaves.RestrictedString k) m
restricted_kind {k = k} {m = m} e = subst (λ q. IsOfKind (leaves.RestrictedString k) q) (sym e) (record { is_leaf = tt; same = λ s v x. (λ h. restricted_to h.same h.contents, λ a. restricted_from a.1 a.2) })

-- ---- whether octets, or a number of them, are contents

abbrev One : Type 0
One = (k : LeafKind) (v : AbstractValue) (x y : List ℕ) → HasContents k v x → HasContents k v y → x ≡ y

pub counted : One → {l : LeafKind} {k : Kind} → IsOfKind l k → (v : AbstractValue) (p : List ℕ) (n m : ℕ) {b : Bool} → HasContents l v p → length p ≡ m → b ≡ eqb m n → (s : List Resolved) → IsTrue b ↔ HasContents' s k v n
counted one {l} of v p n m {b} h e f s = (
  λ t. (p, (of.same s v p).0 h, e ∙ eqb-true m n (sym f ∙ t)),
  λ a. f ∙ eq-eqb m n (sym e ∙ ap length (one l v p a.0 h ((of.same s v a.0).1 a.1)) ∙ a.2),
)

pub not_counted : {l : LeafKind} {k : Kind} → IsOfKind l k → (v : AbstractValue) (n : ℕ) → ((x : List ℕ) → HasContents l v x → ⊥) → (s : List Resolved) → IsTrue false ↔ HasContents' s k v n
not_counted of v n none s = (λ t. absurd (cc), λ a. absurd (none a.0 ((of.same s v a.0).1 a.1)))

pub held : One → {l : LeafKind} {k : Kind} → IsOfKind l k → (v : AbstractValue) (p o : List ℕ) {b : Bool} → HasContents l v p → IsTrue b ↔ (o ≡ p) → (s : List Resolved) → IsTrue b ↔ AreContents s k v o
held one {l} {k} of v p o h e s = (
  λ t. subst (λ q. AreContents s k v q) (sym (e.0 t)) ((of.same s v p).0 h),
  λ a. e.1 (one l v o p ((of.same s v o).1 a) h),
)

pub not_held : {l : LeafKind} {k : Kind} → IsOfKind l k → (v : AbstractValue) (o : List ℕ) → ((x : List ℕ) → HasContents l v x → ⊥) → (s : List Resolved) → IsTrue false ↔ AreContents s k v o
not_held of v o none s = (λ t. absurd (cc), λ a. absurd (none o ((of.same s v o).1 a)))
