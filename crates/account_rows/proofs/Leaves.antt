-- Contents octets don't depend on constraints, items and names.
use Rattle.std.proofs.Common.{◌≡◌, ℕ, refl}
use Rattle.std.specs.Prelude.{Bool, false, List, []}
use Rattle.asn_base.specs.declared.strings.StringKind.{StringKind}
use Rattle.asn_base.specs.Abstract.{AbstractValue}
use Rattle.asn_base.specs.Types.{Constraint, Item, NamedBit, any_number, any_size, Kind, a_boolean, an_integer, an_enumerated, a_bit_string, a_named_bit_string, an_octet_string, a_null, an_object_identifier, a_relative_oid, a_utf8_string, a_restricted_string, Resolved}
use Rattle.asn_base.specs.Typed.{IsPrimitive, fits_boolean, fits_integer, fits_enumerated, fits_bits, fits_named_bits, fits_octets, fits_null, fits_oid, fits_relative_oid, fits_utf8, fits_restricted}
use Rattle.asn_base.specs.Tags.{IsChoice}
use Rattle.asn_base.specs.Same.{IsLeaf, AlikeBy, equal, zeros}
use Rattle.encodings.specs.Rules.{Distinguished}
use Rattle.encodings.specs.Contents.{Contents, of_integer, of_enumerated, of_bits, of_named_bits, of_octets, of_utf8, of_restricted}
use Rattle.encodings.specs.declared.leaf_kind.LeafKind.{LeafKind}
use Rattle.encodings.specs.declared.leaf_kind.LeafKind.TheVariants as leaves
use Rattle.codec_code.specs.declared.step.RowKind.TheVariants.{Leaf as LeafRow}
use Rattle.codec_code.specs.declared.step.Step.TheVariants.{Leaf}
use Rattle.codec_code.specs.Routines.{body, row_of}
use Rattle.encodings.specs.Leaves.{HasContents}
use Rattle.std.specs.Prelude.{◌∷◌}

pub record LeafHeld (s : List Resolved) (k : Kind) (v : AbstractValue) (x : List ℕ) : Type 0 where
  pub w : AbstractValue
  pub fits : IsPrimitive k w
  pub same : AlikeBy s k v w
  pub contents : Contents Distinguished k w false x

-- what the leaf step of a kind stands for
pub record LeafStep (s : List Resolved) (k : Kind) (v : AbstractValue) : Type 0 where
  pub leaf : LeafKind
  pub steps : body s k ≡ Leaf leaf ∷ []
  pub row : row_of k ≡ LeafRow
  pub is_leaf : IsLeaf k
  pub no_choice : IsChoice k → ⊥
  pub to : (x : List ℕ) → HasContents leaf v x → LeafHeld s k v x

module _ {s : List Resolved} where
  boolean_to : {v w : AbstractValue} {x : List ℕ} → IsPrimitive a_boolean v → AlikeBy [] a_boolean v w → Contents Distinguished a_boolean w false x → LeafHeld s a_boolean v x
  boolean_to {v} f (equal l) c = record { w = v; fits = f; same = equal tt; contents = c }

  integer_to : {r : Constraint} {v w : AbstractValue} {x : List ℕ} → IsPrimitive (an_integer r) v → AlikeBy [] (an_integer any_number) v w → Contents Distinguished (an_integer any_number) w false x → LeafHeld s (an_integer r) v x
  integer_to {v = v} f (equal l) (of_integer a) = record { w = v; fits = f; same = equal tt; contents = of_integer a }

  enumerated_to : {root more : List Item} {e : Bool} {v w : AbstractValue} {x : List ℕ} → IsPrimitive (an_enumerated root e more) v → AlikeBy [] (an_enumerated [] false []) v w → Contents Distinguished (an_enumerated [] false []) w false x → LeafHeld s (an_enumerated root e more) v x
  enumerated_to {v = v} f (equal l) (of_enumerated a) = record { w = v; fits = f; same = equal tt; contents = of_enumerated a }

  bits_to : {r : Constraint} {v w : AbstractValue} {x : List ℕ} → IsPrimitive (a_bit_string r) v → AlikeBy [] (a_bit_string any_size) v w → Contents Distinguished (a_bit_string any_size) w false x → LeafHeld s (a_bit_string r) v x
  bits_to {v = v} f (equal l) (of_bits a b c) = record { w = v; fits = f; same = equal tt; contents = of_bits a b c }

  named_to : {ns : List NamedBit} {v w : AbstractValue} {x : List ℕ} → IsPrimitive (a_named_bit_string ns) v → AlikeBy [] (a_named_bit_string []) v w → Contents Distinguished (a_named_bit_string []) w false x → LeafHeld s (a_named_bit_string ns) v x
  named_to {v = v} f (equal l) (of_named_bits a b c d) = record { w = v; fits = f; same = equal tt; contents = of_named_bits a b c d }
  named_to {w = w} f (zeros m n e) (of_named_bits a b c d) = record { w = w; fits = fits_named_bits; same = zeros m n e; contents = of_named_bits a b c d }

  octets_to : {r : Constraint} {v w : AbstractValue} {x : List ℕ} → IsPrimitive (an_octet_string r) v → AlikeBy [] (an_octet_string any_size) v w → Contents Distinguished (an_octet_string any_size) w false x → LeafHeld s (an_octet_string r) v x
  octets_to {v = v} f (equal l) (of_octets a b) = record { w = v; fits = f; same = equal tt; contents = of_octets a b }

  null_to : {v w : AbstractValue} {x : List ℕ} → IsPrimitive a_null v → AlikeBy [] a_null v w → Contents Distinguished a_null w false x → LeafHeld s a_null v x
  null_to {v} f (equal l) c = record { w = v; fits = f; same = equal tt; contents = c }

  oid_to : {v w : AbstractValue} {x : List ℕ} → IsPrimitive an_object_identifier v → AlikeBy [] an_object_identifier v w → Contents Distinguished an_object_identifier w false x → LeafHeld s an_object_identifier v x
  oid_to {v} f (equal l) c = record { w = v; fits = f; same = equal tt; contents = c }

  relative_to : {v w : AbstractValue} {x : List ℕ} → IsPrimitive a_relative_oid v → AlikeBy [] a_relative_oid v w → Contents Distinguished a_relative_oid w false x → LeafHeld s a_relative_oid v x
  relative_to {v} f (equal l) c = record { w = v; fits = f; same = equal tt; contents = c }

  utf8_to : {r : Constraint} {v w : AbstractValue} {x : List ℕ} → IsPrimitive (a_utf8_string r) v → AlikeBy [] (a_utf8_string any_size) v w → Contents Distinguished (a_utf8_string any_size) w false x → LeafHeld s (a_utf8_string r) v x
  utf8_to {v = v} f (equal l) (of_utf8 a b) = record { w = v; fits = f; same = equal tt; contents = of_utf8 a b }

  restricted_to : {k : StringKind} {codes : List ℕ} {r : Constraint} {v w : AbstractValue} {x : List ℕ} → IsPrimitive (a_restricted_string k codes r) v → AlikeBy [] (a_restricted_string k [] any_size) v w → Contents Distinguished (a_restricted_string k [] any_size) w false x → LeafHeld s (a_restricted_string k codes r) v x
  restricted_to {v = v} f (equal l) (of_restricted a b) = record { w = v; fits = f; same = equal tt; contents = of_restricted a b }

  pub leaf_step : {k : Kind} {v : AbstractValue} → IsPrimitive k v → LeafStep s k v
  leaf_step (fits_boolean {b = b}) = record { leaf = leaves.Boolean; steps = refl; row = refl; is_leaf = tt; no_choice = λ h. h; to = λ x h. boolean_to fits_boolean h.same h.contents }
  leaf_step (fits_integer a b) = record { leaf = leaves.Integer; steps = refl; row = refl; is_leaf = tt; no_choice = λ h. h; to = λ x h. integer_to (fits_integer a b) h.same h.contents }
  leaf_step (fits_enumerated a b) = record { leaf = leaves.Enumerated; steps = refl; row = refl; is_leaf = tt; no_choice = λ h. h; to = λ x h. enumerated_to (fits_enumerated a b) h.same h.contents }
  leaf_step (fits_bits a) = record { leaf = leaves.BitString; steps = refl; row = refl; is_leaf = tt; no_choice = λ h. h; to = λ x h. bits_to (fits_bits a) h.same h.contents }
  leaf_step (fits_named_bits {s = b}) = record { leaf = leaves.NamedBits; steps = refl; row = refl; is_leaf = tt; no_choice = λ h. h; to = λ x h. named_to fits_named_bits h.same h.contents }
  leaf_step (fits_octets a b) = record { leaf = leaves.OctetString; steps = refl; row = refl; is_leaf = tt; no_choice = λ h. h; to = λ x h. octets_to (fits_octets a b) h.same h.contents }
  leaf_step fits_null = record { leaf = leaves.Null; steps = refl; row = refl; is_leaf = tt; no_choice = λ h. h; to = λ x h. null_to fits_null h.same h.contents }
  leaf_step (fits_oid a) = record { leaf = leaves.ObjectIdentifier; steps = refl; row = refl; is_leaf = tt; no_choice = λ h. h; to = λ x h. oid_to (fits_oid a) h.same h.contents }
  leaf_step (fits_relative_oid a) = record { leaf = leaves.RelativeOid; steps = refl; row = refl; is_leaf = tt; no_choice = λ h. h; to = λ x h. relative_to (fits_relative_oid a) h.same h.contents }
  leaf_step (fits_utf8 a b) = record { leaf = leaves.Utf8String; steps = refl; row = refl; is_leaf = tt; no_choice = λ h. h; to = λ x h. utf8_to (fits_utf8 a b) h.same h.contents }
  leaf_step (fits_restricted {k = k} a b) = record { leaf = leaves.RestrictedString k; steps = refl; row = refl; is_leaf = tt; no_choice = λ h. h; to = λ x h. restricted_to (fits_restricted a b) h.same h.contents }
