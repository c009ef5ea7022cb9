-- A CHOICE is no leaf, and by the distinguished rules a leaf is primitive.
use Rattle.std.proofs.Common.{◌≡◌, ℕ, Bool, false, List, [], refl}
use Rattle.asn_base.specs.Abstract.{AbstractValue}
use Rattle.asn_base.specs.Tags.{IsChoice}
use Rattle.asn_base.specs.Types.{Kind}
use Rattle.encodings.specs.Contents.{Contents, of_false, of_true, of_integer, of_enumerated, of_bits, of_named_bits}
use Rattle.encodings.specs.Contents.{of_octets, of_null, of_oid, of_relative_oid, of_utf8, of_restricted}
use Rattle.encodings.specs.Encoding.{Framed, bare}
use Rattle.encodings.specs.Rules.{Rules, Distinguished}

pub no_leaf : {r : Rules} {k : Kind} {v : AbstractValue} {c : Bool} {x : List ℕ} → IsChoice k → Contents r k v c x
    → ⊥
no_leaf h of_false = h
no_leaf h (of_true a l e) = h
no_leaf h (of_integer a) = h
no_leaf h (of_enumerated a) = h
no_leaf h (of_bits a e y) = h
no_leaf h (of_named_bits a e y z) = h
no_leaf h (of_octets a e) = h
no_leaf h of_null = h
no_leaf h (of_oid a) = h
no_leaf h (of_relative_oid a) = h
no_leaf h (of_utf8 a e) = h
no_leaf h (of_restricted a e) = h

pub bare_is : {r : Rules} {c : Bool} {x o : List ℕ} → Framed r [] c x o → o ≡ x
bare_is bare = refl

-- by the distinguished rules a leaf is primitive
pub leaf_form : {k : Kind} {v : AbstractValue} {c : Bool} {x : List ℕ} → Contents Distinguished k v c x
    → c ≡ false
leaf_form of_false = refl
leaf_form (of_true a l e) = refl
leaf_form (of_integer a) = refl
leaf_form (of_enumerated a) = refl
leaf_form (of_bits a e y) = e
leaf_form (of_named_bits a e y z) = e
leaf_form (of_octets a e) = e
leaf_form of_null = refl
leaf_form (of_oid a) = refl
leaf_form (of_relative_oid a) = refl
leaf_form (of_utf8 a e) = e
leaf_form (of_restricted a e) = e
