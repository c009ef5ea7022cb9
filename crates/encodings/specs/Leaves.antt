-- Contents octets of each kind of contents that hold no others, by the distinguished rules (X.690, clauses 8.2 to 8.8,
-- 8.19, 8.20, 8.23, 10.2, 11.1 and 11.2).
use Rattle.std.specs.Prelude.{[], false}
use Rattle.asn_base.specs.Abstract.{AbstractValue}
use Rattle.asn_base.specs.Types.{any_number, any_size, Kind, a_boolean, an_integer, an_enumerated, a_bit_string}
use Rattle.asn_base.specs.Types.{a_named_bit_string, an_octet_string, a_null, an_object_identifier, a_relative_oid}
use Rattle.asn_base.specs.Types.{a_utf8_string, a_restricted_string}
use Rattle.asn_base.specs.Same.{AlikeBy}
use Rattle.encodings.specs.Header.{Octets}
use Rattle.encodings.specs.Rules.{Distinguished}
use Rattle.encodings.specs.Contents.{Contents}
use Rattle.encodings.specs.declared.leaf_kind.LeafKind.{LeafKind}
use Rattle.encodings.specs.declared.leaf_kind.LeafKind.TheVariants as leaves

-- the kind of a type with such contents, without constraints, items and names, on which contents octets don't depend
abbrev pub plain : LeafKind → Kind
plain leaves.Boolean = a_boolean
plain leaves.Integer = an_integer any_number
plain leaves.Enumerated = an_enumerated [] false []
plain leaves.BitString = a_bit_string any_size
plain leaves.NamedBits = a_named_bit_string []
plain leaves.OctetString = an_octet_string any_size
plain leaves.Null = a_null
plain leaves.ObjectIdentifier = an_object_identifier
plain leaves.RelativeOid = a_relative_oid
plain leaves.Utf8String = a_utf8_string any_size
plain (leaves.RestrictedString k) = a_restricted_string k [] any_size

-- x are the contents octets of the value by the distinguished rules. Under named bits they are those of the value
-- without zeros at its end (X.690, 11.2.2).
pub record HasContents (k : LeafKind) (v : AbstractValue) (x : Octets) : Type 0 where
  pub trimmed : AbstractValue
  pub same : AlikeBy [] (plain k) v trimmed
  pub contents : Contents Distinguished (plain k) trimmed false x
