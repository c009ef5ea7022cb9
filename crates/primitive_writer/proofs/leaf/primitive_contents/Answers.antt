use Rattle.asn_base.specs.Abstract.{abstract}
use Rattle.primitive_writer.proofs.Contents.{given}
use Rattle.primitive_writer.proofs.leaf.primitive_contents.Goals as goal

pub returns-in-Boolean : goal.returns-in-Boolean
returns-in-Boolean c = given (abstract c.args.value.now) c.of_boolean.result c.in-Boolean.is c.of_boolean.ensures

pub returns-in-Integer : goal.returns-in-Integer
returns-in-Integer c = given (abstract c.args.value.now) c.of_integer.result c.in-Integer.is c.of_integer.ensures

pub returns-in-Enumerated : goal.returns-in-Enumerated
returns-in-Enumerated c = given (abstract c.args.value.now) c.of_enumerated.result c.in-Enumerated.is c.of_enumerated.ensures

pub returns-in-BitString : goal.returns-in-BitString
returns-in-BitString c = given (abstract c.args.value.now) c.of_bits.result c.in-BitString.is c.of_bits.ensures

pub returns-in-NamedBits : goal.returns-in-NamedBits
returns-in-NamedBits c = given (abstract c.args.value.now) c.of_named_bits.result c.in-NamedBits.is c.of_named_bits.ensures

pub returns-in-OctetString : goal.returns-in-OctetString
returns-in-OctetString c = given (abstract c.args.value.now) c.of_octets.result c.in-OctetString.is c.of_octets.ensures

pub returns-in-Null : goal.returns-in-Null
returns-in-Null c = given (abstract c.args.value.now) c.of_null.result c.in-Null.is c.of_null.ensures

pub returns-in-ObjectIdentifier : goal.returns-in-ObjectIdentifier
returns-in-ObjectIdentifier c = given (abstract c.args.value.now) c.of_object_identifier.result c.in-ObjectIdentifier.is c.of_object_identifier.ensures

pub returns-in-RelativeOid : goal.returns-in-RelativeOid
returns-in-RelativeOid c = given (abstract c.args.value.now) c.of_relative_oid.result c.in-RelativeOid.is c.of_relative_oid.ensures

pub returns-in-Utf8String : goal.returns-in-Utf8String
returns-in-Utf8String c = given (abstract c.args.value.now) c.of_utf8.result c.in-Utf8String.is c.of_utf8.ensures

pub returns-in-RestrictedString : goal.returns-in-RestrictedString
returns-in-RestrictedString c = given (abstract c.args.value.now) c.of_restricted.result c.in-RestrictedString.is c.of_restricted.ensures
