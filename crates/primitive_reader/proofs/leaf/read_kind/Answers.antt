use Rattle.primitive_reader.proofs.Decoding.{given, refused}
use Rattle.primitive_reader.proofs.leaf.read_kind.Goals as goal

pub returns-in-Boolean-clause-ok : goal.returns-in-Boolean-clause-ok
returns-in-Boolean-clause-ok c = given c.args.contents.now c.as_boolean.result c.in-Boolean.is c.as_boolean.ensures.ok

pub returns-in-Boolean-clause-err : goal.returns-in-Boolean-clause-err
returns-in-Boolean-clause-err c = refused c.args.contents.now c.as_boolean.result c.in-Boolean.is c.as_boolean.ensures.err

pub returns-in-Integer-clause-ok : goal.returns-in-Integer-clause-ok
returns-in-Integer-clause-ok c = given c.args.contents.now c.as_integer.result c.in-Integer.is c.as_integer.ensures.ok

pub returns-in-Integer-clause-err : goal.returns-in-Integer-clause-err
returns-in-Integer-clause-err c = refused c.args.contents.now c.as_integer.result c.in-Integer.is c.as_integer.ensures.err

pub returns-in-Enumerated-clause-ok : goal.returns-in-Enumerated-clause-ok
returns-in-Enumerated-clause-ok c = given c.args.contents.now c.as_enumerated.result c.in-Enumerated.is c.as_enumerated.ensures.ok

pub returns-in-Enumerated-clause-err : goal.returns-in-Enumerated-clause-err
returns-in-Enumerated-clause-err c = refused c.args.contents.now c.as_enumerated.result c.in-Enumerated.is c.as_enumerated.ensures.err

pub returns-in-BitString-clause-ok : goal.returns-in-BitString-clause-ok
returns-in-BitString-clause-ok c = given c.args.contents.now c.as_bits.result c.in-BitString.is c.as_bits.ensures.ok

pub returns-in-BitString-clause-err : goal.returns-in-BitString-clause-err
returns-in-BitString-clause-err c = refused c.args.contents.now c.as_bits.result c.in-BitString.is c.as_bits.ensures.err

pub returns-in-NamedBits-clause-ok : goal.returns-in-NamedBits-clause-ok
returns-in-NamedBits-clause-ok c = given c.args.contents.now c.as_named_bits.result c.in-NamedBits.is c.as_named_bits.ensures.ok

pub returns-in-NamedBits-clause-err : goal.returns-in-NamedBits-clause-err
returns-in-NamedBits-clause-err c = refused c.args.contents.now c.as_named_bits.result c.in-NamedBits.is c.as_named_bits.ensures.err

pub returns-in-OctetString-clause-ok : goal.returns-in-OctetString-clause-ok
returns-in-OctetString-clause-ok c = given c.args.contents.now c.as_octets.result c.in-OctetString.is c.as_octets.ensures.ok

pub returns-in-OctetString-clause-err : goal.returns-in-OctetString-clause-err
returns-in-OctetString-clause-err c = refused c.args.contents.now c.as_octets.result c.in-OctetString.is c.as_octets.ensures.err

pub returns-in-Null-clause-ok : goal.returns-in-Null-clause-ok
returns-in-Null-clause-ok c = given c.args.contents.now c.as_null.result c.in-Null.is c.as_null.ensures.ok

pub returns-in-Null-clause-err : goal.returns-in-Null-clause-err
returns-in-Null-clause-err c = refused c.args.contents.now c.as_null.result c.in-Null.is c.as_null.ensures.err

pub returns-in-ObjectIdentifier-clause-ok : goal.returns-in-ObjectIdentifier-clause-ok
returns-in-ObjectIdentifier-clause-ok c = given c.args.contents.now c.as_object_identifier.result c.in-ObjectIdentifier.is c.as_object_identifier.ensures.ok

pub returns-in-ObjectIdentifier-clause-err : goal.returns-in-ObjectIdentifier-clause-err
returns-in-ObjectIdentifier-clause-err c = refused c.args.contents.now c.as_object_identifier.result c.in-ObjectIdentifier.is c.as_object_identifier.ensures.err

pub returns-in-RelativeOid-clause-ok : goal.returns-in-RelativeOid-clause-ok
returns-in-RelativeOid-clause-ok c = given c.args.contents.now c.as_relative_oid.result c.in-RelativeOid.is c.as_relative_oid.ensures.ok

pub returns-in-RelativeOid-clause-err : goal.returns-in-RelativeOid-clause-err
returns-in-RelativeOid-clause-err c = refused c.args.contents.now c.as_relative_oid.result c.in-RelativeOid.is c.as_relative_oid.ensures.err

pub returns-in-Utf8String-clause-ok : goal.returns-in-Utf8String-clause-ok
returns-in-Utf8String-clause-ok c = given c.args.contents.now c.as_utf8.result c.in-Utf8String.is c.as_utf8.ensures.ok

pub returns-in-Utf8String-clause-err : goal.returns-in-Utf8String-clause-err
returns-in-Utf8String-clause-err c = refused c.args.contents.now c.as_utf8.result c.in-Utf8String.is c.as_utf8.ensures.err

pub returns-in-RestrictedString-clause-ok : goal.returns-in-RestrictedString-clause-ok
returns-in-RestrictedString-clause-ok c = given c.args.contents.now c.as_restricted.result c.in-RestrictedString.is c.as_restricted.ensures.ok

pub returns-in-RestrictedString-clause-err : goal.returns-in-RestrictedString-clause-err
returns-in-RestrictedString-clause-err c = refused c.args.contents.now c.as_restricted.result c.in-RestrictedString.is c.as_restricted.ensures.err
