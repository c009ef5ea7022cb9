use Rattle.primitive_reader.proofs.Zeroes.{always, where_truth, where_filled, where_trimmed, of_numbers, of_items, of_strings, of_nulls, of_oids, of_relatives, of_texts, of_characters}
use Rattle.primitive_reader.proofs.der.is_distinguished.Goals as goal

pub returns-in-Boolean : goal.returns-in-Boolean
returns-in-Boolean c = where_truth c.is_truth.result c.args.contents.now c.in-Boolean.is c.is_truth.ensures

pub returns-in-BitString : goal.returns-in-BitString
returns-in-BitString c = where_filled c.is_filled.result c.args.contents.now c.in-BitString.is c.is_filled.ensures

pub returns-in-NamedBits : goal.returns-in-NamedBits
returns-in-NamedBits c = where_trimmed c.is_trimmed.result c.args.contents.now c.in-NamedBits.is c.is_trimmed.ensures

pub returns-in-Integer : goal.returns-in-Integer
returns-in-Integer c = always c.args.contents.now c.in-Integer.is of_numbers

pub returns-in-Enumerated : goal.returns-in-Enumerated
returns-in-Enumerated c = always c.args.contents.now c.in-Enumerated.is of_items

pub returns-in-OctetString : goal.returns-in-OctetString
returns-in-OctetString c = always c.args.contents.now c.in-OctetString.is of_strings

pub returns-in-Null : goal.returns-in-Null
returns-in-Null c = always c.args.contents.now c.in-Null.is of_nulls

pub returns-in-ObjectIdentifier : goal.returns-in-ObjectIdentifier
returns-in-ObjectIdentifier c = always c.args.contents.now c.in-ObjectIdentifier.is of_oids

pub returns-in-RelativeOid : goal.returns-in-RelativeOid
returns-in-RelativeOid c = always c.args.contents.now c.in-RelativeOid.is of_relatives

pub returns-in-Utf8String : goal.returns-in-Utf8String
returns-in-Utf8String c = always c.args.contents.now c.in-Utf8String.is of_texts

pub returns-in-RestrictedString : goal.returns-in-RestrictedString
returns-in-RestrictedString c = always c.args.contents.now c.in-RestrictedString.is (of_characters c.in-RestrictedString.field-0)
