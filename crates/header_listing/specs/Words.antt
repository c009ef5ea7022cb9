-- The words for a tag and for the kind of a type (X.680, 17 to 31).
use Rattle.std.specs.Prelude.{ℕ, List, ◌++◌, codes, decimal}
use Rattle.asn_base.specs.Types.{Kind, a_bit_string, a_boolean, a_choice, a_named_bit_string, a_null, a_relative_oid}
use Rattle.asn_base.specs.Types.{a_restricted_string, a_sequence, a_sequence_of, a_set, a_set_of, a_utf8_string}
use Rattle.asn_base.specs.Types.{an_enumerated, an_integer, an_object_identifier, an_octet_string}
use Rattle.asn_base.specs.declared.strings.StringKind.{StringKind}
use Rattle.asn_base.specs.declared.strings.StringKind.TheVariants as strings
use Rattle.asn_base.specs.declared.tag.Class.{Class}
use Rattle.asn_base.specs.declared.tag.Class.TheVariants as classes
use Rattle.asn_base.specs.declared.tag.Tag.{Tag}

-- the words for a class in the notation of a tag, after its bracket (X.680, 31.1)
abbrev pub class_words : Class → List ℕ
class_words classes.Universal = codes "[UNIVERSAL "
class_words classes.Application = codes "[APPLICATION "
class_words classes.Context = codes "["
class_words classes.Private = codes "[PRIVATE "

-- a tag in notation, as `[3]` or `[UNIVERSAL 16]`
abbrev pub tag_words : Tag → List ℕ
tag_words t = class_words t.class ++ (decimal t.number ++ codes "]")

-- the word for a kind of string (X.680, 41)
abbrev pub string_word : StringKind → List ℕ
string_word strings.Numeric = codes "NumericString"
string_word strings.Printable = codes "PrintableString"
string_word strings.Ia5 = codes "IA5String"
string_word strings.Visible = codes "VisibleString"

-- the word for the kind of a type, after its references and tags
abbrev pub kind_word : Kind → List ℕ
kind_word a_boolean = codes "BOOLEAN"
kind_word (an_integer c) = codes "INTEGER"
kind_word (an_enumerated root e more) = codes "ENUMERATED"
kind_word (a_bit_string c) = codes "BIT STRING"
kind_word (a_named_bit_string bs) = codes "BIT STRING"
kind_word (an_octet_string c) = codes "OCTET STRING"
kind_word a_null = codes "NULL"
kind_word an_object_identifier = codes "OBJECT IDENTIFIER"
kind_word a_relative_oid = codes "RELATIVE-OID"
kind_word (a_utf8_string c) = codes "UTF8String"
kind_word (a_restricted_string k cs c) = string_word k
kind_word (a_sequence e cs) = codes "SEQUENCE"
kind_word (a_set e cs) = codes "SET"
kind_word (a_sequence_of c t) = codes "SEQUENCE OF"
kind_word (a_set_of c t) = codes "SET OF"
kind_word (a_choice root e more) = codes "CHOICE"
