-- Worked rows: which types take which constraints.
use Rattle.std.proofs.Common.{◌≡◌, ℕ, true, false, List, [], ◌∷◌, map, None, refl}
use Rattle.asn_base.specs.declared.strings.StringKind.TheVariants.{Numeric, Printable, Ia5, Visible}
use Rattle.trees.specs.declared.types.ElementsKind.TheVariants.{SequenceOf, SetOf}
use Rattle.trees.specs.declared.types.ListKind.TheVariants.{Sequence, Set, Choice}
use Rattle.trees.specs.Types.{a_boolean, an_integer, a_bit_string, an_octet_string, a_null, an_object_identifier, a_relative_oid, an_enumerated, a_utf8_string, a_restricted_string}
use Rattle.type_table.specs.Table.{WrittenKind, simple, members, elements}
use Rattle.constraints.specs.Constraints.{has_size, has_alphabet, is_integer, may_extend}

-- the name a
abbrev name : List ℕ
name = 97 ∷ []

-- BOOLEAN, INTEGER, NULL, the identifiers of objects, ENUMERATED
abbrev plain : List WrittenKind
plain =
    simple a_boolean ∷ simple (an_integer []) ∷ simple a_null ∷ simple an_object_identifier ∷ simple a_relative_oid
    ∷ simple (an_enumerated [] None) ∷ []

-- BIT STRING without and with named bits, OCTET STRING
abbrev binary : List WrittenKind
binary = simple (a_bit_string []) ∷ simple (a_bit_string ((name, 0) ∷ [])) ∷ simple an_octet_string ∷ []

-- UTF8String, and the four others
abbrev texts : List WrittenKind
texts =
    simple a_utf8_string ∷ simple (a_restricted_string Numeric) ∷ simple (a_restricted_string Printable)
    ∷ simple (a_restricted_string Ia5) ∷ simple (a_restricted_string Visible) ∷ []

-- SEQUENCE, SET and CHOICE, SEQUENCE OF and SET OF
abbrev holding : List WrittenKind
holding =
    members Sequence false [] ∷ members Set false [] ∷ members Choice false [] ∷ elements SequenceOf 0
    ∷ elements SetOf 0 ∷ []

sizes_of_plain : map has_size plain ≡ false ∷ false ∷ false ∷ false ∷ false ∷ false ∷ []
sizes_of_plain = refl

-- strings of bits take SIZE, except those with named bits
sizes_of_binary : map has_size binary ≡ true ∷ false ∷ true ∷ []
sizes_of_binary = refl

sizes_of_texts : map has_size texts ≡ true ∷ true ∷ true ∷ true ∷ true ∷ []
sizes_of_texts = refl

sizes_of_holding : map has_size holding ≡ false ∷ false ∷ false ∷ true ∷ true ∷ []
sizes_of_holding = refl

markers_of_plain : map may_extend plain ≡ false ∷ true ∷ false ∷ false ∷ false ∷ false ∷ []
markers_of_plain = refl

markers_of_binary : map may_extend binary ≡ true ∷ true ∷ true ∷ []
markers_of_binary = refl

-- the SIZE of a character string has no marker
markers_of_texts : map may_extend texts ≡ false ∷ false ∷ false ∷ false ∷ false ∷ []
markers_of_texts = refl

markers_of_holding : map may_extend holding ≡ false ∷ false ∷ false ∷ true ∷ true ∷ []
markers_of_holding = refl

-- FROM is taken by the four other strings, and not by UTF8String
alphabets_of_texts : map has_alphabet texts ≡ false ∷ true ∷ true ∷ true ∷ true ∷ []
alphabets_of_texts = refl

integers_of_plain : map is_integer plain ≡ false ∷ true ∷ false ∷ false ∷ false ∷ false ∷ []
integers_of_plain = refl
