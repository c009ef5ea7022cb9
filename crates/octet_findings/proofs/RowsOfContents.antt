-- Worked rows of what is said of contents octets that are those of no value.
use Rattle.std.proofs.Common.{◌≡◌, ℕ, true, false, List, [], ◌∷◌, ◌++◌, Option, None, Some, codes, string_bytes, refl}
use Rattle.std.specs.Prelude.{decimal}
use Rattle.asn_base.specs.Types.{a_bit_string, a_boolean, a_named_bit_string, a_null, a_relative_oid, a_restricted_string, a_sequence, a_utf8_string}
use Rattle.asn_base.specs.Types.{an_enumerated, an_integer, an_octet_string, any_number, any_size, an_object_identifier}
use Rattle.std.specs.Fmt.{signed_decimal}
use Rattle.std.specs.Prelude.{pos}
use Rattle.messages.specs.declared.fault.Finding.{Finding}
use Rattle.asn_base.specs.declared.strings.StringKind.TheVariants.{Ia5, Numeric, Printable, Visible}
use Rattle.octet_findings.specs.Contents.{Says, Words, arcs_words, bits_words, characters_of, characters_words, contents_words, is_enumerated}
use Rattle.octet_findings.specs.Contents.{number_words, octet_words, utf8_words}
use Rattle.octet_findings.specs.Items.{item_words, listed_after, separated}

abbrev says : List ℕ → List ℕ → Option Words
says found expected = Some (record { found = found; expected = expected })

-- how many contents octets there are
pub two_octets_of_a_boolean : contents_words a_boolean 2 (1 ∷ 2 ∷ []) ≡ says (decimal 2 ++ codes " contents octets") (codes "one")
two_octets_of_a_boolean = refl

pub no_octets_of_a_boolean : contents_words a_boolean 2 [] ≡ says (codes "no contents octets") (codes "one")
no_octets_of_a_boolean = refl

pub an_octet_of_a_null : contents_words a_null 2 (1 ∷ []) ≡ says (codes "1 contents octet") (codes "none")
an_octet_of_a_null = refl

-- a number's first octet is needless if the first nine bits are the same
pub needless_zeros : number_words (0 ∷ 5 ∷ [])
    ≡ says (codes "a number that begins with the needless octet 00") (codes "its shortest form")
needless_zeros = refl

pub needless_ones : number_words (255 ∷ 128 ∷ [])
    ≡ says (codes "a number that begins with the needless octet FF") (codes "its shortest form")
needless_ones = refl

pub needed_zeros : number_words (0 ∷ 128 ∷ []) ≡ None
needed_zeros = refl

pub needed_ones : number_words (255 ∷ 127 ∷ []) ≡ None
needed_ones = refl

pub no_number : contents_words (an_integer any_number) 2 [] ≡ says (codes "no contents octets") (codes "at least one")
no_number = refl

-- unused bits
pub eight_unused : bits_words (8 ∷ 0 ∷ []) ≡ says (decimal 8 ++ codes " unused bits") (codes "at most 7")
eight_unused = refl

pub seven_unused : bits_words (7 ∷ 0 ∷ []) ≡ None
seven_unused = refl

pub one_unused_of_none : bits_words (1 ∷ []) ≡ says (codes "1 unused bit") (codes "none, since no octet follows")
one_unused_of_none = refl

pub none_unused : bits_words (0 ∷ []) ≡ None
none_unused = refl

-- the second number of an object identifier begins at offset 11
pub needless_septet : arcs_words 10 (42 ∷ 128 ∷ 1 ∷ [])
    ≡ says (codes "a number that begins with the needless octet 80 at offset " ++ decimal 11) (codes "its shortest form")
needless_septet = refl

-- octet 80 is not needless within a number
pub needed_septet : arcs_words 10 (42 ∷ 129 ∷ 128 ∷ 1 ∷ []) ≡ None
needed_septet = refl

pub no_end : arcs_words 10 (42 ∷ 134 ∷ []) ≡ says (codes "a last number that does not end") (codes "a last octet below 80")
no_end = refl

pub no_septets : contents_words an_object_identifier 2 [] ≡ says (codes "no contents octets") (codes "at least one")
no_septets = refl

-- the first octet that is no character, and where it is
pub no_digit : characters_words Numeric 3 (49 ∷ 97 ∷ [])
    ≡ says (codes "the octet 61 at offset " ++ decimal 4) (codes "a character of NumericString: a digit or a space")
no_digit = refl

pub characters : characters_words Visible 3 (49 ∷ 97 ∷ []) ≡ None
characters = refl

pub an_octet : octet_words (Some 255) 5 (codes "the next character in UTF-8")
    ≡ says (codes "the octet FF at offset " ++ decimal 5) (codes "the next character in UTF-8")
an_octet = refl

pub past_the_octets : octet_words None 5 (codes "the next character in UTF-8") ≡ None
past_the_octets = refl

-- of a type with components nothing is said
pub nothing_of_a_sequence : contents_words (a_sequence true []) 2 (1 ∷ []) ≡ None
nothing_of_a_sequence = refl

-- which words are said of which kind of type
module _ (at : ℕ) (x : List ℕ) where
  of_bits : contents_words (a_bit_string any_size) at x ≡ bits_words x
  of_bits = refl

  of_named_bits : contents_words (a_named_bit_string []) at x ≡ bits_words x
  of_named_bits = refl

  of_relative : contents_words a_relative_oid at x ≡ arcs_words at x
  of_relative = refl

  of_utf8 : contents_words (a_utf8_string any_size) at x ≡ utf8_words at x
  of_utf8 = refl

  of_restricted : contents_words (a_restricted_string Ia5 [] any_size) at x ≡ characters_words Ia5 at x
  of_restricted = refl

  nothing_of_octets : contents_words (an_octet_string any_size) at x ≡ None
  nothing_of_octets = refl

-- the characters of the other strings
pub of_printable : characters_of Printable
    ≡ codes "a character of PrintableString: a letter, a digit, a space or one of '()+,-./:=?"
of_printable = refl

pub of_ia5 : characters_of Ia5 ≡ codes "a character of IA5String: an octet from 00 to 7F"
of_ia5 = refl

pub of_visible : characters_of Visible ≡ codes "a character of VisibleString: an octet from 20 to 7E"
of_visible = refl

pub an_enumeration : is_enumerated (an_enumerated [] false []) ≡ true
an_enumeration = refl

pub no_enumeration : is_enumerated a_boolean ≡ false
no_enumeration = refl

-- a finding has the words, and there is none without words
module _ (f : Finding) (found expected : List ℕ) where
  said : Says (says found expected) (Some f) → (string_bytes f.found ≡ found) × (string_bytes f.expected ≡ expected)
  said h = h

  not_said : Says None (Some f) → Some f ≡ None
  not_said h = h

  not_missed : Says (says found expected) None → ⊥
  not_missed h = h

-- the first item of a list, and one after it
pub first_item : item_words (record { name = codes "a"; number = pos 1 }) ≡ codes "a " ++ signed_decimal (pos 1)
first_item = refl

pub no_comma : separated [] ≡ []
no_comma = refl

pub a_comma : separated (codes "a 1") ≡ codes "a 1, "
a_comma = refl

pub no_more_items : (listed : List ℕ) → listed_after listed [] ≡ listed
no_more_items listed = refl
