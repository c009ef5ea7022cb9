-- What is said of contents octets that are those of no value of their type (X.690, 8.2 to 8.8, 8.19, 8.20 and 8.23; the
-- words are own rules). They start at an offset of the message.
use Rattle.std.specs.Prelude.{◌≡◌, ℕ, ◌+◌, ◌==◌, nat_le, nat_lt, if◌then◌else◌, List, [], ◌∷◌, ◌++◌, Bool, true, false}
use Rattle.std.specs.Prelude.{◌&&◌, not, Option, None, Some, codes, decimal, length, slice_get}
use Rattle.std.specs.List.{position_from}
use Rattle.std.specs.Str.Lossy.{utf8_valid_len}
use Rattle.asn_base.specs.Schemas.{is_character}
use Rattle.asn_base.specs.Types.{Kind, a_bit_string, a_boolean, a_choice, a_named_bit_string, a_null, a_relative_oid}
use Rattle.asn_base.specs.Types.{a_restricted_string, a_sequence, a_sequence_of, a_set, a_set_of, a_utf8_string}
use Rattle.asn_base.specs.Types.{an_enumerated, an_integer, an_object_identifier, an_octet_string}
use Rattle.asn_base.specs.declared.strings.StringKind.{StringKind}
use Rattle.asn_base.specs.declared.strings.StringKind.TheVariants as strings
use Rattle.asn_base.specs.declared.tag.Tag.{Tag}
use Rattle.encodings.specs.Header.{Octets}
use Rattle.messages.specs.declared.fault.Finding.{Finding}
use Rattle.octet_findings.specs.Findings.{Finds, counted}
use Rattle.octet_findings.specs.Places.{IsLeafAt}
use Rattle.value_text.specs.Print.{hex_digits}

-- the words for what is found, and for what is expected in its place
pub record Words : Type 0 where
  pub found : List ℕ
  pub expected : List ℕ

-- there is a finding with these words; or there is none, if there are no words
abbrev pub Says : Option Words → Option Finding → Type 0
Says None o = o ≡ None
Says (Some w) o = Finds w.found w.expected o

-- the number of contents octets is found
abbrev pub count_words : ℕ → (expected : List ℕ) → Option Words
count_words n expected = Some (record { found = counted n (codes "contents octet"); expected = expected })

-- the first nine bits are the same: the first octet is needless (8.3.2)
abbrev pub is_needless : (first second : ℕ) → Bool
is_needless x y = if x == 0 then nat_lt y 128 else (if x == 255 then nat_le 128 y else false)

-- of a number in two's complement (8.3)
abbrev pub number_words : Octets → Option Words
number_words [] = count_words 0 (codes "at least one")
number_words (x ∷ []) = None
number_words (x ∷ y ∷ ys) =
    if is_needless x y
    then Some (record {
      found = codes "a number that begins with the needless octet " ++ hex_digits (x ∷ []);
      expected = codes "its shortest form";
    })
    else None

-- the number of unused bits is found
abbrev pub unused_words : ℕ → (expected : List ℕ) → Option Words
unused_words n expected = Some (record { found = counted n (codes "unused bit"); expected = expected })

-- of a BIT STRING, whose first octet is the number of unused bits in the last one (8.6.2)
abbrev pub bits_words : Octets → Option Words
bits_words [] = count_words 0 (codes "an octet for the number of unused bits")
bits_words (u ∷ []) =
    if nat_lt 7 u
    then unused_words u (codes "at most 7")
    else (if u == 0 then None else unused_words u (codes "none, since no octet follows"))
bits_words (u ∷ y ∷ ys) = if nat_lt 7 u then unused_words u (codes "at most 7") else None

-- The first place from `place` on where a number in septets begins with octet 80 (8.19.2). The flag says whether a
-- number begins at `place`.
abbrev pub needless_from : (begins : Bool) → (place : ℕ) → Octets → Option ℕ
needless_from begins place [] = None
needless_from begins place (x ∷ xs) =
    if begins && (x == 128) then Some place else needless_from (nat_lt x 128) (place + 1) xs

-- whether the last number in septets ends: its last octet is below 80
abbrev pub ends_after : (ends : Bool) → Octets → Bool
ends_after ends [] = ends
ends_after ends (x ∷ xs) = ends_after (nat_lt x 128) xs

-- of numbers in septets that have no needless octet
abbrev pub last_words : Octets → Option Words
last_words [] = count_words 0 (codes "at least one")
last_words (x ∷ xs) =
    if ends_after true (x ∷ xs)
    then None
    else Some (record { found = codes "a last number that does not end"; expected = codes "a last octet below 80" })

-- of numbers in septets, if one begins with a needless octet at this place
abbrev pub septets_words : (at : ℕ) → Octets → (needless : Option ℕ) → Option Words
septets_words at x None = last_words x
septets_words at x (Some i) = Some (record {
  found = codes "a number that begins with the needless octet 80 at offset " ++ decimal (at + i);
  expected = codes "its shortest form";
})

-- of an OBJECT IDENTIFIER or a RELATIVE-OID (8.19 and 8.20)
abbrev pub arcs_words : (at : ℕ) → Octets → Option Words
arcs_words at x = septets_words at x (needless_from true 0 x)

-- an octet is found at an offset of the message, if there is one
abbrev pub octet_words : Option ℕ → (at : ℕ) → (expected : List ℕ) → Option Words
octet_words None at expected = None
octet_words (Some x) at expected = Some (record {
  found = codes "the octet " ++ (hex_digits (x ∷ []) ++ (codes " at offset " ++ decimal at));
  expected = expected;
})

-- of a UTF8String: the first octet after the longest front that is UTF-8 (8.23.10)
abbrev pub utf8_words : (at : ℕ) → Octets → Option Words
utf8_words at x =
    octet_words (slice_get x (utf8_valid_len x)) (at + utf8_valid_len x) (codes "the next character in UTF-8")

-- the words for the characters of a kind of string (X.680, 41)
abbrev pub characters_of : StringKind → List ℕ
characters_of strings.Numeric = codes "a character of NumericString: a digit or a space"
characters_of strings.Printable =
    codes "a character of PrintableString: a letter, a digit, a space or one of '()+,-./:=?"
characters_of strings.Ia5 = codes "a character of IA5String: an octet from 00 to 7F"
characters_of strings.Visible = codes "a character of VisibleString: an octet from 20 to 7E"

-- the octet at this place, if there is one, is no character of the kind of string
abbrev pub place_words : StringKind → (at : ℕ) → Octets → (place : Option ℕ) → Option Words
place_words k at x None = None
place_words k at x (Some i) = octet_words (slice_get x i) (at + i) (characters_of k)

-- of a string with an octet for each character: the first octet that is no character (8.23.5)
abbrev pub characters_words : StringKind → (at : ℕ) → Octets → Option Words
characters_words k at x = place_words k at x (position_from (λ c. not (is_character k c)) 0 x)

-- of contents octets of a type of this kind; of an ENUMERATED see `Items`
abbrev pub contents_words : Kind → (at : ℕ) → Octets → Option Words
contents_words a_boolean at x = count_words (length x) (codes "one")  -- 8.2.1
contents_words a_null at x = count_words (length x) (codes "none")  -- 8.8.2
contents_words (an_integer c) at x = number_words x
contents_words (an_enumerated root e more) at x = None
contents_words (a_bit_string c) at x = bits_words x
contents_words (a_named_bit_string bs) at x = bits_words x
contents_words (an_octet_string c) at x = None
contents_words an_object_identifier at x = arcs_words at x
contents_words a_relative_oid at x = arcs_words at x
contents_words (a_utf8_string c) at x = utf8_words at x
contents_words (a_restricted_string k cs c) at x = characters_words k at x
contents_words (a_sequence e cs) at x = None
contents_words (a_set e cs) at x = None
contents_words (a_sequence_of c t) at x = None
contents_words (a_set_of c t) at x = None
contents_words (a_choice root e more) at x = None

-- of contents octets that are encodings, in a value whose type has this form alone, constructed or not
abbrev pub constructed_words : (form : Option Bool) → Option Words
constructed_words None = None
constructed_words (Some false) = Some (record {
  found = codes "contents octets of constructed form";
  expected = codes "those of primitive form";
})
constructed_words (Some true) = None

-- whether a type of this kind is an ENUMERATED
abbrev pub is_enumerated : Kind → Bool
is_enumerated (an_enumerated root e more) = true
is_enumerated k = false

-- what is said of contents octets at an offset of message o that are those of no value of a type of this kind
pub data FindsContents (k : Kind) (o : Octets) (at : ℕ) (f : Option Finding) : Type 0 where
  -- primitive contents octets start there
  there : {t : Tag} {x : Octets} → IsLeafAt o at t x → Says (contents_words k at x) f → FindsContents k o at f
  nothing : ((t : Tag) (x : Octets) → IsLeafAt o at t x → ⊥) → f ≡ None → FindsContents k o at f
