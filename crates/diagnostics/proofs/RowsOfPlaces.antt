-- Worked rows of the words for places.
use Rattle.std.proofs.Common.{◌≡◌, ℕ, List, [], ◌++◌, None, Some, codes, refl, ◌∙◌, ap}
use Rattle.std.proofs.Math.Utf8.{encode}
use Rattle.std.specs.Fmt.{digits}
use Rattle.std.specs.Str.{chars}
use Rattle.account_text.specs.declared.stop.Stop.TheVariants as stops
use Rattle.source_text.specs.Lines.{column_of, line_of}
use Rattle.diagnostics.specs.Places.{SaysAccount, SaysReading, construct_words, located, module_in, or_first}
use Rattle.diagnostics.specs.Places.{stop_words}

-- ---- texts

second_line : located (codes "m.asn") (codes "A\nBC") (Some 3) ≡ codes ": m.asn:2:2: "
unfolding digits line_of column_of
second_line = refl

-- the line comes first
third_column : located (codes "m.asn") (codes "ABCD") (Some 2) ≡ codes ": m.asn:1:3: "
unfolding digits line_of column_of
third_column = refl

no_octet : located (codes "m.asn") (codes "A\nBC") None ≡ codes ": m.asn: "
no_octet = refl

construct_after_a_space : construct_words (codes "ANY") ≡ codes " ANY"
construct_after_a_space = refl

no_construct : construct_words [] ≡ []
no_construct = refl

module_before_the_dot : module_in (codes "M.T.a") ≡ codes "M"
module_before_the_dot = refl

no_module_without_a_dot : module_in (codes "MT") ≡ []
no_module_without_a_dot = refl

no_module_before_a_dot_at_the_front : module_in (codes ".T") ≡ []
no_module_before_a_dot_at_the_front = refl

place_or_first : or_first (Some 7) ≡ 7
place_or_first = refl

-- ---- octets and bits that can't be read

reading_at_octet : (line : List ℕ)
    → SaysReading (codes "octet") 17 (codes "a.b[2].c") line
    → (words : List ℕ) × (line ≡ codes ": at octet 17, in a.b[2].c: " ++ words)
unfolding digits chars
reading_at_octet line h =
    (h.words, h.is ∙ ap (λ p. codes ": at octet 17, in " ++ (p ++ (codes ": " ++ h.words))) h.shown)

reading_at_bit : (line : List ℕ)
    → SaysReading (codes "bit") 5 [] line
    → (words : List ℕ) × (line ≡ codes ": at bit 5: " ++ words)
unfolding digits
reading_at_bit line h = (h.words, h.is)

-- ---- accounts

account_not_text : (line : List ℕ)
    → SaysAccount (codes "a.json") (stops.NotText 7) line
    → line ≡ codes ": a.json: at octet 7: found octets that are not UTF-8, expected text in JSON"
unfolding digits chars encode
account_not_text line h =
    h.is ∙ ap (λ f. codes ": " ++ (f ++ (codes ": " ++ stop_words (stops.NotText 7)))) h.shown

no_array : stop_words stops.NotArray ≡ codes "at octet 0: found no JSON array, expected an array of rows"
no_array = refl

no_row : stop_words (stops.NotRow 2 41)
    ≡ codes "at octet 41, in row 2: found no row, expected a kind and its numbers in an array"
unfolding digits
no_row = refl

more_text : stop_words (stops.Behind 41) ≡ codes "at octet 41: found more text after the rows, expected its end"
unfolding digits
more_text = refl

other_rows : stop_words (stops.NotOne 3)
    ≡ codes "found rows that are not those of one account, 3 of them, expected after each row as many members as it says, at most 400 deep"
unfolding digits
other_rows = refl
