-- Worked rows of what is said of a tag, and of what each field of a definition says. A definition that lost a field
-- would fail one of these rows.
use Rattle.std.proofs.Common.{arith, lit<, ◌≡◌, ℕ, true, false, List, [], ◌∷◌, ◌++◌, None, Some, codes, drop, string_bytes, append-nil, refl, sym, ap}
use Rattle.std.specs.Prelude.{decimal}
use Rattle.asn_base.specs.Types.{a_boolean, a_choice, a_sequence, an_octet_string, any_size}
use Rattle.asn_base.specs.declared.tag.Class.TheVariants.{Universal, Context}
use Rattle.asn_base.specs.declared.tag.Tag.{Tag}
use Rattle.encodings.specs.Header.{Octets, identifier, short}
use Rattle.messages.specs.declared.fault.Finding.{Finding}
use Rattle.octets.specs.Fronts.{HeaderAt}
use Rattle.octet_findings.specs.Findings.{Finds, FindsRest}
use Rattle.octet_findings.specs.Places.{HasContentsDepth, HasDepth, IsLeafAt, PartFrom, a_header, after, at_header, here}
use Rattle.octet_findings.specs.Places.{in_contents, last, outer, past_encoding, some_contents, within}
use Rattle.octet_findings.specs.Tags.{Expects, FindsTag, IsTagFound, expected_tag, found_tag}
use Rattle.octet_findings.proofs.Fronts.{none_past}
use Rattle.octet_findings.proofs.Leaves.{leaf_later}

abbrev integer : Tag
integer = record { class = Universal; number = 2; in_range = lit< tt; not_reserved = λ e. lit< tt }

abbrev sequence : Tag
sequence = record { class = Universal; number = 16; in_range = lit< tt; not_reserved = λ e. lit< tt }

abbrev third : Tag
third = record { class = Context; number = 3; in_range = lit< tt; not_reserved = λ e. lit< tt }

of_integer : identifier Universal 2 false ≡ 2 ∷ []
unfolding identifier
of_integer = refl

of_sequence : identifier Universal 16 true ≡ 48 ∷ []
unfolding identifier
of_sequence = refl

-- 02 01 05, and what follows it
a_number : (rest : List ℕ) → HeaderAt integer false 1 2 (2 ∷ 1 ∷ 5 ∷ rest)
a_number rest = record {
  header = 2 ∷ 1 ∷ [];
  rest = 5 ∷ rest;
  is_header = record { size = 1 ∷ []; is_size = short (lit< tt); whole = ap (λ y. y ++ (1 ∷ [])) (sym of_integer) };
  few = omega arith;
  long = refl;
  whole = refl;
  follow = omega arith;
}

-- 30 03 02 01 05
around : HeaderAt sequence true 3 2 (48 ∷ 3 ∷ 2 ∷ 1 ∷ 5 ∷ [])
around = record {
  header = 48 ∷ 3 ∷ [];
  rest = 2 ∷ 1 ∷ 5 ∷ [];
  is_header = record { size = 3 ∷ []; is_size = short (lit< tt); whole = ap (λ y. y ++ (3 ∷ [])) (sym of_sequence) };
  few = omega arith;
  long = refl;
  whole = refl;
  follow = omega arith;
}

pub primitive_integer : found_tag integer false ≡ codes "the tag [UNIVERSAL " ++ ((decimal 2 ++ codes "]") ++ codes " in primitive form")
primitive_integer = refl

pub constructed_third : found_tag third true ≡ codes "the tag [" ++ ((decimal 3 ++ codes "]") ++ codes " in constructed form")
constructed_third = refl

-- a type with one tag, whose values are primitive alone
pub a_boolean_expected : expected_tag (record { tags = third ∷ []; kind = a_boolean }) ≡ codes "[" ++ ((decimal 3 ++ codes "]") ++ codes " in primitive form")
a_boolean_expected = refl

-- a string has either form
pub a_string_expected : expected_tag (record { tags = third ∷ []; kind = an_octet_string any_size }) ≡ codes "[" ++ ((decimal 3 ++ codes "]") ++ [])
a_string_expected = refl

-- a type with two tags: the inner one is in the outer one
pub both_tags : expected_tag (record { tags = third ∷ integer ∷ []; kind = a_boolean }) ≡ codes "[" ++ ((decimal 3 ++ codes "]") ++ (codes " in constructed form, in it [UNIVERSAL " ++ ((decimal 2 ++ codes "]") ++ codes " in primitive form")))
both_tags =
    ap (λ z. codes "[" ++ ((decimal 3 ++ codes "]") ++ (codes " in constructed form, in it [UNIVERSAL " ++ (z ++ codes " in primitive form"))))
    (append-nil (decimal 2 ++ codes "]"))

-- a type with components
pub tag_of_a_sequence : expected_tag (record { tags = sequence ∷ []; kind = a_sequence false [] }) ≡ codes "[UNIVERSAL " ++ ((decimal 16 ++ codes "]") ++ codes " in constructed form")
tag_of_a_sequence = refl

-- an untagged CHOICE
pub no_tag_of_a_choice :
    expected_tag (record { tags = []; kind = a_choice [] false [] }) ≡ codes "one that is allowed here"
no_tag_of_a_choice = refl

-- no tag is found where the octets have ended
pub no_tag_at_the_end : FindsTag (2 ∷ 1 ∷ 5 ∷ []) 4 None
no_tag_at_the_end = none_past (2 ∷ 1 ∷ 5 ∷ []) 4 (omega arith)

module _ (o : Octets) (at : ℕ) (f : Finding) (h : IsTagFound o at f) where
  there : HeaderAt h.tag h.constructed h.contents h.long (drop at o)
  there = h.is_there

  said : string_bytes f.found ≡ found_tag h.tag h.constructed
  said = h.found

-- of a finding the words for what is expected are these
module _ (f : Finding) where
  wanted : Expects (codes "[3]") (Some f) → string_bytes f.expected ≡ codes "[3]"
  wanted h = h

-- five octets of which the first three are the value, and three of which the first two are
module _ (f : Finding) where
  two_left : FindsRest (1 ∷ 2 ∷ 3 ∷ 4 ∷ 5 ∷ []) 3 (Some f)
      → Finds ((decimal 2 ++ codes " octets") ++ codes " after the whole value") (codes "the end of the message") (Some f)
  two_left h = h

  one_left : FindsRest (1 ∷ 2 ∷ 3 ∷ []) 2 (Some f)
      → Finds (codes "1 octet after the whole value") (codes "the end of the message") (Some f)
  one_left h = h

-- the contents octets of the INTEGER in the SEQUENCE start at offset 4
pub inner_leaf : IsLeafAt (48 ∷ 3 ∷ 2 ∷ 1 ∷ 5 ∷ []) 4 integer (5 ∷ [])
inner_leaf = within around (omega arith) (here (a_number []) refl refl)

-- and those of a second INTEGER after the first one
pub second_leaf : IsLeafAt (2 ∷ 1 ∷ 5 ∷ 2 ∷ 1 ∷ 5 ∷ []) 5 integer (5 ∷ [])
second_leaf = after (a_number (2 ∷ 1 ∷ 5 ∷ [])) (omega arith) (here (a_number []) refl refl)

-- no primitive contents start at the offset of the first header
pub no_leaf_at_0 : (o : Octets) (t : Tag) (x : Octets) → IsLeafAt o 0 t x → ⊥
no_leaf_at_0 o t x l = let e = leaf_later l in absurd (omega arith)

-- the contents octets after two tags
pub inner_part : PartFrom (48 ∷ 3 ∷ 2 ∷ 1 ∷ 5 ∷ []) 0 (sequence ∷ integer ∷ []) false 4 (5 ∷ [])
inner_part = outer around (last (a_number []) refl refl)

-- the header of the INTEGER in the SEQUENCE is within one header
pub inner_header : HasDepth (48 ∷ 3 ∷ 2 ∷ 1 ∷ 5 ∷ []) 2 1
inner_header = a_header
    (in_contents around (omega arith) (omega arith) (at_header (a_number []) refl refl (omega arith)))

-- that of a second INTEGER after the first one is within none
pub second_header : HasDepth (2 ∷ 1 ∷ 5 ∷ 2 ∷ 1 ∷ 5 ∷ []) 3 0
second_header = a_header
    (past_encoding (a_number (2 ∷ 1 ∷ 5 ∷ [])) (omega arith) (at_header (a_number []) refl refl (omega arith)))

-- two headers are around the contents octets of the INTEGER in the SEQUENCE
pub inner_contents : HasContentsDepth (48 ∷ 3 ∷ 2 ∷ 1 ∷ 5 ∷ []) 4 2
inner_contents = some_contents {i = 3} refl
    (in_contents around (omega arith) (omega arith) (at_header (a_number []) refl refl (omega arith))) refl
