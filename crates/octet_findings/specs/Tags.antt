-- What is said of a tag that is not expected (X.690, 8.1.2; the words are own rules).
use Rattle.std.specs.Prelude.{⊤, ◌≡◌, ℕ, List, [], ◌∷◌, ◌++◌, Bool, true, false, Option, None, Some, codes}
use Rattle.std.specs.Prelude.{drop, string_bytes}
use Rattle.asn_base.specs.Types.{Kind, Resolved, a_bit_string, a_boolean, a_choice, a_named_bit_string, a_null}
use Rattle.asn_base.specs.Types.{a_relative_oid, a_restricted_string, a_sequence, a_sequence_of, a_set, a_set_of}
use Rattle.asn_base.specs.Types.{a_utf8_string, an_enumerated, an_integer, an_object_identifier, an_octet_string}
use Rattle.asn_base.specs.declared.tag.Tag.{Tag}
use Rattle.encodings.specs.Header.{Octets}
use Rattle.header_listing.specs.Words.{tag_words}
use Rattle.messages.specs.declared.fault.Finding.{Finding}
use Rattle.octets.specs.Fronts.{HeaderAt}

-- the word for a form, constructed or not (8.1.2.5)
abbrev pub form_word : Bool → List ℕ
form_word false = codes "primitive"
form_word true = codes "constructed"

-- the words for a tag and a form
abbrev pub found_tag : Tag → (constructed : Bool) → List ℕ
found_tag t c = codes "the tag " ++ (tag_words t ++ (codes " in " ++ (form_word c ++ codes " form")))

-- The one form of all values of a kind, constructed or not, or None if they have either. Values of some kinds are
-- primitive alone (8.2 to 8.5, 8.8, 8.19 and 8.20), and strings have either form (8.6, 8.7 and 8.23). Values that hold
-- others are constructed (8.9 to 8.12), and so is an explicit tag, the only one that a CHOICE has (8.13 and 8.14.3).
abbrev pub only_form : Kind → Option Bool
only_form a_boolean = Some false
only_form (an_integer c) = Some false
only_form (an_enumerated root e more) = Some false
only_form a_null = Some false
only_form an_object_identifier = Some false
only_form a_relative_oid = Some false
only_form (a_bit_string c) = None
only_form (a_named_bit_string bs) = None
only_form (an_octet_string c) = None
only_form (a_utf8_string c) = None
only_form (a_restricted_string k cs c) = None
only_form (a_sequence e cs) = Some true
only_form (a_set e cs) = Some true
only_form (a_sequence_of c t) = Some true
only_form (a_set_of c t) = Some true
only_form (a_choice root e more) = Some true

-- the words after the last tag of a type whose values have this form
abbrev pub expected_form : (form : Option Bool) → List ℕ
expected_form None = []
expected_form (Some false) = codes " in primitive form"
expected_form (Some true) = codes " in constructed form"

-- the words for tags that are each in the one before it, which is constructed (8.14.3)
abbrev pub inner_tags : List Tag → List ℕ
inner_tags [] = []
inner_tags (t ∷ ts) = codes " in constructed form, in it " ++ (tag_words t ++ inner_tags ts)

-- the tags that are expected, the outermost first, with the form of the last one, or no tag in particular
abbrev pub tag_with : List Tag → (form : List ℕ) → List ℕ
tag_with [] form = codes "one that is allowed here"
tag_with (t ∷ ts) form = tag_words t ++ (inner_tags ts ++ form)

-- the words for the tags that are expected at the first header of a part of a type
abbrev pub expected_tag : Resolved → List ℕ
expected_tag r = tag_with r.tags (expected_form (only_form r.kind))

-- no header is at the start of octets
abbrev pub HasNoHeader : Octets → Type 0
HasNoHeader o = (t : Tag) (c : Bool) (n k : ℕ) → HeaderAt t c n k o → ⊥

-- the finding has the tag and the form of the header at an offset of octets
pub record IsTagFound (o : Octets) (at : ℕ) (f : Finding) : Type 0 where
  pub tag : Tag
  pub constructed : Bool
  pub contents : ℕ
  pub long : ℕ
  pub is_there : HeaderAt tag constructed contents long (drop at o)
  pub found : string_bytes f.found ≡ found_tag tag constructed

-- there is a finding if a header is at the offset, and it is that of this header
abbrev pub FindsTag : Octets → (at : ℕ) → Option Finding → Type 0
FindsTag o at None = HasNoHeader (drop at o)
FindsTag o at (Some f) = IsTagFound o at f

-- the words for what is expected, if there is a finding
abbrev pub Expects : List ℕ → Option Finding → Type 0
Expects w None = ⊤
Expects w (Some f) = string_bytes f.expected ≡ w
