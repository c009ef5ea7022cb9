-- What octets say by stricter rules they say by the others.
use Rattle.std.proofs.Common.{ℕ, Bool, List}
use Rattle.asn_base.specs.declared.tag.Tag.{Tag}
use Rattle.asn_base.specs.Abstract.{AbstractValue, Row}
use Rattle.asn_base.specs.Types.{Kind, Component, Resolved}
use Rattle.encodings.specs.Rules.{Rules, Basic, Unsorted, Distinguished}
use Rattle.encodings.specs.Header.{HeaderBy}
use Rattle.encodings.specs.Contents.{Contents, of_false, of_true, of_integer, of_enumerated, of_bits, of_named_bits, of_octets, of_null, of_oid, of_relative_oid, of_utf8, of_restricted}
use Rattle.encodings.specs.Encoding.{Framed, bare, innermost, outer, EncodesTo, says, ContentsEncode, leaf, sequence, set, sequence_of, set_of, choice, Members, no_member, left_out, member, Elements, no_element, element}

basic_header : {q : Rules} {t : Tag} {c : Bool} {n : ℕ} {h : List ℕ} → HeaderBy q t c n h → HeaderBy Basic t c n h
basic_header a = record { header = a.header; fewest = tt }

basic_frame : {q : Rules} {ts : List Tag} {c : Bool} {x o : List ℕ} → Framed q ts c x o → Framed Basic ts c x o
basic_frame bare = bare
basic_frame (innermost h) = innermost (basic_header h)
basic_frame (outer f h) = outer (basic_frame f) (basic_header h)

basic_contents : {q : Rules} {k : Kind} {v : AbstractValue} {c : Bool} {x : List ℕ} → Contents q k v c x
    → Contents Basic k v c x
basic_contents of_false = of_false
basic_contents (of_true a l e) = of_true a l tt
basic_contents (of_integer a) = of_integer a
basic_contents (of_enumerated a) = of_enumerated a
basic_contents (of_bits a e y) = of_bits a tt tt
basic_contents (of_named_bits a e y z) = of_named_bits a tt tt tt
basic_contents (of_octets a e) = of_octets a tt
basic_contents of_null = of_null
basic_contents (of_oid a) = of_oid a
basic_contents (of_relative_oid a) = of_relative_oid a
basic_contents (of_utf8 a e) = of_utf8 a tt
basic_contents (of_restricted a e) = of_restricted a tt

mutual
  -- what octets say by any rules they say by the basic ones
  pub basic_of : {q : Rules} {s : List Resolved} {t : ℕ} {v : AbstractValue} {n : ℕ} {o : List ℕ}
      → EncodesTo s q t v n o → EncodesTo s Basic t v n o
  basic_of (says i h fr) = says i (basic_holds h) (basic_frame fr)

  basic_holds : {q : Rules} {s : List Resolved} {k : Kind} {v : AbstractValue} {n : ℕ} {c : Bool} {x : List ℕ}
      → ContentsEncode s q k v n c x → ContentsEncode s Basic k v n c x
  basic_holds (leaf con) = leaf (basic_contents con)
  basic_holds (sequence ms u) = sequence (basic_members ms) u
  basic_holds (set ms p st u m) = set (basic_members ms) p tt u m
  basic_holds (sequence_of es) = sequence_of (basic_elements es)
  basic_holds (set_of es st) = set_of (basic_elements es) tt
  basic_holds (choice g a) = choice g (basic_of a)

  basic_members : {q : Rules} {s : List Resolved} {cs : List Component} {vs : Row} {n : ℕ} {xs : List (List ℕ)}
      → Members s q cs vs n xs → Members s Basic cs vs n xs
  basic_members no_member = no_member
  basic_members (left_out m ms) = left_out m (basic_members ms)
  basic_members (member a d ms) = member (basic_of a) tt (basic_members ms)

  basic_elements : {q : Rules} {s : List Resolved} {u : ℕ} {vs : Row} {n : ℕ} {xs : List (List ℕ)}
      → Elements s q u vs n xs → Elements s Basic u vs n xs
  basic_elements no_element = no_element
  basic_elements (element a es) = element (basic_of a) (basic_elements es)

-- beside order the distinguished rules ask the same

strict_header : {t : Tag} {c : Bool} {n : ℕ} {h : List ℕ} → HeaderBy Unsorted t c n h → HeaderBy Distinguished t c n h
strict_header a = record { header = a.header; fewest = a.fewest }

pub strict_frame : {ts : List Tag} {c : Bool} {x o : List ℕ} → Framed Unsorted ts c x o → Framed Distinguished ts c x o
strict_frame bare = bare
strict_frame (innermost h) = innermost (strict_header h)
strict_frame (outer f h) = outer (strict_frame f) (strict_header h)

pub strict_contents : {k : Kind} {v : AbstractValue} {c : Bool} {x : List ℕ} → Contents Unsorted k v c x
    → Contents Distinguished k v c x
strict_contents of_false = of_false
strict_contents (of_true a l e) = of_true a l e
strict_contents (of_integer a) = of_integer a
strict_contents (of_enumerated a) = of_enumerated a
strict_contents (of_bits a e y) = of_bits a e y
strict_contents (of_named_bits a e y z) = of_named_bits a e y z
strict_contents (of_octets a e) = of_octets a e
strict_contents of_null = of_null
strict_contents (of_oid a) = of_oid a
strict_contents (of_relative_oid a) = of_relative_oid a
strict_contents (of_utf8 a e) = of_utf8 a e
strict_contents (of_restricted a e) = of_restricted a e

unsorted_header : {t : Tag} {c : Bool} {n : ℕ} {h : List ℕ} → HeaderBy Distinguished t c n h → HeaderBy Unsorted t c n h
unsorted_header a = record { header = a.header; fewest = a.fewest }

unsorted_frame : {ts : List Tag} {c : Bool} {x o : List ℕ} → Framed Distinguished ts c x o → Framed Unsorted ts c x o
unsorted_frame bare = bare
unsorted_frame (innermost h) = innermost (unsorted_header h)
unsorted_frame (outer f h) = outer (unsorted_frame f) (unsorted_header h)

unsorted_contents : {k : Kind} {v : AbstractValue} {c : Bool} {x : List ℕ} → Contents Distinguished k v c x
    → Contents Unsorted k v c x
unsorted_contents of_false = of_false
unsorted_contents (of_true a l e) = of_true a l e
unsorted_contents (of_integer a) = of_integer a
unsorted_contents (of_enumerated a) = of_enumerated a
unsorted_contents (of_bits a e y) = of_bits a e y
unsorted_contents (of_named_bits a e y z) = of_named_bits a e y z
unsorted_contents (of_octets a e) = of_octets a e
unsorted_contents of_null = of_null
unsorted_contents (of_oid a) = of_oid a
unsorted_contents (of_relative_oid a) = of_relative_oid a
unsorted_contents (of_utf8 a e) = of_utf8 a e
unsorted_contents (of_restricted a e) = of_restricted a e

mutual
  -- what octets say by the distinguished rules they say by them without the order
  pub unsorted_of : {s : List Resolved} {t : ℕ} {v : AbstractValue} {n : ℕ} {o : List ℕ}
      → EncodesTo s Distinguished t v n o → EncodesTo s Unsorted t v n o
  unsorted_of (says i h fr) = says i (unsorted_holds h) (unsorted_frame fr)

  pub unsorted_holds : {s : List Resolved} {k : Kind} {v : AbstractValue} {n : ℕ} {c : Bool} {x : List ℕ}
      → ContentsEncode s Distinguished k v n c x → ContentsEncode s Unsorted k v n c x
  unsorted_holds (leaf con) = leaf (unsorted_contents con)
  unsorted_holds (sequence ms u) = sequence (unsorted_members ms) u
  unsorted_holds (set ms p st u m) = set (unsorted_members ms) p tt u m
  unsorted_holds (sequence_of es) = sequence_of (unsorted_elements es)
  unsorted_holds (set_of es st) = set_of (unsorted_elements es) tt
  unsorted_holds (choice g a) = choice g (unsorted_of a)

  unsorted_members : {s : List Resolved} {cs : List Component} {vs : Row} {n : ℕ} {xs : List (List ℕ)}
      → Members s Distinguished cs vs n xs → Members s Unsorted cs vs n xs
  unsorted_members no_member = no_member
  unsorted_members (left_out m ms) = left_out m (unsorted_members ms)
  unsorted_members (member a d ms) = member (unsorted_of a) d (unsorted_members ms)

  unsorted_elements : {s : List Resolved} {u : ℕ} {vs : Row} {n : ℕ} {xs : List (List ℕ)}
      → Elements s Distinguished u vs n xs → Elements s Unsorted u vs n xs
  unsorted_elements no_element = no_element
  unsorted_elements (element a es) = element (unsorted_of a) (unsorted_elements es)
