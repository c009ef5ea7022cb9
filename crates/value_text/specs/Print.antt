-- The text in which a value is printed: its value notation (X.680, clauses 18 to 29, 32, 33 and 41).
use Rattle.std.specs.Prelude.{◌≡◌, String, string_bytes}
use Rattle.std.specs.Prelude.{ℕ, ◌+◌, nat_le, ◌/◌, ◌%◌, ◌&&◌, ◌==◌, ℤ, Bool, List, [], ◌∷◌, ◌++◌}
use Rattle.std.specs.Prelude.{Option, Some, None, slice_get, codes, decimal, if◌then◌else◌}
use Rattle.std.specs.Fmt.{signed_decimal}
use Rattle.std.specs.List.{list_any}
use Rattle.std.specs.Ordering.{int_eq}
use Rattle.asn_base.specs.Abstract.{AbstractValue, boolean, integer, enumerated, bits, octets, text, null, oid}
use Rattle.asn_base.specs.Abstract.{relative_oid, fields, list, alternative, Row, end, absent, present}
use Rattle.asn_base.specs.Types.{Item, Alternative, Component, Kind, a_null, an_enumerated, a_sequence_of, a_set_of}
use Rattle.asn_base.specs.Types.{a_choice, Resolved}
use Rattle.asn_base.specs.Schemas.{components}

-- the text was added
abbrev pub Adds : {Z : Type 0} → String Z → String Z → List ℕ → Type 0
Adds old new added = string_bytes new ≡ string_bytes old ++ added

-- ---- texts in braces, apostrophes or quotes

-- the octets x of a text between braces
abbrev pub braced : List ℕ → List ℕ
braced x = codes "{" ++ (x ++ codes "}")

-- the notation TRUE or FALSE of a BOOLEAN (X.680, clause 18)
abbrev pub truth_text : Bool → List ℕ
truth_text b = if b then codes "TRUE" else codes "FALSE"

-- the binary digit of a bit, as an octet of text
abbrev pub bit_digit : Bool → ℕ
bit_digit b = if b then 49 else 48

-- the binary digits of bits, one for each, as octets of text
abbrev pub bit_digits : List Bool → List ℕ
bit_digits [] = []
bit_digits (b ∷ bs) = bit_digit b ∷ bit_digits bs

-- the notation of bits, as in '01'B, with a binary digit for each bit (X.680, clauses 12.10 and 22)
abbrev pub bit_text : List Bool → List ℕ
bit_text bs = codes "'" ++ (bit_digits bs ++ codes "'B")

-- the hexadecimal digit of a number below 16, as an octet of text: 0 to 9, and the capitals from A on
abbrev pub hex_digit : ℕ → ℕ
hex_digit n = if nat_le n 9 then 48 + n else (55 + n)

-- the hexadecimal digits of octets, two for each, the high one first
abbrev pub hex_digits : List ℕ → List ℕ
hex_digits [] = []
hex_digits (o ∷ os) = hex_digit (o / 16) ∷ hex_digit (o % 16) ∷ hex_digits os

-- the notation of octets, as in '01AF'H, with two hexadecimal digits for each octet (X.680, clauses 12.12 and 23)
abbrev pub hex_text : List ℕ → List ℕ
hex_text o = codes "'" ++ (hex_digits o ++ codes "'H")

-- the octets of a text with each quote in it twice (X.680, clause 12.14)
abbrev pub doubled : List ℕ → List ℕ
doubled [] = []
doubled (c ∷ o) = if c == 34 then (34 ∷ 34 ∷ doubled o) else (c ∷ doubled o)

-- the octets of a text between quotes, with each quote in it twice (X.680, clauses 12.14 and 41)
abbrev pub quoted : List ℕ → List ℕ
quoted o = codes "\"" ++ (doubled o ++ codes "\"")

-- whether octet c of a value's text is LF, VT, FF or CR, which end a line (X.680, clause 12.1.6)
abbrev pub is_line_end : ℕ → Bool
is_line_end c = nat_le 10 c && nat_le c 13

-- a text in quotes if no character in it ends a line, else the hexadecimal notation of its octets (own rule)
abbrev pub string_text : List ℕ → List ℕ
string_text o = if list_any is_line_end o then hex_text o else quoted o

-- numbers in decimal with a space between, and the text `before` in front of the first one
abbrev pub spaced : List ℕ → List ℕ → List ℕ
spaced before [] = []
spaced before (n ∷ ns) = before ++ (decimal n ++ spaced (codes " ") ns)

-- the text before a member: nothing if it is the first one, else a comma and a space
abbrev pub comma_after : (first : Bool) → List ℕ
comma_after first = if first then [] else codes ", "

-- ---- what the type says

-- the kind of a resolved type, or that of NULL if there is no type
abbrev pub kind_in : Option Resolved → Kind
kind_in None = a_null
kind_in (Some r) = r.kind

-- the kind of type t of schema s, or that of NULL if there is no such type
abbrev pub kind_at : List Resolved → ℕ → Kind
kind_at s t = kind_in (slice_get s t)

-- the items of an enumeration, root and additions, and none for another kind
abbrev pub items_in : Kind → List Item
items_in (an_enumerated root e more) = root ++ more
items_in k = []

-- the identifier of the first item with number z, None if no item has it
abbrev pub name_with : List Item → ℤ → Option (List ℕ)
name_with [] z = None
name_with (i ∷ is) z = if int_eq i.number z then Some i.name else name_with is z

-- the octets of an identifier, and no octets if there is none
abbrev pub name_in : Option (List ℕ) → List ℕ
name_in None = []
name_in (Some x) = x

-- the number of the type of the elements of a SEQUENCE OF or SET OF, None for another kind
abbrev pub element_in : Kind → Option ℕ
element_in (a_sequence_of c u) = Some u
element_in (a_set_of c u) = Some u
element_in k = None

-- the alternatives of a CHOICE, root and additions in order, and none for another kind
abbrev pub alternatives_in : Kind → List Alternative
alternatives_in (a_choice root e more) = root ++ more
alternatives_in k = []

-- ---- values

abbrev mutual
  -- the value notation of v, a value of type t of schema s, in octets (X.680, clauses 18 to 29, 32, 33 and 41)
  pub print : List Resolved → ℕ → AbstractValue → List ℕ
  print s t (boolean b) = truth_text b
  print s t (integer z) = signed_decimal z
  print s t (enumerated z) = name_in (name_with (items_in (kind_at s t)) z)
  print s t (bits b) = bit_text b
  print s t (octets o) = hex_text o
  print s t (text o) = string_text o
  print s t null = codes "NULL"
  print s t (oid ns) = braced (spaced [] ns)
  print s t (relative_oid ns) = braced (spaced [] ns)
  print s t (fields vs) = braced (print_fields s (components (kind_at s t)) [] vs)
  print s t (list vs) = elim (element_in (kind_at s t)) [
    | None ↦ []
    | Some u ↦ braced (print_elements s u [] vs)
  ]
  print s t (alternative i v) = elim (slice_get (alternatives_in (kind_at s t)) i) [
    | None ↦ []
    | Some a ↦ a.name ++ (codes " : " ++ print s a.type v)
  ]

  -- The text of the components that are present, each after its name, in order of definition. The text `before` comes
  -- in front of the first one, and a comma and a space between.
  pub print_fields : List Resolved → List Component → List ℕ → Row → List ℕ
  print_fields s [] before vs = []
  print_fields s (c ∷ cs) before end = []
  print_fields s (c ∷ cs) before (absent vs) = print_fields s cs before vs
  print_fields s (c ∷ cs) before (present v vs) =
      before ++ (c.name ++ (codes " " ++ (print s c.type v ++ print_fields s cs (codes ", ") vs)))

  -- The text of the elements, all of type u, in order. The text `before` comes in front of the first one, and a comma
  -- and a space between.
  pub print_elements : List Resolved → ℕ → List ℕ → Row → List ℕ
  print_elements s u before end = []
  print_elements s u before (absent vs) = print_elements s u before vs
  print_elements s u before (present v vs) = before ++ (print s u v ++ print_elements s u (codes ", ") vs)
