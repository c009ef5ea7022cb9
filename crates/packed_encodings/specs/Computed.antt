-- The bits of a value, as a function by recursion on the value; the type is looked up at each level.
use Rattle.std.specs.Prelude.{◌≡◌, ℕ, zero, suc, ◌+◌, ◌-◌, ◌*◌, ◌/◌, ◌^◌, ◌==◌, nat_lt, min, ℤ, pos, negsuc, ◌-ℤ◌}
use Rattle.std.specs.Prelude.{nat_abs, int_le, Bool, true, false, cond, not, ◌&&◌, ◌||◌, if◌then◌else◌, List, [], ◌∷◌}
use Rattle.std.specs.Prelude.{◌++◌, length, map, replicate, take, drop, flat_map, Option, Some, None, slice_get}
use Rattle.std.specs.Prelude.{option_map}
use Rattle.std.specs.Int.Digits.{digits_of}
use Rattle.asn_base.specs.Abstract.{AbstractValue, boolean, integer, enumerated, bits, octets, text, null, oid}
use Rattle.asn_base.specs.Abstract.{relative_oid, fields, list, alternative, Row, end, absent, present}
use Rattle.asn_base.specs.Types.{Bounds, Item, Kind, a_boolean, an_integer, an_enumerated, a_bit_string}
use Rattle.asn_base.specs.Types.{a_named_bit_string, an_octet_string, a_null, an_object_identifier, a_relative_oid}
use Rattle.asn_base.specs.Types.{a_utf8_string, a_restricted_string, a_sequence, a_set, a_sequence_of, a_set_of}
use Rattle.asn_base.specs.Types.{a_choice, mandatory, optional, default, addition, TypeNumber, Component, Resolved}
use Rattle.asn_base.specs.Types.{Alternative}
use Rattle.asn_base.specs.Schemas.{components, HasValue}
use Rattle.asn_base.specs.Typed.{ValueIn}
use Rattle.bits.specs.Words.{low_bits}
use Rattle.encodings.specs.Contents.{joined}
use Rattle.encodings.specs.Encoding.{IsDefault}
use Rattle.encodings.specs.Header.{septets}
use Rattle.packed_encodings.specs.Lengths.{Bits, Items, all_bits, fewest_bits}
use Rattle.packed_encodings.specs.Leaves.{place_width, place_bits, root_bit, singly}
use Rattle.packed_encodings.specs.Orders.{canonical_place, Member, missing, standing, any_present, root_members}
use Rattle.packed_encodings.specs.Orders.{past_marker}
use Rattle.packed_encodings.specs.Orders.{canonical, has_bit, Addition, alone, bracketed, additions}
use Rattle.packed_encodings.specs.Packing.{EncodesPer, any_set, exact}

-- ---- items after their number

-- how many times 16,384 items the next fragment has
abbrev pub times : Items → ℕ
times xs = min 4 (length xs / 16384)

-- items after their number; fuel limits the number of fragments
abbrev pub counted_with : ℕ → Items → Bits
counted_with zero xs = []
counted_with (suc fuel) xs =
    if nat_lt (length xs) 128
    then false ∷ (low_bits 7 (length xs) ++ all_bits xs)
    else (if nat_lt (length xs) 16384
    then true ∷ (false ∷ (low_bits 14 (length xs) ++ all_bits xs))
    else true ∷ (true ∷ (low_bits 6 (times xs)
    ++ (all_bits (take (16384 * times xs) xs) ++ counted_with fuel (drop (16384 * times xs) xs)))))

abbrev pub counted_bits : Items → Bits
counted_bits xs = counted_with (suc (length xs)) xs

abbrev pub octets_bits : List ℕ → Bits
octets_bits o = counted_bits (map (low_bits 8) o)

abbrev pub is_from : Option ℤ → ℤ → Bool
is_from None v = true
is_from (Some l) v = int_le l v

abbrev pub is_to : Option ℤ → ℤ → Bool
is_to None v = true
is_to (Some u) v = int_le v u

abbrev pub is_in_root : Bounds → ℤ → Bool
is_in_root z v = is_from z.least v && is_to z.greatest v

abbrev pub root_sized_bits : Option ℤ → Option ℤ → Items → Bits
root_sized_bits (Some l) (Some (pos u)) xs =
    if nat_lt u 65536
    then low_bits (fewest_bits (nat_abs (pos u -ℤ l))) (nat_abs (pos (length xs) -ℤ l)) ++ all_bits xs
    else counted_bits xs
root_sized_bits l u xs = counted_bits xs

abbrev pub sized_bits : Bounds → Items → Bits
sized_bits z xs =
    if z.extensible
    then (if is_in_root z (pos (length xs))
    then false ∷ root_sized_bits z.least z.greatest xs
    else true ∷ counted_bits xs)
    else root_sized_bits z.least z.greatest xs

-- ---- numbers

abbrev pub at_least_one : List ℕ → List ℕ
at_least_one [] = 0 ∷ []
at_least_one (d ∷ ds) = d ∷ ds

-- the octets, with a zero octet before them if the first one would mean a negative number
abbrev pub with_sign : List ℕ → List ℕ
with_sign [] = 0 ∷ []
with_sign (d ∷ ds) = cond (nat_lt d 128) (d ∷ ds) (0 ∷ d ∷ ds)

abbrev pub signed_octets : ℤ → List ℕ
signed_octets (pos n) = with_sign (digits_of 256 n)
signed_octets (negsuc n) = map (λ d. 255 - d) (with_sign (digits_of 256 n))

abbrev pub root_integer_bits : Option ℤ → Option ℤ → ℤ → Bits
root_integer_bits None u v = octets_bits (signed_octets v)
root_integer_bits (Some l) None v = octets_bits (at_least_one (digits_of 256 (nat_abs (v -ℤ l))))
root_integer_bits (Some l) (Some u) v = low_bits (fewest_bits (nat_abs (u -ℤ l))) (nat_abs (v -ℤ l))

abbrev pub integer_bits : Bounds → ℤ → Bits
integer_bits z v =
    if z.extensible
    then (if is_in_root z v
    then false ∷ root_integer_bits z.least z.greatest v
    else true ∷ octets_bits (signed_octets v))
    else root_integer_bits z.least z.greatest v

-- ---- items, characters, named bits

abbrev pub is_number : ℤ → ℤ → Bool
is_number v w = int_le v w && int_le w v

abbrev pub place_of : List Item → ℤ → Option ℕ
place_of [] z = None
place_of (i ∷ is) z = if is_number i.number z then Some 0 else option_map suc (place_of is z)

abbrev pub item_bits : List Item → Bool → List Item → ℤ → Bits
item_bits root e more z = elim (place_of root z) [
  | Some i ↦ root_bit e ++ place_bits (length root) i
  | None ↦ elim (place_of more z) [ Some j ↦ true ∷ (false ∷ low_bits 6 j) | None ↦ [] ]
]

-- whether all numbers are below n
abbrev pub all_below : ℕ → List ℕ → Bool
all_below n [] = true
all_below n (c ∷ cs) = nat_lt c n && all_below n cs

abbrev pub code_place : List ℕ → ℕ → ℕ
code_place [] c = 0
code_place (d ∷ ds) c = if d == c then 0 else suc (code_place ds c)

abbrev pub character_bits : List ℕ → ℕ → Bits
character_bits a c =
    place_bits (length a) (if all_below (2 ^ place_width (length a)) a then c else code_place a c)

-- a bit before others; no bits if it would be a trailing zero bit
abbrev pub with_bit : Bool → Bits → Bits
with_bit b [] = if b then true ∷ [] else []
with_bit b (c ∷ cs) = b ∷ (c ∷ cs)

-- the bits without trailing zeros
abbrev pub trimmed : Bits → Bits
trimmed [] = []
trimmed (b ∷ bs) = with_bit b (trimmed bs)

abbrev pub leaf_bits : Kind → AbstractValue → Bits
leaf_bits a_boolean (boolean b) = b ∷ []
leaf_bits (an_integer c) (integer z) = integer_bits c.visible z
leaf_bits (an_enumerated root e more) (enumerated z) = item_bits root e more z
leaf_bits (a_bit_string c) (bits v) = sized_bits c.visible (singly v)
leaf_bits (a_named_bit_string ns) (bits v) = counted_bits (singly (trimmed v))
leaf_bits (an_octet_string c) (octets o) = sized_bits c.visible (map (low_bits 8) o)
leaf_bits an_object_identifier (oid ns) = octets_bits (flat_map septets (joined ns))
leaf_bits a_relative_oid (relative_oid ns) = octets_bits (flat_map septets ns)
leaf_bits (a_utf8_string c) (text o) = octets_bits o
leaf_bits (a_restricted_string k a c) (text o) = sized_bits c.visible (map (character_bits a) o)
leaf_bits k v = []

-- ---- open types

-- the number that eight bits are, the first one the most significant
abbrev pub octet_of : Bits → ℕ
octet_of (a ∷ b ∷ c ∷ d ∷ e ∷ f ∷ g ∷ h ∷ bs) =
    128 * cond a 1 0 + 64 * cond b 1 0 + 32 * cond c 1 0 + 16 * cond d 1 0 + 8 * cond e 1 0 + 4 * cond f 1 0
    + 2 * cond g 1 0 + cond h 1 0
octet_of bs = 0

-- the bits as whole octets, the last one filled with zero bits
abbrev pub octets_from : Bits → List ℕ
octets_from [] = []
octets_from (a ∷ b ∷ c ∷ d ∷ e ∷ f ∷ g ∷ h ∷ bs) =
    octet_of (a ∷ b ∷ c ∷ d ∷ e ∷ f ∷ g ∷ h ∷ []) ∷ octets_from bs
octets_from bs = octet_of (bs ++ replicate 8 false) ∷ []

abbrev pub padded_octets : Bits → List ℕ
padded_octets [] = 0 ∷ []
padded_octets (b ∷ bs) = octets_from (b ∷ bs)

abbrev pub open_bits : Bits → Bits
open_bits x = octets_bits (padded_octets x)

-- ---- sameness, with fuel for the levels of values, and of defaults too

abbrev pub is_default_by : (TypeNumber → AbstractValue → AbstractValue → Bool) → Component → AbstractValue → Bool
is_default_by same c w =
    elim c.presence [ default d ↦ same c.type w d | mandatory ↦ false | optional ↦ false | addition o g ↦ false ]

abbrev pub components_same : (TypeNumber → AbstractValue → AbstractValue → Bool) → List Component → Row → Row → Bool
components_same same [] end end = true
components_same same (c ∷ cs) (absent vs) (absent ws) = components_same same cs vs ws
components_same same (c ∷ cs) (present v vs) (present w ws) = same c.type v w && components_same same cs vs ws
components_same same (c ∷ cs) (absent vs) (present w ws) = is_default_by same c w && components_same same cs vs ws
components_same same (c ∷ cs) (present v vs) (absent ws) = is_default_by same c v && components_same same cs vs ws
components_same same cs vs ws = false

abbrev pub elements_same : (AbstractValue → AbstractValue → Bool) → Row → Row → Bool
elements_same same end end = true
elements_same same (present v vs) (present w ws) = same v w && elements_same same vs ws
elements_same same vs ws = false

-- the row without the first member that passes the test
abbrev pub taken_out : (AbstractValue → Bool) → Row → Option Row
taken_out test end = None
taken_out test (absent ws) = None
taken_out test (present w ws) = if test w then Some ws else option_map (present w) (taken_out test ws)

abbrev pub same_in_any_order : (AbstractValue → AbstractValue → Bool) → Row → Row → Bool
same_in_any_order same end end = true
same_in_any_order same (present v vs) ws =
    elim (taken_out (same v) ws) [ None ↦ false | Some xs ↦ same_in_any_order same vs xs ]
same_in_any_order same vs ws = false

abbrev pub equal_by : {X : Type 0} → (X → X → Bool) → List X → List X → Bool
equal_by test [] [] = true
equal_by test (x ∷ xs) (y ∷ ys) = test x y && equal_by test xs ys
equal_by test xs ys = false

abbrev pub is_bit : Bool → Bool → Bool
is_bit true b = b
is_bit false b = not b

abbrev pub equal_numbers : List ℕ → List ℕ → Bool
equal_numbers = equal_by (λ m n. m == n)

abbrev pub same_by : (TypeNumber → AbstractValue → AbstractValue → Bool) → Kind → AbstractValue → AbstractValue → Bool
same_by same k (boolean v) (boolean w) = is_bit v w
same_by same k (integer v) (integer w) = is_number v w
same_by same k (enumerated v) (enumerated w) = is_number v w
same_by same (a_named_bit_string ns) (bits v) (bits w) = equal_by is_bit (trimmed v) (trimmed w)
same_by same k (bits v) (bits w) = equal_by is_bit v w
same_by same k (octets v) (octets w) = equal_numbers v w
same_by same k (text v) (text w) = equal_numbers v w
same_by same k null null = true
same_by same k (oid v) (oid w) = equal_numbers v w
same_by same k (relative_oid v) (relative_oid w) = equal_numbers v w
same_by same k (fields vs) (fields ws) = components_same same (components k) vs ws
same_by same (a_sequence_of c u) (list vs) (list ws) = elements_same (same u) vs ws
same_by same (a_set_of c u) (list vs) (list ws) = same_in_any_order (same u) vs ws
same_by same (a_choice root e more) (alternative i v) (alternative j w) =
    (i == j) && elim (slice_get (root ++ more) i) [ None ↦ false | Some a ↦ same a.type v w ]
same_by same k v w = false

abbrev pub kind_at : List Resolved → TypeNumber → Kind
kind_at s t = elim (slice_get s t) [ None ↦ a_null | Some r ↦ r.kind ]

abbrev pub same_within : ℕ → List Resolved → TypeNumber → AbstractValue → AbstractValue → Bool
same_within zero s t v w = false
same_within (suc n) s t v w = same_by (same_within n s) (kind_at s t) v w

-- the value is the same as the component's DEFAULT; 64 is the most levels that a value has
abbrev pub is_default : List Resolved → Component → AbstractValue → Bool
is_default s c w = is_default_by (same_within 64 s) c w

-- ---- members

abbrev pub presence_bits : List (Member Bits) → Bits
presence_bits [] = []
presence_bits (missing c ∷ ms) = if has_bit c.presence then false ∷ presence_bits ms else presence_bits ms
presence_bits (standing c x ∷ ms) = if has_bit c.presence then true ∷ presence_bits ms else presence_bits ms

abbrev pub member_bits : List (Member Bits) → Bits
member_bits [] = []
member_bits (missing c ∷ ms) = member_bits ms
member_bits (standing c x ∷ ms) = x ++ member_bits ms

abbrev pub addition_map : List (Addition Bits) → Bits
addition_map [] = []
addition_map (alone (missing c) ∷ as') = false ∷ addition_map as'
addition_map (alone (standing c x) ∷ as') = true ∷ addition_map as'
addition_map (bracketed ms ∷ as') = any_present ms ∷ addition_map as'

abbrev pub addition_bits : List (Addition Bits) → Bits
addition_bits [] = []
addition_bits (alone (missing c) ∷ as') = addition_bits as'
addition_bits (alone (standing c x) ∷ as') = open_bits x ++ addition_bits as'
addition_bits (bracketed ms ∷ as') =
    if any_present ms then open_bits (presence_bits ms ++ member_bits ms) ++ addition_bits as' else addition_bits as'

abbrev pub extended_bits : Bool → (r q d : Bits) → Bits
extended_bits e r q d =
    if any_set q
    then true ∷ (r ++ (false ∷ (low_bits 6 (length q - 1) ++ (q ++ d))))
    else root_bit e ++ r

-- the bits of a SEQUENCE or SET, from its root's members in the order in which they are encoded, and all members
abbrev pub fields_bits : Bool → (root all : List (Member Bits)) → Bits
fields_bits e root all =
    extended_bits e (presence_bits root ++ member_bits root) (addition_map (additions (past_marker all)))
    (addition_bits (additions (past_marker all)))

abbrev pub structure_bits : List Resolved → Kind → List (Member Bits) → Bits
structure_bits s (a_sequence e cs) ms = fields_bits e (root_members ms) ms
structure_bits s (a_set e cs) ms = fields_bits e (canonical s (root_members ms)) ms
structure_bits s k ms = []

-- ---- lists and alternatives

-- the first bits are below the second ones, after the shorter ones are filled with zeros
abbrev pub is_below : Bits → Bits → Bool
is_below [] [] = false
is_below [] (y ∷ ys) = y || is_below [] ys
is_below (x ∷ xs) [] = false
is_below (x ∷ xs) (y ∷ ys) = (not x && y) || (not (x && not y) && is_below xs ys)

abbrev pub put : Bits → Items → Items
put x [] = x ∷ []
put x (y ∷ ys) = if is_below y x then y ∷ put x ys else x ∷ (y ∷ ys)

abbrev pub sorted : Items → Items
sorted [] = []
sorted (x ∷ xs) = put x (sorted xs)

abbrev pub list_bits : Kind → Items → Bits
list_bits (a_sequence_of c u) xs = sized_bits c.visible xs
list_bits (a_set_of c u) xs = sized_bits c.visible (sorted xs)
list_bits k xs = []

abbrev pub element_of : Kind → TypeNumber
element_of (a_sequence_of c u) = u
element_of (a_set_of c u) = u
element_of k = 0

abbrev pub type_of : Option Alternative → TypeNumber
type_of None = 0
type_of (Some a) = a.type

abbrev pub alternative_of : Kind → ℕ → TypeNumber
alternative_of (a_choice root e more) i = type_of (slice_get (root ++ more) i)
alternative_of k i = 0

abbrev pub choice_bits : List Resolved → Kind → ℕ → Bits → Bits
choice_bits s (a_choice root e more) i x =
    if nat_lt i (length root)
    then root_bit e ++ (place_bits (length root) (canonical_place s root (type_of (slice_get root i))) ++ x)
    else true ∷ (false ∷ (low_bits 6 (i - length root) ++ open_bits x))
choice_bits s k i x = []

-- ---- values

-- a test decides whether a value of a component is its DEFAULT
abbrev pub DefaultTest : Type 0
DefaultTest = Component → AbstractValue → Bool

abbrev mutual
  -- the bits of a value of type t
  pub bits_by : DefaultTest → List Resolved → AbstractValue → TypeNumber → Bits
  bits_by test s (fields ws) t = structure_bits s (kind_at s t) (members_by test s ws (components (kind_at s t)))
  bits_by test s (list ws) t = list_bits (kind_at s t) (elements_by test s ws (element_of (kind_at s t)))
  bits_by test s (alternative i w) t =
      choice_bits s (kind_at s t) i (bits_by test s w (alternative_of (kind_at s t) i))
  bits_by test s (boolean b) t = leaf_bits (kind_at s t) (boolean b)
  bits_by test s (integer z) t = leaf_bits (kind_at s t) (integer z)
  bits_by test s (enumerated z) t = leaf_bits (kind_at s t) (enumerated z)
  bits_by test s (bits v) t = leaf_bits (kind_at s t) (bits v)
  bits_by test s (octets o) t = leaf_bits (kind_at s t) (octets o)
  bits_by test s (text o) t = leaf_bits (kind_at s t) (text o)
  bits_by test s null t = leaf_bits (kind_at s t) null
  bits_by test s (oid ns) t = leaf_bits (kind_at s t) (oid ns)
  bits_by test s (relative_oid ns) t = leaf_bits (kind_at s t) (relative_oid ns)

  -- the components, with the bits of those that are written
  pub members_by : DefaultTest → List Resolved → Row → List Component → List (Member Bits)
  members_by test s end cs = []
  members_by test s (absent ws) [] = []
  members_by test s (present w ws) [] = []
  members_by test s (absent ws) (c ∷ cs) = missing c ∷ members_by test s ws cs
  members_by test s (present w ws) (c ∷ cs) =
      (if test c w then missing c else standing c (bits_by test s w c.type)) ∷ members_by test s ws cs

  pub elements_by : DefaultTest → List Resolved → Row → TypeNumber → Items
  elements_by test s end u = []
  elements_by test s (absent ws) u = elements_by test s ws u
  elements_by test s (present w ws) u = bits_by test s w u ∷ elements_by test s ws u

abbrev pub bits_of : List Resolved → AbstractValue → TypeNumber → Bits
bits_of s v t = bits_by (is_default s) s v t

-- a message: the bits of a value, filled to octets
abbrev pub octets_of : List Resolved → AbstractValue → TypeNumber → List ℕ
octets_of s v t = padded_octets (bits_of s v t)

-- bits b are the written bits of some value of type t of schema s
abbrev pub IsEncoding : List Resolved → TypeNumber → Bits → Type 0
IsEncoding s t b = (w : AbstractValue) × EncodesPer s exact t w 0 b

-- the test is true of the values of a component that are the same as its DEFAULT, and of no others
pub record DecidesDefaults (s : List Resolved) (test : DefaultTest) : Type 0 where
  pub is_default : (n : ℕ) (c : Component) (v : AbstractValue)
      → HasValue s c
      → ValueIn s n c.type v
      → IsDefault s c v
      → test c v ≡ true
  pub no_default : (n : ℕ) (c : Component) (v : AbstractValue)
      → HasValue s c
      → ValueIn s n c.type v
      → (IsDefault s c v → ⊥)
      → test c v ≡ false
