-- Values of the kinds that hold no others, read from the start of bits (X.691, 12 to 14, 16 to 18, 24, 25 and 30).
use Rattle.std.specs.Prelude.{ℕ, ◌+◌, ◌-◌, ◌*◌, ◌/◌, ◌%◌, ◌^◌, ◌==◌, ◌≤◌, nat_lt, ℤ, pos, negsuc, ◌+ℤ◌, ◌-ℤ◌}
use Rattle.std.specs.Prelude.{nat_abs, Bool, true, false, not, ◌&&◌, ◌||◌, if◌then◌else◌, List, [], ◌∷◌, length, map}
use Rattle.std.specs.Prelude.{Option, Some, None, option_map, slice_get, chars}
use Rattle.std.specs.Str.{is_utf8}
use Rattle.std.specs.Int.Digits.{number_from_digits}
use Rattle.asn_base.specs.Abstract.{AbstractValue, boolean, integer, enumerated, bits, octets, text, null, oid}
use Rattle.asn_base.specs.Abstract.{relative_oid}
use Rattle.asn_base.specs.Types.{Constraint, Item, Kind, a_boolean, an_integer, an_enumerated, a_bit_string}
use Rattle.asn_base.specs.Types.{a_named_bit_string, an_octet_string, a_null, an_object_identifier, a_relative_oid}
use Rattle.asn_base.specs.Types.{a_utf8_string, a_restricted_string}
use Rattle.asn_base.specs.Typed.{IsPrimitive}
use Rattle.encodings.specs.Header.{Octets}
use Rattle.packed_encodings.specs.Lengths.{Bits, fewest_bits}
use Rattle.packed_encodings.specs.Leaves.{place_width, LeafPer}
use Rattle.packed_encodings.specs.Computed.{is_in_root, all_below}
use Rattle.packed_encodings.specs.Weights.{characters}
use Rattle.decode_faults.specs.declared.refusal.Refusal.{Refusal}
use Rattle.decode_faults.specs.declared.refusal.Refusal.TheVariants as why
use Rattle.packed_readings.specs.Outcome.{Outcome, found, stops, onward, Judged, good, bad, and_then, judging, bit_from}
use Rattle.packed_readings.specs.Outcome.{field_from, small_from, each_from}
use Rattle.packed_readings.specs.Counts.{any_total, counted_from, several_bits, several_octets, octets_from, is_allowed}
use Rattle.packed_readings.specs.Counts.{sized_from}

-- ---- numbers

-- the number is from -2^127 to 2^127 - 1
abbrev pub is_within_limit : ℤ → Bool
is_within_limit (pos n) = nat_lt n (2 ^ 127)
is_within_limit (negsuc n) = nat_lt n (2 ^ 127)

-- a number that is given as one of the root
abbrev pub root_number : Constraint → ℤ → Judged AbstractValue
root_number c z =
    if is_within_limit z
    then (if is_in_root c.visible z && is_allowed c z then good (integer z) else bad why.Outside)
    else bad why.IntegerLimit

-- a number that is given as one outside the root
abbrev pub other_number : Constraint → ℤ → Judged AbstractValue
other_number c z =
    if is_within_limit z
    then (if is_in_root c.visible z
    then bad why.NotCanonical
    else (if is_allowed c z then good (integer z) else bad why.Outside))
    else bad why.IntegerLimit

-- the number that octets encode in two's complement
abbrev pub signed_worth : Octets → ℤ
signed_worth [] = pos 0
signed_worth (x ∷ o) =
    if nat_lt x 128
    then pos (number_from_digits 256 (x ∷ o))
    else negsuc (number_from_digits 256 (map (λ d. 255 - d) (x ∷ o)))

-- the number that octets encode in two's complement, if no fewer octets are enough (11.4)
abbrev pub signed_number : Octets → Judged ℤ
signed_number [] = bad why.Outside
signed_number (x ∷ []) = good (signed_worth (x ∷ []))
signed_number (x ∷ y ∷ o) =
    if ((x == 0) && nat_lt y 128) || ((x == 255) && not (nat_lt y 128))
    then bad why.NotCanonical
    else good (signed_worth (x ∷ y ∷ o))

-- the number without a sign that octets encode, if no fewer octets are enough (11.3)
abbrev pub unsigned_number : Octets → Judged ℕ
unsigned_number [] = bad why.Outside
unsigned_number (x ∷ []) = good x
unsigned_number (x ∷ y ∷ o) = if x == 0 then bad why.NotCanonical else good (number_from_digits 256 (x ∷ y ∷ o))

-- the number l + n, from the least l to the greatest l + m
abbrev pub number_between : Constraint → (l : ℤ) → (m n : ℕ) → Judged AbstractValue
number_between c l m n = if nat_lt m n then bad why.Outside else root_number c (l +ℤ pos n)

abbrev pub root_integer_from : Constraint → (least greatest : Option ℤ) → Bits → Outcome AbstractValue
root_integer_from c (Some l) (Some u) =
    judging (number_between c l (nat_abs (u -ℤ l))) (field_from (fewest_bits (nat_abs (u -ℤ l))))  -- 11.5
root_integer_from c (Some l) None =
    judging (λ o. and_then (unsigned_number o) (λ n. root_number c (l +ℤ pos n))) octets_from  -- 11.7
root_integer_from c None u = judging (λ o. and_then (signed_number o) (root_number c)) octets_from  -- 11.8

abbrev pub integer_from : Constraint → Bits → Outcome AbstractValue
integer_from c b =
    if c.visible.extensible
    then onward (bit_from b) (λ x r. if x
    then judging (λ o. and_then (signed_number o) (other_number c)) octets_from r
    else root_integer_from c c.visible.least c.visible.greatest r)  -- 13.1
    else root_integer_from c c.visible.least c.visible.greatest b  -- 13.2

-- ---- items and characters

abbrev pub at_place : {X : Type 0} → Refusal → List X → ℕ → Judged X
at_place e xs i = elim (slice_get xs i) [ None ↦ bad e | Some x ↦ good x ]

abbrev pub item_at : Refusal → List Item → ℕ → Judged AbstractValue
item_at e is i = and_then (at_place e is i) (λ x. good (enumerated x.number))

abbrev pub root_item_from : List Item → Bits → Outcome AbstractValue
root_item_from root = judging (item_at why.Outside root) (field_from (place_width (length root)))  -- 14.1, 14.2

abbrev pub item_from : (root : List Item) → (extensible : Bool) → (more : List Item) → Bits → Outcome AbstractValue
item_from root e more b =
    if e
    then onward (bit_from b) (λ x r. if x
    then judging (item_at why.UnknownEnumeration more) (small_from why.UnknownEnumeration) r  -- 14.3
    else root_item_from root r)
    else root_item_from root b

abbrev pub is_code : List ℕ → ℕ → Bool
is_code [] c = false
is_code (d ∷ ds) c = if d == c then true else is_code ds c

-- a character by its code if all codes of the alphabet fit, else by its place (30.5.4)
abbrev pub character_of : List ℕ → ℕ → Judged ℕ
character_of a n =
    if all_below (2 ^ place_width (length a)) a
    then (if is_code a n then good n else bad why.Outside)
    else at_place why.Outside a n

abbrev pub character_from : List ℕ → Bits → Outcome ℕ
character_from a = judging (character_of a) (field_from (place_width (length a)))

-- ---- contents

abbrev pub ends_in_zero : Bits → Bool
ends_in_zero [] = false
ends_in_zero (b ∷ []) = not b
ends_in_zero (b ∷ c ∷ bs) = ends_in_zero (c ∷ bs)

-- a value with named bits, without trailing zeros (16.2)
abbrev pub named_bits : Bits → Judged AbstractValue
named_bits v = if ends_in_zero v then bad why.NotCanonical else good (bits v)

-- Numbers in septets (X.690, 8.19.2); `high` is the worth of the septets so far of a number that goes on.
abbrev pub arcs_after : (high : Option ℕ) → Octets → Option (List ℕ)
arcs_after None [] = Some []
arcs_after (Some h) [] = None
arcs_after None (x ∷ o) =
    if nat_lt x 128
    then option_map (λ ns. x ∷ ns) (arcs_after None o)
    else (if x == 128 then None else arcs_after (Some (x - 128)) o)
arcs_after (Some h) (x ∷ o) =
    if nat_lt x 128
    then option_map (λ ns. (128 * h + x) ∷ ns) (arcs_after None o)
    else arcs_after (Some (128 * h + (x - 128))) o

-- the first two numbers, which are encoded as one (X.690, 8.19.4)
abbrev pub two_arcs : ℕ → List ℕ → List ℕ
two_arcs n ns = if nat_lt n 80 then (n / 40) ∷ ((n % 40) ∷ ns) else 2 ∷ ((n - 80) ∷ ns)

abbrev pub object_identifier : Option (List ℕ) → Judged AbstractValue
object_identifier None = bad why.Outside
object_identifier (Some []) = bad why.Outside
object_identifier (Some (n ∷ ns)) =
    if nat_lt n (2 ^ 64 + 80) && (all_below (2 ^ 64) ns && nat_lt (length ns) 63)
    then good (oid (two_arcs n ns))
    else bad why.OidLimit

abbrev pub relative_identifier : Option (List ℕ) → Judged AbstractValue
relative_identifier None = bad why.Outside
relative_identifier (Some []) = bad why.Outside
relative_identifier (Some (n ∷ ns)) =
    if all_below (2 ^ 64) (n ∷ ns) && nat_lt (length (n ∷ ns)) 65
    then good (relative_oid (n ∷ ns))
    else bad why.OidLimit

abbrev pub utf8_text : Constraint → Octets → Judged AbstractValue
utf8_text c o = if is_utf8 o && is_allowed c (pos (length (chars o))) then good (text o) else bad why.Outside

-- ---- leaves

-- a value of a kind that holds no others
abbrev pub leaf_from : Kind → Bits → Outcome AbstractValue
leaf_from a_boolean b = onward (bit_from b) (λ x r. found (boolean x) r)  -- 12
leaf_from (an_integer c) b = integer_from c b  -- 13
leaf_from (an_enumerated root e more) b = item_from root e more b  -- 14
leaf_from (a_bit_string c) b = onward (sized_from c several_bits b) (λ v r. found (bits v) r)  -- 16.6 to 16.11
leaf_from (a_named_bit_string ns) b = judging named_bits (counted_from any_total several_bits) b  -- 16.2
leaf_from (an_octet_string c) b = onward (sized_from c several_octets b) (λ o r. found (octets o) r)  -- 17
leaf_from a_null b = found null b  -- 18
leaf_from an_object_identifier b = judging (λ o. object_identifier (arcs_after None o)) octets_from b  -- 24
leaf_from a_relative_oid b = judging (λ o. relative_identifier (arcs_after None o)) octets_from b  -- 25
leaf_from (a_utf8_string c) b = judging (utf8_text c) octets_from b  -- 30.6
leaf_from (a_restricted_string k a c) b =
    onward (sized_from c (each_from (character_from a)) b) (λ o r. found (text o) r)  -- 30.5
-- a kind that holds others
leaf_from k b = stops why.Outside b

-- the bits of a value of the kind that the kind's constraints allow
pub record IsLeafOf (k : Kind) (w : AbstractValue) (b : Bits) : Type 0 where
  pub leaf : LeafPer k w b
  pub fits : IsPrimitive k w

-- ---- leaves within a limit

-- a value, unless it is a character string of more than n octets (own rule)
abbrev pub light_leaf : ℕ → AbstractValue → Judged AbstractValue
light_leaf n v = if nat_lt n (characters v) then bad why.NodesLimit else good v

-- a value of a kind that holds no others, of which a character string has at most n octets
abbrev pub leaf_within : ℕ → Kind → Bits → Outcome AbstractValue
leaf_within n k = judging (light_leaf n) (leaf_from k)

-- the bits of a value of the kind, with at most n octets if it is a character string
pub record IsLeafWithin (n : ℕ) (k : Kind) (w : AbstractValue) (b : Bits) : Type 0 where
  pub is_leaf : IsLeafOf k w b
  pub few : characters w ≤ n
