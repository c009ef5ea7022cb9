-- Worked rows: what a schema's types keep, at the limits; the order of classes; sizes, groups and kinds of values.
use Rattle.std.proofs.Common.{arith, lit<, ◌≡◌, ℕ, suc, ◌<◌, ◌≤◌, inl, inr, Bool, true, false, List, [], ◌∷◌, length, map, refl, ap}
use Rattle.std.proofs.lemmas.Int.{ints}
use Rattle.std.specs.Prelude.{◌<ℤ◌, Some}
use Rattle.std.specs.List.{AllByRecursion}
use Rattle.asn_base.specs.declared.tag.Class.TheVariants.{Universal, Application, Context, Private}
use Rattle.asn_base.specs.declared.tag.Tag.{Tag}
use Rattle.asn_base.specs.declared.strings.StringKind.{StringKind}
use Rattle.asn_base.specs.declared.strings.StringKind.TheVariants.{Numeric, Printable, Ia5, Visible}
use Rattle.asn_base.specs.Abstract.{bits, octets, text, relative_oid, fields, list, null, end, absent, present}
use Rattle.asn_base.specs.Names.{IsIdentifier, is_identifier, is_first, AreNames}
use Rattle.asn_base.specs.Types.{Constraint, Item, NamedBit, Alternative, a_bit_string, a_named_bit_string, an_octet_string, a_null, a_relative_oid, a_restricted_string, a_set, a_set_of, Presence, mandatory, optional, addition, default, Component, Resolved}
use Rattle.asn_base.specs.Tags.{First, class_rank, TagBefore}
use Rattle.asn_base.specs.Typed.{HasNumber, GroupsAreWhole, IsRelativeOid, IsPrimitive, fits_bits, fits_named_bits, fits_octets, fits_relative_oid, fits_restricted, ValueIn, value_in, of_leaf, of_set, of_set_of, no_element, one_element, no_component, fits_null}
use Rattle.asn_base.specs.Same.{AlikeBy, alike_set, zeros, no_components}
use Rattle.asn_base.specs.Schemas.{IsAlphabet, is_character, NumbersAscend, AreItems, AreNamedBits, HasTag, is_addition, AreListed, TagsAscend, AreAlternatives, AreElementsOf, IsSound, IsDefaultCircle, IsSchema}
use Rattle.asn_base.proofs.Rows.{to_7}

-- ---- limits

components_256 : {s : List Resolved} {e : Bool} {cs : List Component} (a : AreListed s e cs) → length a.root ≤ 256
components_256 a = a.few_root

additions_64 : {s : List Resolved} {e : Bool} {cs : List Component} (a : AreListed s e cs) → length a.more ≤ 64
additions_64 a = a.few_more

additions_after : {s : List Resolved} {e : Bool} {cs : List Component} (a : AreListed s e cs) → AllByRecursion (λ c. is_addition c ≡ true) a.more
additions_after a = a.behind

none_in_root : {s : List Resolved} {e : Bool} {cs : List Component} (a : AreListed s e cs) → AllByRecursion (λ c. is_addition c ≡ false) a.root
none_in_root a = a.in_root

no_marker_no_addition : {s : List Resolved} {cs : List Component} (a : AreListed s false cs) → a.more ≡ []
no_marker_no_addition a = a.marked refl

components_named : {s : List Resolved} {e : Bool} {cs : List Component} (a : AreListed s e cs) → AreNames (map (λ c. c.name) cs)
components_named a = a.names

components_there : {s : List Resolved} {e : Bool} {cs : List Component} (a : AreListed s e cs) → AllByRecursion (λ c. c.type < length s) cs
components_there a = a.types

alternatives_256 : {s : List Resolved} {e : Bool} {root more : List Alternative} → AreAlternatives s e root more → length root ≤ 256
alternatives_256 a = a.few_root

alternatives_64 : {s : List Resolved} {e : Bool} {root more : List Alternative} → AreAlternatives s e root more → length more ≤ 64
alternatives_64 a = a.few_more

an_alternative_at_least : {s : List Resolved} {e : Bool} {root more : List Alternative} → AreAlternatives s e root more → 1 ≤ length root
an_alternative_at_least a = a.some

no_marker_no_alternative : {s : List Resolved} {root more : List Alternative} → AreAlternatives s false root more → more ≡ []
no_marker_no_alternative a = a.marked refl

first_tags_ascend : (s : List Resolved) (a b : Alternative) → TagsAscend s (a ∷ b ∷ []) → (g f : Tag) → First s a.type g → First s b.type f → TagBefore g f
first_tags_ascend s a b h = h.0.0

items_1024 : {e : Bool} {root more : List Item} → AreItems e root more → length root ≤ 1024
items_1024 a = a.few_root

items_64 : {e : Bool} {root more : List Item} → AreItems e root more → length more ≤ 64
items_64 a = a.few_more

an_item_at_least : {e : Bool} {root more : List Item} → AreItems e root more → 1 ≤ length root
an_item_at_least a = a.some

items_ascend : (i j : Item) → NumbersAscend (i ∷ j ∷ []) → i.number <ℤ j.number
items_ascend i j h = h.0.0

new_items_apart : {e : Bool} {root more : List Item} → AreItems e root more → AllByRecursion (λ i. HasNumber root i.number → ⊥) more
new_items_apart a = a.apart

places_65535 : {bs : List NamedBit} → AreNamedBits bs → AllByRecursion (λ b. b.place ≤ 65535) bs
places_65535 a = a.limits

codes_127 : {k : StringKind} {codes : List ℕ} → IsAlphabet k codes → AllByRecursion (λ c. c < 128) codes
codes_127 a = a.below_128

a_code_at_least : {k : StringKind} {codes : List ℕ} → IsAlphabet k codes → 1 ≤ length codes
a_code_at_least a = a.some

elements_there : {s : List Resolved} {c : Constraint} {u : ℕ} → AreElementsOf s c u → u < length s
elements_there a = a.type

set_components_tagged : (s : List Resolved) (e : Bool) (cs : List Component) → IsSound s (a_set e cs) → AllByRecursion (λ c. HasTag s c.type) cs
set_components_tagged s e cs a = a.1

no_tag_no_set : HasTag (record { tags = []; kind = a_null } ∷ []) 0 → ⊥
no_tag_no_set h = omega arith

no_circle : {s : List Resolved} → IsSchema s → (t : ℕ) → IsDefaultCircle s t → ⊥
no_circle a = a.no_circle

-- ---- classes

universal_first : (g f : Tag) → g.class ≡ Universal → f.class ≡ Application → TagBefore g f
universal_first g f e d = inl (let x = ap class_rank e in let y = ap class_rank d in omega arith)

application_then_context : (g f : Tag) → g.class ≡ Application → f.class ≡ Context → TagBefore g f
application_then_context g f e d = inl (let x = ap class_rank e in let y = ap class_rank d in omega arith)

context_then_private : (g f : Tag) → g.class ≡ Context → f.class ≡ Private → TagBefore g f
context_then_private g f e d = inl (let x = ap class_rank e in let y = ap class_rank d in omega arith)

by_number_within : (g f : Tag) → g.class ≡ f.class → g.number < f.number → TagBefore g f
by_number_within g f e l = inr (ap class_rank e, l)

-- ---- sizes at the greatest: seven bits, octets, characters and elements of at most seven

seven_bits : IsPrimitive (a_bit_string to_7) (bits (true ∷ true ∷ true ∷ true ∷ true ∷ true ∷ true ∷ []))
seven_bits = fits_bits (inl (omega (arith, ints), omega (arith, ints)))

seven_octets : IsPrimitive (an_octet_string to_7) (octets (1 ∷ 2 ∷ 3 ∷ 4 ∷ 5 ∷ 6 ∷ 7 ∷ []))
seven_octets = fits_octets (lit< tt, (lit< tt, (lit< tt, (lit< tt, (lit< tt, (lit< tt, (lit< tt, tt))))))) (inl (omega (arith, ints), omega (arith, ints)))

seven_characters : IsPrimitive (a_restricted_string Numeric (48 ∷ []) to_7) (text (48 ∷ 48 ∷ 48 ∷ 48 ∷ 48 ∷ 48 ∷ 48 ∷ []))
seven_characters = fits_restricted (is_first, (is_first, (is_first, (is_first, (is_first, (is_first, (is_first, tt))))))) (inl (omega (arith, ints), omega (arith, ints)))

abbrev nulls : List Resolved
nulls = record { tags = []; kind = a_null } ∷ record { tags = []; kind = a_set_of to_7 0 } ∷ record { tags = []; kind = a_set true [] } ∷ []

a_null_in : {n : ℕ} → ValueIn nulls (suc n) 0 null
a_null_in = value_in (record { found = refl }) (of_leaf fits_null)

seven_elements : ValueIn nulls 2 1 (list (present null (present null (present null (present null (present null (present null (present null end))))))))
seven_elements = value_in (record { found = refl }) (of_set_of
    (one_element a_null_in (one_element a_null_in (one_element a_null_in (one_element a_null_in (one_element a_null_in (one_element a_null_in (one_element a_null_in no_element)))))))
    (inl (omega (arith, ints), omega (arith, ints))))

-- an extensible SET has values, and they are alike; there may be no named bits, and they may have trailing zeros
extensible_set : ValueIn nulls 1 2 (fields end)
extensible_set = value_in (record { found = refl }) (of_set no_component (λ g h l. h))

extensible_alike : AlikeBy nulls (a_set true []) (fields end) (fields end)
extensible_alike = alike_set no_components

no_named_bits : IsPrimitive (a_named_bit_string []) (bits [])
no_named_bits = fits_named_bits

zeros_without_names : AlikeBy nulls (a_named_bit_string []) (bits (false ∷ [])) (bits [])
zeros_without_names = zeros 0 1 refl

-- RELATIVE-OID has at least one number, and the greatest is 2^64 - 1
one_number : IsPrimitive a_relative_oid (relative_oid (18446744073709551615 ∷ []))
one_number = fits_relative_oid (record { some = lit< tt; at_most = lit< tt; small = (lit< tt, tt) })

no_number : IsRelativeOid [] → ⊥
no_number a = let l = a.some in omega arith

too_great_a_number : IsRelativeOid (18446744073709551616 ∷ []) → ⊥
too_great_a_number a = let l = a.small.0 in omega arith

-- ---- groups: {.., ..., [[ b, c OPTIONAL ]]}

abbrev member : Bool → Component
member o = record { name = 98 ∷ []; type = 0; presence = addition o (Some 1) }

abbrev group : List Component
group = member false ∷ member true ∷ []

half_a_group : GroupsAreWhole group (absent (present null end)) → ⊥
half_a_group h = h 1 (inl refl) (inl refl)

without_its_option : GroupsAreWhole group (present null (absent end))
without_its_option g h (inl e) = let f : true ≡ false = ap option_of e in cc
  where
    option_of : Presence → Bool
    option_of mandatory = false
    option_of optional = false
    option_of (default d) = false
    option_of (addition o q) = o
without_its_option g h (inr e) = e

no_group : GroupsAreWhole group (absent (absent end))
no_group g h l = h

-- ---- names

a_name : IsIdentifier (97 ∷ 45 ∷ 66 ∷ 49 ∷ [])
a_name = refl

capital_first : is_identifier (65 ∷ []) ≡ false
capital_first = refl

hyphen_last : is_identifier (97 ∷ 45 ∷ []) ≡ false
hyphen_last = refl

two_hyphens : is_identifier (97 ∷ 45 ∷ 45 ∷ 98 ∷ []) ≡ false
two_hyphens = refl

empty_name : is_identifier [] ≡ false
empty_name = refl

-- ---- characters of the four string types

digit_and_space : (is_character Numeric 48 ≡ true) × (is_character Numeric 32 ≡ true) × (is_character Numeric 65 ≡ false)
digit_and_space = (refl, refl, refl)

printable_marks : (is_character Printable 39 ≡ true) × (is_character Printable 63 ≡ true) × (is_character Printable 42 ≡ false) × (is_character Printable 64 ≡ false)
printable_marks = (refl, refl, refl, refl)

visible_ends : (is_character Visible 32 ≡ true) × (is_character Visible 126 ≡ true) × (is_character Visible 127 ≡ false) × (is_character Visible 31 ≡ false)
visible_ends = (refl, refl, refl, refl)

ia5_ends : (is_character Ia5 0 ≡ true) × (is_character Ia5 127 ≡ true) × (is_character Ia5 128 ≡ false)
ia5_ends = (refl, refl, refl)
