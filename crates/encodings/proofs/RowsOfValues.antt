-- Worked rows: the encoding of a value by the distinguished rules, which is also that of another value that is the
-- same.
use Rattle.std.proofs.Common.{arith, lit<, ◌≡◌, ◌∙◌, ⊎_elim, refl, ap}
use Rattle.std.proofs.lemmas.Int.{ints}
use Rattle.std.specs.Prelude.{ℤ, Option, Some, None, ℕ, suc, Bool, true, false, List, [], ◌∷◌, pos, negsuc}
use Rattle.asn_base.specs.Same.{Alike, alike, AlikeBy, equal, Same}
use Rattle.asn_base.specs.Types.{any_number, an_integer}
use Rattle.asn_base.specs.Abstract.{AbstractValue, bits, integer, fields, list, end, absent, present}
use Rattle.asn_base.specs.Typed.{IsValueWithoutNodes, fits_integer, fits_named_bits, ValueIn, value_in, of_leaf, of_sequence, of_set_of, where_default, no_component, component_absent, component_present, no_element, one_element}
use Rattle.encodings.specs.Rules.{Basic, Distinguished}
use Rattle.encodings.specs.Header.{identifier}
use Rattle.encodings.specs.Fewest.{shortest_header}
use Rattle.encodings.specs.Contents.{of_integer}
use Rattle.encodings.specs.Encoding.{innermost, EncodesTo, says, leaf, Ber, Der, Shortest}
use Rattle.encodings.proofs.Headers.{shortest_is}
use Rattle.encodings.proofs.Least.{alike_by_at}
use Rattle.asn_base.specs.proving.OneKind.{same_kind}
use Rattle.encodings.proofs.Unique.{says_same}
use Rattle.encodings.specs.proving.Weaker.{basic_of}
use Rattle.encodings.proofs.RowTypes.{rows, u2, rows_tagged, rows_tellable}
use Rattle.encodings.proofs.RowsThatHold.{small, long_length, named_bits, named_zeros, default_absent, default_alike}
use Rattle.encodings.proofs.RowsOfParts.{set_of_is, set_of_alike}

some_bits : (b : List Bool) → ValueIn rows 64 4 (bits b)
some_bits b = value_in (record { found = refl }) (of_leaf fits_named_bits)

-- BIT STRING {a(0), b(9)} '1000000000'B is 03020780
pub ten_bits : Der rows 4 (bits (true ∷ false ∷ false ∷ false ∷ false ∷ false ∷ false ∷ false ∷ false ∷ false ∷ [])) 0 (3 ∷ 2 ∷ 7 ∷ 128 ∷ [])
ten_bits = (bits (true ∷ []), record { first = some_bits _; second = some_bits _; are_alike = named_zeros }, named_bits)

plus_1 : {n : ℕ} → ValueIn rows (suc n) 1 (integer (pos 1))
plus_1 = value_in (record { found = refl }) (of_leaf (fits_integer (lit< tt) tt))

plus_2 : {n : ℕ} → ValueIn rows (suc n) 1 (integer (pos 2))
plus_2 = value_in (record { found = refl }) (of_leaf (fits_integer (lit< tt) tt))

plus_256 : {n : ℕ} → ValueIn rows (suc n) 1 (integer (pos 256))
plus_256 = value_in (record { found = refl }) (of_leaf (fits_integer (lit< tt) tt))

minus_1 : {n : ℕ} → ValueIn rows (suc n) 1 (integer (negsuc 0))
minus_1 = value_in (record { found = refl }) (of_leaf (fits_integer (lit< tt) tt))

-- SET OF INTEGER {1, 256, -1} is 310A0201010201FF02020100
pub three_numbers : Der rows 7 (list (present (integer (pos 1)) (present (integer (pos 256)) (present (integer (negsuc 0)) end)))) 0 (49 ∷ 10 ∷ 2 ∷ 1 ∷ 1 ∷ 2 ∷ 1 ∷ 255 ∷ 2 ∷ 2 ∷ 1 ∷ 0 ∷ [])
three_numbers = (
  list (present (integer (pos 1)) (present (integer (negsuc 0)) (present (integer (pos 256)) end))),
  record {
    first = value_in (record { found = refl }) (of_set_of (one_element plus_1 (one_element plus_256 (one_element minus_1 no_element))) tt);
    second = value_in (record { found = refl }) (of_set_of (one_element plus_1 (one_element minus_1 (one_element plus_256 no_element))) tt);
    are_alike = set_of_alike;
  },
  set_of_is,
)

none_some : {g : ℕ} → ◌≡◌ {A = Option ℕ} None (Some g) → ⊥
none_some e = cc

-- SEQUENCE {a SET OF INTEGER DEFAULT {1,2}} {a {2,1}} is 3000
pub default_left_out : Der rows 8 (fields (present (list (present (integer (pos 2)) (present (integer (pos 1)) end))) end)) 0 (48 ∷ 0 ∷ [])
default_left_out = (
  fields (absent end),
  record {
    first = value_in (record { found = refl }) (of_sequence (component_present (value_in (record { found = refl }) (of_set_of (one_element plus_2 (one_element plus_1 no_element)) tt)) no_component) (λ g h l. ⊎_elim none_some (λ b. b) h));
    second = value_in (record { found = refl }) (of_sequence (component_absent (where_default (value_in (record { found = refl }) (of_set_of (one_element plus_1 (one_element plus_2 no_element)) tt))) no_component) (λ g h l. h));
    are_alike = default_alike;
  },
  default_absent,
)

-- 02840000000105 is an encoding of 5, and none of the fewest octets: 020105 is one
five : IsValueWithoutNodes rows 1 (integer (pos 5))
five = value_in (record { found = refl }) (of_leaf (fits_integer (lit< tt) tt))

five_self : Same rows 1 (integer (pos 5)) (integer (pos 5))
five_self = record { first = five; second = five; are_alike = alike (record { found = refl }) (equal tt) }

five_is : EncodesTo rows Distinguished 1 (integer (pos 5)) 0 (2 ∷ 1 ∷ 5 ∷ [])
unfolding identifier shortest_header
five_is = says (record { found = refl }) (leaf (of_integer (small 5 (lit< tt)))) (innermost (shortest_is u2 false 1 (lit< tt)))

pub long_five : Ber rows 1 (integer (pos 5)) 0 (2 ∷ 132 ∷ 0 ∷ 0 ∷ 0 ∷ 1 ∷ 5 ∷ [])
long_five = (integer (pos 5), five_self, long_length)

pub not_shortest : Shortest rows 1 (integer (pos 5)) (2 ∷ 132 ∷ 0 ∷ 0 ∷ 0 ∷ 1 ∷ 5 ∷ []) → ⊥
not_shortest a = let l = a.least (2 ∷ 1 ∷ 5 ∷ []) (integer (pos 5), five_self, basic_of five_is) in omega arith

-- nor is that an encoding of 6
abbrev number_of : AbstractValue → ℤ
number_of (integer z) = z
number_of v = pos 0

leaf_alike : {v w : AbstractValue} → AlikeBy rows (an_integer any_number) v w → v ≡ w
leaf_alike (equal l) = refl

same_number : {v w : AbstractValue} → Alike rows 1 v w → v ≡ w
same_number (alike i a) = leaf_alike (alike_by_at (same_kind (record { found = refl }) i) a)

pub not_of_six : Ber rows 1 (integer (pos 6)) 0 (2 ∷ 1 ∷ 5 ∷ []) → ⊥
not_of_six b =
    let e : b.0 ≡ integer (pos 5) = (says_same rows Basic Basic rows_tagged rows_tellable b.2 (basic_of five_is) refl).values in
    let f : integer (pos 6) ≡ b.0 = same_number b.1.are_alike in
    let g : pos 6 ≡ pos 5 = ap number_of (f ∙ e) in omega (arith, ints)
