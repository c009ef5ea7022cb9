-- Worked rows of sameness: a SET OF of bit strings with a named bit, and one with another number of members.
use Rattle.std.proofs.Common.{arith, ℕ, suc, true, false, List, [], ◌∷◌, refl}
use Rattle.asn_base.specs.Abstract.{AbstractValue, bits, list, end, present}
use Rattle.asn_base.specs.Types.{any_size, a_named_bit_string, a_set_of, Resolved}
use Rattle.asn_base.specs.Typed.{fits_named_bits, ValueIn, value_in, of_leaf, of_set_of, no_element, one_element}
use Rattle.asn_base.specs.Same.{here, there, Alike, alike, equal, zeros, alike_set_of, none_left, pair, Same}
use Rattle.asn_base.proofs.AlikeOrNot.{back, un_set_of}
use Rattle.asn_base.proofs.Counts.{as_many_members}

-- SET OF BIT STRING {a(0)}
abbrev bags : List Resolved
bags =
    record { tags = []; kind = a_set_of any_size 1 }
    ∷ record { tags = []; kind = a_named_bit_string (record { name = 97 ∷ []; place = 0 } ∷ []) }
    ∷ []

-- {'1'B, '100'B} and {'10'B, '1'B}
abbrev first : AbstractValue
first = list (present (bits (true ∷ [])) (present (bits (true ∷ false ∷ false ∷ [])) end))

abbrev second : AbstractValue
second = list (present (bits (true ∷ false ∷ [])) (present (bits (true ∷ [])) end))

one_bit_string : (n : ℕ) (b : List _) → ValueIn bags (suc n) 1 (bits b)
one_bit_string n b = value_in (record { found = refl }) (of_leaf fits_named_bits)

pub same_bags : Same bags 0 first second
same_bags = record {
  first = value_in (record { found = refl }) (of_set_of (one_element (one_bit_string 62 _) (one_element (one_bit_string 62 _) no_element)) tt);
  second = value_in (record { found = refl }) (of_set_of (one_element (one_bit_string 62 _) (one_element (one_bit_string 62 _) no_element)) tt);
  are_alike = alike (record { found = refl }) (alike_set_of (
      pair (alike (record { found = refl }) (zeros 1 0 refl)) (
      pair (alike (record { found = refl }) (zeros 0 2 refl)) none_left here
      ) here
      ));
}

-- {'1'B, '0'B} and {'0'B, '1'B}
pub in_another_order : Alike bags 0 (list (present (bits (true ∷ [])) (present (bits (false ∷ [])) end))) (list (present (bits (false ∷ [])) (present (bits (true ∷ [])) end)))
in_another_order = alike (record { found = refl }) (alike_set_of (
    pair (alike (record { found = refl }) (equal tt)) (
    pair (alike (record { found = refl }) (equal tt)) none_left here
    ) (there here)
    ))

-- {'1'B} and {'1'B, '1'B} are not
pub other_number : Alike bags 0 (list (present (bits (true ∷ [])) end)) (list (present (bits (true ∷ [])) (present (bits (true ∷ [])) end))) → ⊥
other_number a = let e = as_many_members (un_set_of (back (record { found = refl }) a)) in omega arith
