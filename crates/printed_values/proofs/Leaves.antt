-- The trees of printed values that hold no others.
use Rattle.std.proofs.Common.{◌≡◌, ℕ, zero, suc, ◌*◌, ◌/◌, ◌%◌, ◌<◌, ◌==◌, Bool, true, false, List, [], ◌∷◌, ◌++◌, length, take, drop, refl, sym, ap, ◌∙◌, arith}
use Rattle.std.specs.Prelude.{map, replicate, slice_index, IsTrue}
use Rattle.std.specs.List.{AllByRecursion}
use Rattle.std.specs.Int.Digits.{number_from_digits, AllBelowBase}
use Rattle.asn_base.specs.declared.strings.StringKind.{StringKind}
use Rattle.asn_base.specs.Names.{IsMember, is_first, is_later}
use Rattle.asn_base.specs.Schemas.{is_character}
use Rattle.laws_print.specs.Back.{bit_values, nibbles}
use Rattle.value_notations.specs.Leaves.{AreOctets}

-- ---- bits

pub below_two : (s : List Bool) → AllBelowBase 2 (bit_values s)
below_two [] = tt
below_two (true ∷ s) = (omega arith, below_two s)
below_two (false ∷ s) = (omega arith, below_two s)

pub bits_back : (s : List Bool) → s ≡ map (λ d. d == 1) (bit_values s)
bits_back [] = refl
bits_back (true ∷ s) = ap (λ q. true ∷ q) (bits_back s)
bits_back (false ∷ s) = ap (λ q. false ∷ q) (bits_back s)

-- ---- octets

below_sixteen : (o : List ℕ) → AllBelowBase 256 o → AllBelowBase 16 (nibbles o)
below_sixteen [] h = tt
below_sixteen (b ∷ o) h = (let l = h.0 in omega (arith, l), (omega arith, below_sixteen o h.1))

twice_long : (o : List ℕ) → length (nibbles o) ≡ 2 * length o
twice_long [] = refl
twice_long (b ∷ o) = let r = twice_long o in omega (arith, r)

two_digits : (b : ℕ) → b ≡ number_from_digits 16 (b / 16 ∷ b % 16 ∷ [])
two_digits b = omega arith

behind_two : (i : ℕ) → 2 * suc i ≡ suc (suc (2 * i))
behind_two i = omega arith

digits_there : (o ds : List ℕ) (i : ℕ) → i < length o → slice_index o i ≡ number_from_digits 16 (take 2 (drop (2 * i) (nibbles o ++ ds)))
digits_there [] ds i l = absurd (omega (arith, l))
digits_there (b ∷ o) ds zero l = two_digits b
digits_there (b ∷ o) ds (suc i) l =
    let r = digits_there o ds i (omega (arith, l)) in
    r ∙ ap (λ k. number_from_digits 16 (take 2 (drop k (b / 16 ∷ b % 16 ∷ (nibbles o ++ ds))))) (sym (behind_two i))

pub octets_back : (o : List ℕ) → AllBelowBase 256 o → AreOctets 16 2 (nibbles o) o
octets_back o h = record {
  digits_of = below_sixteen o h;
  zeros = 0;
  few = omega arith;
  long = let r = twice_long o in omega (arith, r);
  each = λ i l. digits_there o (replicate 0 0) i l;
}

-- ---- characters

character : (k : StringKind) (alphabet : List ℕ) (c : ℕ) → AllByRecursion (λ c. IsTrue (is_character k c)) alphabet → IsMember c alphabet → IsTrue (is_character k c)
character k [] c h m = elim m [ ]
character k (a ∷ alphabet) c h is_first = h.0
character k (a ∷ alphabet) c h (is_later m) = character k alphabet c h.1 m

pub characters : (k : StringKind) (alphabet o : List ℕ) → AllByRecursion (λ c. IsTrue (is_character k c)) alphabet → AllByRecursion (λ x. IsMember x alphabet) o → AllByRecursion (λ c. IsTrue (is_character k c)) o
characters k alphabet [] h a = tt
characters k alphabet (c ∷ o) h a = (character k alphabet c h a.0, characters k alphabet o h a.1)
