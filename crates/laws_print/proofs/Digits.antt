-- Digits in apostrophes, bits and octets.
use Rattle.std.proofs.Common.{◌≡◌, ℕ, zero, suc, ◌+◌, ◌-◌, ◌/◌, ◌%◌, ◌≤◌, ◌<◌, Bool, true, false, not, ◌||◌, List, [], ◌∷◌, ◌++◌, length, drop, Some, refl, ap, ◌∙◌, arith, length-append, append_assoc}
use Rattle.std.specs.Prelude.{slice_range, slice_index, codes}
use Rattle.std.specs.List.{AllByRecursion, filter_map}
use Rattle.std.specs.Int.Digits.{AllBelowBase}
use Rattle.text.specs.declared.token.TokenKind.TheVariants as kinds
use Rattle.text.specs.Octets.{octet_at, is_hex, is_binary, is_space, stops_hex, stops_binary}
use Rattle.text.specs.Items.{IsDigitString}
use Rattle.grammar.specs.Lexeme.{HString, BString, digit_of, digits_between}
use Rattle.value_text.specs.Print.{hex_text, hex_digits, hex_digit, bit_digits}
use Rattle.laws_print.specs.Back.{nibbles, bit_values}
use Rattle.laws_print.specs.Lexing.{Speaks}
use Rattle.laws_print.proofs.Pieces.{octet_on, follows, standing, IsOne, one}
use Rattle.laws_print.proofs.Tokens.{octet_in, octet_first, octet_next, not_small, Any}

all_at : (P : ℕ → Type 0) (cs : List ℕ) (k : ℕ) → AllByRecursion P cs → k < length cs → P (slice_index cs k)
all_at P [] k a lt = absurd (omega (arith, lt))
all_at P (c ∷ cs) zero a lt = a.0
all_at P (c ∷ cs) (suc k) a lt = all_at P cs k a.1 (omega (arith, lt))

-- ---- digits that a test lets go on, between apostrophes, and a letter

module _ (stop : ℕ → Bool) (stops : List ℕ → ℕ → Bool) (letter : ℕ) (inner : List ℕ)
    (is : (x : List ℕ) (k : ℕ) → stops x k ≡ stop (octet_at x k)) (at_quote : stop 39 ≡ true)
    (go_on : AllByRecursion (λ c. stop c ≡ false) inner) where
  abbrev text : List ℕ
  text = codes "'" ++ (inner ++ (39 ∷ letter ∷ []))

  long : length (codes "'" ++ (inner ++ (39 ∷ letter ∷ []))) ≡ length inner + 3
  long = omega (arith, length-append inner (39 ∷ letter ∷ []))

  module _ (x z : List ℕ) (i : ℕ) (e : drop i x ≡ (codes "'" ++ (inner ++ (39 ∷ letter ∷ []))) ++ z) where
    at_digits : drop (i + 1) x ≡ inner ++ ((39 ∷ letter ∷ []) ++ z)
    at_digits = follows x (39 ∷ []) ((inner ++ (39 ∷ letter ∷ [])) ++ z) i e ∙ append_assoc inner (39 ∷ letter ∷ []) z

    begins : octet_at x i ≡ 39
    begins = octet_first x (codes "'" ++ (inner ++ (39 ∷ letter ∷ []))) z i e (omega (arith, long))

    closed : octet_at x ((i + 1) + length inner) ≡ 39
    closed = octet_next x inner ((39 ∷ letter ∷ []) ++ z) (i + 1) at_digits

    lettered : octet_at x (((i + 1) + length inner) + 1) ≡ letter
    lettered = octet_on x ((39 ∷ letter ∷ []) ++ z) ((i + 1) + length inner) 1 (follows x inner ((39 ∷ letter ∷ []) ++ z) (i + 1) at_digits)

    before : (k : ℕ) → i + 1 ≤ k → k < (i + 1) + length inner → stops x k ≡ false
    before k ge lt =
        let m : k ≡ (i + 1) + (k - (i + 1)) = omega (arith, ge) in
        let d = all_at (λ c. stop c ≡ false) inner (k - (i + 1)) go_on (omega (arith, ge, lt)) in
        let f = octet_in x inner ((39 ∷ letter ∷ []) ++ z) (i + 1) (k - (i + 1)) at_digits (omega (arith, ge, lt)) in
        is x k ∙ ap (λ k. stop (octet_at x k)) m ∙ ap stop f ∙ d

    pub digits_valid : IsDigitString (stops x) letter x i (i + length (codes "'" ++ (inner ++ (39 ∷ letter ∷ []))))
    digits_valid = record {
      begins = begins;
      close = (i + 1) + length inner;
      first = record { follows = omega arith; here = is x ((i + 1) + length inner) ∙ ap stop closed ∙ at_quote; before = before };
      closed = closed;
      lettered = lettered;
      end = omega (arith, long);
    }

    pub digits_decoded : digits_between x i (i + length (codes "'" ++ (inner ++ (39 ∷ letter ∷ [])))) ≡ filter_map digit_of inner
    digits_decoded =
        let n : (i + length (codes "'" ++ (inner ++ (39 ∷ letter ∷ [])))) - 2 ≡ (i + 1) + length inner = omega (arith, long) in
        ap (λ (j : ℕ). filter_map digit_of (slice_range x (i + 1) j)) n
        ∙ ap (filter_map digit_of) (standing x inner ((39 ∷ letter ∷ []) ++ z) (i + 1) at_digits)

-- ---- octets

abbrev stop_hex : ℕ → Bool
stop_hex c = not (is_hex c || is_space c)

hex_stops_is : (x : List ℕ) (k : ℕ) → stops_hex x k ≡ stop_hex (octet_at x k)
unfolding stops_hex
hex_stops_is x k = refl

hex_quote : stop_hex 39 ≡ true
unfolding is_hex is_space
hex_quote = refl

-- what is known of a digit that is printed so
record IsDigit (d c : ℕ) : Type 0 where
  decoded : digit_of c ≡ Some d
  goes_on : stop_hex c ≡ false

digit_is : (d : ℕ) → d < 16 → IsDigit d (hex_digit d)
unfolding digit_of is_hex is_space
digit_is zero lt = record { decoded = refl; goes_on = refl }
digit_is (suc zero) lt = record { decoded = refl; goes_on = refl }
digit_is (suc (suc zero)) lt = record { decoded = refl; goes_on = refl }
digit_is (suc (suc (suc zero))) lt = record { decoded = refl; goes_on = refl }
digit_is (suc (suc (suc (suc zero)))) lt = record { decoded = refl; goes_on = refl }
digit_is (suc (suc (suc (suc (suc zero))))) lt = record { decoded = refl; goes_on = refl }
digit_is (suc (suc (suc (suc (suc (suc zero)))))) lt = record { decoded = refl; goes_on = refl }
digit_is (suc (suc (suc (suc (suc (suc (suc zero))))))) lt = record { decoded = refl; goes_on = refl }
digit_is (suc (suc (suc (suc (suc (suc (suc (suc zero)))))))) lt = record { decoded = refl; goes_on = refl }
digit_is (suc (suc (suc (suc (suc (suc (suc (suc (suc zero))))))))) lt = record { decoded = refl; goes_on = refl }
digit_is (suc (suc (suc (suc (suc (suc (suc (suc (suc (suc zero)))))))))) lt = record { decoded = refl; goes_on = refl }
digit_is (suc (suc (suc (suc (suc (suc (suc (suc (suc (suc (suc zero))))))))))) lt = record { decoded = refl; goes_on = refl }
digit_is (suc (suc (suc (suc (suc (suc (suc (suc (suc (suc (suc (suc zero)))))))))))) lt = record { decoded = refl; goes_on = refl }
digit_is (suc (suc (suc (suc (suc (suc (suc (suc (suc (suc (suc (suc (suc zero))))))))))))) lt = record { decoded = refl; goes_on = refl }
digit_is (suc (suc (suc (suc (suc (suc (suc (suc (suc (suc (suc (suc (suc (suc zero)))))))))))))) lt = record { decoded = refl; goes_on = refl }
digit_is (suc (suc (suc (suc (suc (suc (suc (suc (suc (suc (suc (suc (suc (suc (suc zero))))))))))))))) lt = record { decoded = refl; goes_on = refl }
digit_is (suc (suc (suc (suc (suc (suc (suc (suc (suc (suc (suc (suc (suc (suc (suc (suc d)))))))))))))))) lt = absurd (omega (arith, lt))

hex_decoded : (o : List ℕ) → AllBelowBase 256 o → filter_map digit_of (hex_digits o) ≡ nibbles o
hex_decoded [] a = refl
hex_decoded (b ∷ o) a =
    let h = digit_is (b / 16) (omega (arith, a.0)) in
    let l = digit_is (b % 16) (omega arith) in
    let r = hex_decoded o a.1 in
    rw (h.decoded, l.decoded, r) refl

hex_go_on : (o : List ℕ) → AllBelowBase 256 o → AllByRecursion (λ c. stop_hex c ≡ false) (hex_digits o)
hex_go_on [] a = tt
hex_go_on (b ∷ o) a = ((digit_is (b / 16) (omega (arith, a.0))).goes_on, ((digit_is (b % 16) (omega arith)).goes_on, hex_go_on o a.1))

pub hex_said : (o : List ℕ) → AllBelowBase 256 o → Speaks Any (hex_text o) (HString (nibbles o) ∷ [])
hex_said o a = one Any (hex_text o) kinds.HexString (HString (nibbles o)) each
  where
    each : (x z : List ℕ) (i : ℕ) → drop i x ≡ hex_text o ++ z → Any z → IsOne x kinds.HexString (HString (nibbles o)) i (i + length (hex_text o))
    each x z i e q = record {
      token = digits_valid stop_hex stops_hex 72 (hex_digits o) hex_stops_is hex_quote (hex_go_on o a) x z i e;
      says = ap HString (digits_decoded stop_hex stops_hex 72 (hex_digits o) hex_stops_is hex_quote (hex_go_on o a) x z i e ∙ hex_decoded o a);
      small = not_small x kinds.HexString i (i + length (hex_text o)) (λ f. absurd cc);
    }

-- ---- bits

abbrev stop_bits : ℕ → Bool
stop_bits c = not (is_binary c || is_space c)

bits_stops_is : (x : List ℕ) (k : ℕ) → stops_binary x k ≡ stop_bits (octet_at x k)
unfolding stops_binary
bits_stops_is x k = refl

bits_quote : stop_bits 39 ≡ true
unfolding is_binary is_space
bits_quote = refl

bits_decoded : (b : List Bool) → filter_map digit_of (bit_digits b) ≡ bit_values b
unfolding digit_of is_hex
bits_decoded [] = refl
bits_decoded (true ∷ b) = ap (λ l. 1 ∷ l) (bits_decoded b)
bits_decoded (false ∷ b) = ap (λ l. 0 ∷ l) (bits_decoded b)

bits_go_on : (b : List Bool) → AllByRecursion (λ c. stop_bits c ≡ false) (bit_digits b)
unfolding is_binary is_space
bits_go_on [] = tt
bits_go_on (true ∷ b) = (refl, bits_go_on b)
bits_go_on (false ∷ b) = (refl, bits_go_on b)

abbrev pub bits_text : List Bool → List ℕ
bits_text b = codes "'" ++ (bit_digits b ++ codes "'B")

pub bits_said : (b : List Bool) → Speaks Any (bits_text b) (BString (bit_values b) ∷ [])
bits_said b = one Any (bits_text b) kinds.BinaryString (BString (bit_values b)) each
  where
    each : (x z : List ℕ) (i : ℕ) → drop i x ≡ bits_text b ++ z → Any z → IsOne x kinds.BinaryString (BString (bit_values b)) i (i + length (bits_text b))
    each x z i e q = record {
      token = digits_valid stop_bits stops_binary 66 (bit_digits b) bits_stops_is bits_quote (bits_go_on b) x z i e;
      says = ap BString (digits_decoded stop_bits stops_binary 66 (bit_digits b) bits_stops_is bits_quote (bits_go_on b) x z i e ∙ bits_decoded b);
      small = not_small x kinds.BinaryString i (i + length (bits_text b)) (λ f. absurd cc);
    }
