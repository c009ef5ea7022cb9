-- Printed numbers and digits.
use Rattle.std.proofs.Common.{◌≡◌, ℕ, ◌+◌, ◌-◌, ◌/◌, ◌%◌, ◌^◌, ◌≤◌, ◌<◌, true, false, not, List, [], ◌∷◌, ◌++◌, length, drop, refl, sym, ap, ◌∙◌, arith, inl, inr, length-append}
use Rattle.std.specs.Prelude.{slice_index, ◌==◌, get_or, decimal}
use Rattle.std.specs.Char.{is_ascii_alphabetic, is_ascii_digit}
use Rattle.std.specs.Str.Parse.{digits_value, IsNumeral}
use Rattle.std.proofs.lemmas.Str.Parse.{digit_at}
use Rattle.std.proofs.lemmas.Fmt.{decimal_is_IsNumeral_wide, decimal_by_steps_wide}
use Rattle.std.proofs.Math.ListN.{get_or-append}
use Rattle.std.proofs.lemmas.Bool.{cases_lt}
use Rattle.std.proofs.lemmas.Bool.Decides.{nat_tests}
use Rattle.text.specs.declared.token.TokenKind.TheVariants as kinds
use Rattle.text.specs.Octets.{octet_at, stops_number}
use Rattle.text.specs.Items.{IsNumberToken, number_value}
use Rattle.text.specs.Text.{max_number}
use Rattle.grammar.specs.Lexeme.{Number}
use Rattle.laws_print.specs.Lexing.{Speaks, ends, Ends}
use Rattle.laws_print.proofs.Pieces.{standing, IsOne, one}
use Rattle.laws_print.proofs.Tokens.{octet_in, octet_first, octet_next}

-- a first zero is the only digit
record IsPlain (n : ℕ) (ds : List ℕ) : Type 0 where
  some : 0 < length ds
  first : 0 < n → 48 < get_or ds 0 0
  alone : n ≡ 0 → length ds ≡ 1

plain_one : (n : ℕ) → n < 10 → IsPlain n ((48 + n) ∷ [])
plain_one n lt = record { some = omega arith; first = λ p. omega arith; alone = λ e. refl }

plain_more : (n : ℕ) (ds : List ℕ) → 10 ≤ n → IsPlain (n / 10) ds → IsPlain n (ds ++ ((48 + n % 10) ∷ []))
plain_more n ds le p = record {
  some = omega (arith, p.some, length-append ds ((48 + n % 10) ∷ []));
  first = λ q. let e = get_or-append ds ((48 + n % 10) ∷ []) 0 0 p.some in let f = p.first (omega (arith, le)) in rw e f;
  alone = λ e. absurd (omega (arith, e, le));
}

plain : (n : ℕ) → n < 10 ^ 64 → IsPlain n (decimal n)
plain n lt = decimal_by_steps_wide IsPlain plain_one plain_more n lt

digit_on : (c : ℕ) → 48 ≤ c → c ≤ 57 → (is_ascii_digit c ≡ true)
digit_on c a b = grind (arith, nat_tests)

stops_not : (c : ℕ) → is_ascii_digit c ≡ true → not (is_ascii_digit c) ≡ false
stops_not c e = rw e refl

no_letter : (c : ℕ) → ends c ≡ true → is_ascii_alphabetic c ≡ false
unfolding ends
no_letter c e = grind (arith, nat_tests)

no_digit : (c : ℕ) → ends c ≡ true → not (is_ascii_digit c) ≡ true
unfolding ends
no_digit c e = grind (arith, nat_tests)

stops_is : (x : List ℕ) (k : ℕ) → stops_number x k ≡ not (is_ascii_digit (octet_at x k))
unfolding stops_number
stops_is x k = refl

module _ (n : ℕ) (lt : n < 10 ^ 64) where
  ds : List ℕ
  ds = decimal n

  is : IsNumeral 10 (decimal n) × (digits_value 10 (decimal n) ≡ n)
  is = decimal_is_IsNumeral_wide n lt

  digit : (k : ℕ) → k < length (decimal n) → is_ascii_digit (octet_at (decimal n) k) ≡ true
  digit k kt = let r = digit_at (decimal n) k is.0.1 kt in digit_on (octet_at (decimal n) k) (omega (arith, r)) (omega (arith, r))

  number_valid : (x z : List ℕ) (i : ℕ) → drop i x ≡ decimal n ++ z → Ends z →
      IsNumberToken x i (i + length (decimal n))
  number_valid x z i e q =
      let next = octet_next x (decimal n) z i e in
      let at = octet_first x (decimal n) z i e is.0.0 in
      let p = plain n lt in
      record {
        digit = ap is_ascii_digit at ∙ digit 0 is.0.0;
        first = record {
          follows = omega (arith, is.0.0);
          here = stops_is x (i + length (decimal n)) ∙ ap (λ (c : ℕ). not (is_ascii_digit c)) next ∙ no_digit (octet_at z 0) q;
          before = before;
        };
        plain = λ f. by_zero p (sym at ∙ f);
        whole = ap is_ascii_alphabetic next ∙ no_letter (octet_at z 0) q;
      }
    where
      before : (k : ℕ) → i + 1 ≤ k → k < i + length (decimal n) → stops_number x k ≡ false
      before k ge less =
          let m : k ≡ i + (k - i) = omega (arith, ge) in
          let f = digit (k - i) (omega (arith, ge, less)) in
          stops_is x k ∙ ap (λ (k : ℕ). not (is_ascii_digit (octet_at x k))) m ∙ ap (λ (c : ℕ). not (is_ascii_digit c)) (octet_in x (decimal n) z i (k - i) e (omega (arith, ge, less))) ∙ stops_not (octet_at (decimal n) (k - i)) f

      by_zero : IsPlain n (decimal n) → octet_at (decimal n) 0 ≡ 48 → i + length (decimal n) ≡ i + 1
      by_zero p f =
          elim (cases_lt 0 n) [
            | inl pos ↦ absurd (let g = p.first pos in omega (arith, g, f))
            | inr le ↦ let g = p.alone (omega (arith, le)) in omega (arith, g)
          ]

  pub number_said : n ≤ max_number → Speaks Ends (decimal n) (Number n ∷ [])
  number_said le = one Ends (decimal n) kinds.Number (Number n) each
    where
      value : (x z : List ℕ) (i : ℕ) → drop i x ≡ decimal n ++ z → number_value x i (i + length (decimal n)) ≡ n
      value x z i e = ap (digits_value 10) (standing x (decimal n) z i e) ∙ is.1

      each : (x z : List ℕ) (i : ℕ) → drop i x ≡ decimal n ++ z → Ends z → IsOne x kinds.Number (Number n) i (i + length (decimal n))
      each x z i e q = record {
        token = number_valid x z i e q;
        says = ap Number (value x z i e);
        small = λ f. let v = value x z i e in rw v le;
      }

  -- no number begins with a hyphen
  pub number_begins : (z : List ℕ) → (slice_index (decimal n ++ z) 0 == 45) ≡ false
  number_begins z =
      let a = get_or-append (decimal n) z 0 0 is.0.0 in
      let r = digit_at (decimal n) 0 is.0.1 is.0.0 in
      ap (λ (c : ℕ). c == 45) a ∙ not_hyphen (octet_at (decimal n) 0) (omega (arith, r))
    where
      not_hyphen : (c : ℕ) → 48 ≤ c → (c == 45) ≡ false
      not_hyphen c le = grind (arith, nat_tests)
