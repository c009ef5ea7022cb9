-- Texts in quotes.
use Rattle.std.proofs.Common.{◌≡◌, ℕ, zero, suc, ◌+◌, ◌-◌, ◌<◌, Bool, true, false, ◌||◌, List, [], ◌∷◌, ◌++◌, length, drop, refl, sym, ap, subst, ◌∙◌, arith, length-append, append_assoc}
use Rattle.std.specs.Prelude.{slice_range, ◌==◌, codes, if◌then◌else◌}
use Rattle.std.specs.List.{list_any}
use Rattle.std.proofs.lemmas.Bool.{eqb-true}
use Rattle.std.proofs.lemmas.Bool.Decides.{nat_tests}
use Rattle.text.specs.declared.token.TokenKind.TheVariants as kinds
use Rattle.text.specs.Octets.{octet_at, is_line_ending as ends_line}
use Rattle.text.specs.Items.{IsCharacterString, IsQuoted, quoted_end, quoted_octet, quoted_pair}
use Rattle.grammar.specs.Lexeme.{CString, single_quotes, chars_between}
use Rattle.value_text.specs.Print.{is_line_end, doubled, quoted}
use Rattle.laws_print.specs.Lexing.{Speaks, ends, Ends}
use Rattle.laws_print.proofs.Pieces.{octet_on, follows, standing, IsOne, one}
use Rattle.laws_print.proofs.Tokens.{octet_first, octet_next, not_small}

-- ---- quotes are doubled, and single again

single_other : (c : ℕ) (x : List ℕ) → (c == 34) ≡ false → single_quotes (c ∷ x) ≡ c ∷ single_quotes x
unfolding single_quotes
single_other c [] e = refl
single_other c (d ∷ x) e = rw e refl

single_pair : (c : ℕ) (x : List ℕ) → (c == 34) ≡ true → single_quotes (34 ∷ 34 ∷ x) ≡ c ∷ single_quotes x
unfolding single_quotes
single_pair c x e = let f = eqb-true c 34 e in ap (λ c. c ∷ single_quotes x) (sym f)

pub undoubled : (o : List ℕ) → single_quotes (doubled o) ≡ o
unfolding single_quotes
undoubled [] = refl
undoubled (c ∷ o) = of_test (c == 34) refl (undoubled o)
  where
    of_test : (b : Bool) → (c == 34) ≡ b → single_quotes (doubled o) ≡ o → single_quotes (if b then (34 ∷ 34 ∷ doubled o) else (c ∷ doubled o)) ≡ c ∷ o
    of_test true e r = single_pair c (doubled o) e ∙ ap (λ l. c ∷ l) r
    of_test false e r = single_other c (doubled o) e ∙ ap (λ l. c ∷ l) r

-- ---- what is between the quotes

same_line_end : (c : ℕ) → is_line_end c ≡ false → ends_line c ≡ false
unfolding ends_line
same_line_end c e = e

any_first : (c : ℕ) (o : List ℕ) → list_any is_line_end (c ∷ o) ≡ false → is_line_end c ≡ false
any_first c o e = of_test (is_line_end c) (list_any is_line_end o) e
  where
    of_test : (a b : Bool) → (a || b) ≡ false → a ≡ false
    of_test true b e = e
    of_test false b e = refl

any_rest : (c : ℕ) (o : List ℕ) → list_any is_line_end (c ∷ o) ≡ false → list_any is_line_end o ≡ false
any_rest c o e = of_test (is_line_end c) (list_any is_line_end o) e
  where
    of_test : (a b : Bool) → (a || b) ≡ false → b ≡ false
    of_test true b e = absurd cc
    of_test false b e = e

within : (x w : List ℕ) (i : ℕ) (c : ℕ) → drop i x ≡ c ∷ w → i < length x
within [] w zero c e = absurd cc
within (y ∷ x) w zero c e = omega arith
within [] w (suc i) c e = absurd cc
within (y ∷ x) w (suc i) c e = let h = within x w i c e in omega (arith, h)

at_front : (x w : List ℕ) (i : ℕ) (c : ℕ) → drop i x ≡ c ∷ w → octet_at x i ≡ c
at_front x w i c e = octet_first x (c ∷ []) w i e (omega arith)

on_from : (x w : List ℕ) (i : ℕ) (c : ℕ) → drop i x ≡ c ∷ w → drop (i + 1) x ≡ w
on_from x w i c e = follows x (c ∷ []) w i e

is_quoted : (x o z : List ℕ) (i : ℕ) → list_any is_line_end o ≡ false → drop i x ≡ doubled o ++ (34 ∷ z) → IsQuoted x i (i + length (doubled o))
is_quoted x [] z i l e = quoted_end (omega arith)
is_quoted x (c ∷ o) z i l e = of_test (c == 34) refl e (λ j f. is_quoted x o z j (any_rest c o l) f)
  where
    of_test : (b : Bool) → (c == 34) ≡ b → drop i x ≡ (if b then (34 ∷ 34 ∷ doubled o) else (c ∷ doubled o)) ++ (34 ∷ z)
        → ((j : ℕ) → drop j x ≡ doubled o ++ (34 ∷ z) → IsQuoted x j (j + length (doubled o)))
        → IsQuoted x i (i + length (if b then (34 ∷ 34 ∷ doubled o) else (c ∷ doubled o)))
    of_test true f e more =
        let d = on_from x _ i 34 e in
        let m : (i + 1) + 1 ≡ i + 2 = omega arith in
        let n : (i + 2) + length (doubled o) ≡ i + length (34 ∷ 34 ∷ doubled o) = omega arith in
        quoted_pair (at_front x _ i 34 e) (at_front x _ (i + 1) 34 d)
        (subst (IsQuoted x (i + 2)) n (more (i + 2) (ap (λ k. drop k x) (sym m) ∙ on_from x _ (i + 1) 34 d)))
    of_test false f e more =
        let a = at_front x _ i c e in
        let n : (i + 1) + length (doubled o) ≡ i + length (c ∷ doubled o) = omega arith in
        quoted_octet (within x _ i c e) (ap (λ c. c == 34) a ∙ f) (ap ends_line a ∙ same_line_end c (any_first c o l))
        (subst (IsQuoted x (i + 1)) n (more (i + 1) (on_from x _ i c e)))

no_quote : (c : ℕ) → ends c ≡ true → (c == 34) ≡ false
unfolding ends
no_quote c e = grind (arith, nat_tests)

module _ (o : List ℕ) (line : list_any is_line_end o ≡ false) where
  long : length (quoted o) ≡ length (doubled o) + 2
  long = omega (arith, length-append (doubled o) (codes "\""))

  module _ (x z : List ℕ) (i : ℕ) (e : drop i x ≡ quoted o ++ z) (q : Ends z) where
    at_text : drop (i + 1) x ≡ doubled o ++ (34 ∷ z)
    at_text = follows x (34 ∷ []) ((doubled o ++ codes "\"") ++ z) i e ∙ append_assoc (doubled o) (codes "\"") z

    closed : octet_at x ((i + 1) + length (doubled o)) ≡ 34
    closed = octet_next x (doubled o) (34 ∷ z) (i + 1) at_text

    single : octet_at x (((i + 1) + length (doubled o)) + 1) ≡ octet_at z 0
    single = octet_on x (34 ∷ z) ((i + 1) + length (doubled o)) 1 (follows x (doubled o) (34 ∷ z) (i + 1) at_text)

    pub text_valid : IsCharacterString x i (i + length (quoted o))
    text_valid = record {
      begins = octet_first x (quoted o) z i e (omega (arith, long));
      close = (i + 1) + length (doubled o);
      inside = is_quoted x o z (i + 1) line at_text;
      closed = closed;
      single = ap (λ c. c == 34) single ∙ no_quote (octet_at z 0) q;
      end = omega (arith, long);
    }

    pub text_decoded : chars_between x i (i + length (quoted o)) ≡ o
    text_decoded =
        let n : (i + length (quoted o)) - 1 ≡ (i + 1) + length (doubled o) = omega (arith, long) in
        ap (λ j. single_quotes (slice_range x (i + 1) j)) n
        ∙ ap single_quotes (standing x (doubled o) (34 ∷ z) (i + 1) at_text) ∙ undoubled o

pub text_said : (o : List ℕ) → list_any is_line_end o ≡ false → Speaks Ends (quoted o) (CString o ∷ [])
text_said o line = one Ends (quoted o) kinds.CharacterString (CString o) each
  where
    each : (x z : List ℕ) (i : ℕ) → drop i x ≡ quoted o ++ z → Ends z → IsOne x kinds.CharacterString (CString o) i (i + length (quoted o))
    each x z i e q = record {
      token = text_valid o line x z i e q;
      says = ap CString (text_decoded o line x z i e q);
      small = not_small x kinds.CharacterString i (i + length (quoted o)) (λ f. absurd cc);
    }
