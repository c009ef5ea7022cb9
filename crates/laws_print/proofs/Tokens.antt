-- The tokens of printed values, in any place.
use Rattle.std.proofs.Common.{◌≡◌, ℕ, zero, suc, ◌+◌, ◌-◌, ◌≤◌, ◌<◌, Bool, true, false, not, ◌&&◌, ◌||◌, List, [], ◌∷◌, ◌++◌, length, drop, Some, refl, sym, ap, subst, ◌∙◌, arith, inl, inr}
use Rattle.std.specs.Prelude.{slice_range, slice_index, ⊤, ◌==◌, codes, IsFalse}
use Rattle.std.specs.Char.{is_ascii_alphanumeric, is_ascii_alphabetic, is_ascii_uppercase}
use Rattle.std.proofs.Math.ListN.{get_or-append}
use Rattle.std.proofs.lemmas.List.{get_or_past}
use Rattle.std.proofs.lemmas.Bool.{cases_lt}
use Rattle.std.proofs.lemmas.Bool.Decides.{nat_tests}
use Rattle.text.specs.declared.token.TokenKind.{TokenKind}
use Rattle.text.specs.declared.token.TokenKind.TheVariants as kinds
use Rattle.text.specs.declared.token.Mark.{Mark as Mark'}
use Rattle.text.specs.declared.token.Mark.TheVariants as marks
use Rattle.text.specs.declared.reserved.Word.{Word as Word'}
use Rattle.text.specs.declared.reserved.Word.TheVariants as words
use Rattle.text.specs.Words.{spelling}
use Rattle.text.specs.Octets.{octet_at, is_space, is_pair, dashes, stops_name, is_lone_hyphen}
use Rattle.text.specs.Items.{IsName, IsNoWord, mark_at, white_space}
use Rattle.text.specs.Text.{holds_none, holds_gap, IsNoGreatNumber}
use Rattle.grammar.specs.Lexeme.{Ident, Word, Mark}
use Rattle.laws_print.specs.Lexing.{IsIdentifierToken}
use Rattle.laws_print.specs.Lexing.{Speaks, ends, Ends}
use Rattle.laws_print.proofs.Pieces.{octet_on, follows, standing, IsOne, one}

-- ---- octets of a part and of what follows it

pub octet_in : (x w z : List ℕ) (i k : ℕ) → drop i x ≡ w ++ z → k < length w → octet_at x (i + k) ≡ octet_at w k
octet_in x w z i k e lt = octet_on x (w ++ z) i k e ∙ get_or-append w z 0 k lt

pub octet_past : (x w z : List ℕ) (i k : ℕ) → drop i x ≡ w ++ z → octet_at x ((i + length w) + k) ≡ octet_at z k
octet_past x w z i k e = octet_on x z (i + length w) k (follows x w z i e)

pub octet_first : (x w z : List ℕ) (i : ℕ) → drop i x ≡ w ++ z → 0 < length w → octet_at x i ≡ octet_at w 0
octet_first x w z i e lt = let n : i ≡ i + 0 = omega arith in ap (octet_at x) n ∙ octet_in x w z i 0 e lt

pub octet_next : (x w z : List ℕ) (i : ℕ) → drop i x ≡ w ++ z → octet_at x (i + length w) ≡ octet_at z 0
octet_next x w z i e = let n : i + length w ≡ (i + length w) + 0 = omega arith in ap (octet_at x) n ∙ octet_past x w z i 0 e

-- ---- names

-- a name doesn't go on with these two octets
abbrev stops : ℕ → ℕ → Bool
stops c d = not (is_ascii_alphanumeric c || ((c == 45) && is_ascii_alphanumeric d))

stops_is : (x : List ℕ) (k : ℕ) → stops_name x k ≡ stops (octet_at x k) (octet_at x (k + 1))
unfolding stops_name
stops_is x k = refl

stops_here : (c d : ℕ) → ends c ≡ true → stops c d ≡ true
unfolding ends
stops_here c d e = grind (arith, nat_tests)

no_hyphen : (c : ℕ) → ends c ≡ true → (c == 45) ≡ false
unfolding ends
no_hyphen c e = grind (arith, nat_tests)

goes_on : (c d : ℕ) → stops c 0 ≡ false → stops c d ≡ false
goes_on c d e = grind (arith, nat_tests)

lone_is : (x : List ℕ) (k : ℕ) → (octet_at x k == 45) ≡ false → is_lone_hyphen x k ≡ false
unfolding is_lone_hyphen
lone_is x k e = rw e refl

name_on : (x w z : List ℕ) (i m : ℕ) → drop i x ≡ w ++ z → m < length w → stops_name w m ≡ false → stops_name x (i + m) ≡ false
name_on x w z i m e lt f =
    elim (cases_lt (m + 1) (length w)) [
      | inl in_w ↦
          let a = octet_in x w z i m e lt in
          let n : (i + m) + 1 ≡ i + (m + 1) = omega arith in
          let b : octet_at x ((i + m) + 1) ≡ octet_at w (m + 1) = ap (octet_at x) n ∙ octet_in x w z i (m + 1) e in_w in
          stops_is x (i + m) ∙ ap (λ (c : ℕ). stops c (octet_at x ((i + m) + 1))) a ∙ ap (stops (octet_at w m)) b ∙ sym (stops_is w m) ∙ f
      | inr le ↦
          let a = octet_in x w z i m e lt in
          let b : octet_at w (m + 1) ≡ 0 = get_or_past w (m + 1) 0 le in
          let g : stops (octet_at w m) 0 ≡ false = ap (stops (octet_at w m)) (sym b) ∙ sym (stops_is w m) ∙ f in
          stops_is x (i + m) ∙ ap (λ (c : ℕ). stops c (octet_at x ((i + m) + 1))) a ∙ goes_on (octet_at w m) (octet_at x ((i + m) + 1)) g
    ]

-- a text that is a name by itself is a name in any place
pub name_moved : (x w z : List ℕ) (i : ℕ) → IsName w 0 (length w) → drop i x ≡ w ++ z → Ends z → IsName x i (i + length w)
name_moved x w z i n e q =
    let some : 1 ≤ length w = n.first.follows in
    let next = octet_next x w z i e in
    record {
      letter = ap is_ascii_alphabetic (octet_first x w z i e (omega (arith, some))) ∙ n.letter;
      first = record {
        follows = omega (arith, some);
        here = stops_is x (i + length w) ∙ ap (λ (c : ℕ). stops c (octet_at x ((i + length w) + 1))) next ∙ stops_here (octet_at z 0) (octet_at x ((i + length w) + 1)) q;
        before = before;
      };
      whole = lone_is x (i + length w) (ap (λ (c : ℕ). c == 45) next ∙ no_hyphen (octet_at z 0) q);
    }
  where
    before : (k : ℕ) → i + 1 ≤ k → k < i + length w → stops_name x k ≡ false
    before k ge lt =
        let m : k ≡ i + (k - i) = omega (arith, ge) in
        let f = n.first.before (k - i) (omega (arith, ge)) (omega (arith, ge, lt)) in
        ap (stops_name x) m ∙ name_on x w z i (k - i) e (omega (arith, ge, lt)) f

pub not_small : (x : List ℕ) (k : TokenKind) (i j : ℕ) → (k ≡ kinds.Number → ⊥) → IsNoGreatNumber x (record { kind = k; span = record { start = i; end = j } })
not_small x k i j other e = absurd (other e)

pub whole_slice : (w : List ℕ) → slice_range w 0 (length w) ≡ w
whole_slice w = let n : 0 + length w ≡ length w = omega arith in ap (slice_range w 0) (sym n) ∙ standing w w [] 0 (nil w)
  where
    nil : (w : List ℕ) → w ≡ w ++ []
    nil [] = refl
    nil (c ∷ w) = ap (λ (l : List ℕ). c ∷ l) (nil w)

pub identifier : (w : List ℕ) → IsIdentifierToken w → Speaks Ends w (Ident w ∷ [])
identifier w n = one Ends w kinds.Identifier (Ident w) each
  where
    each : (x z : List ℕ) (i : ℕ) → drop i x ≡ w ++ z → Ends z → IsOne x kinds.Identifier (Ident w) i (i + length w)
    each x z i e q =
        let s = standing x w z i e in
        let some : 1 ≤ length w = n.0.first.follows in
        record {
          token = (
            name_moved x w z i n.0 e q,
            subst IsNoWord (whole_slice w ∙ sym s) n.1,
            ap is_ascii_uppercase (octet_first x w z i e (omega (arith, some))) ∙ n.2,
          );
          says = ap Ident s;
          small = not_small x kinds.Identifier i (i + length w) (λ f. absurd cc);
        }

pub reserved : (v : Word') → IsName (spelling v) 0 (length (spelling v)) → Speaks Ends (spelling v) (Word v ∷ [])
reserved v n = one Ends (spelling v) (kinds.Reserved v) (Word v) each
  where
    each : (x z : List ℕ) (i : ℕ) → drop i x ≡ spelling v ++ z → Ends z → IsOne x (kinds.Reserved v) (Word v) i (i + length (spelling v))
    each x z i e q = record {
      token = (name_moved x (spelling v) z i n e q, sym (standing x (spelling v) z i e));
      says = refl;
      small = not_small x (kinds.Reserved v) i (i + length (spelling v)) (λ f. absurd cc);
    }

true_name : IsName (codes "TRUE") 0 4
unfolding stops_name is_lone_hyphen
true_name = record { letter = refl; first = record { follows = omega arith; here = refl; before = before }; whole = refl }
  where
    before : (k : ℕ) → 1 ≤ k → k < 4 → stops_name (codes "TRUE") k ≡ false
    before zero ge lt = absurd (omega (arith, ge))
    before (suc zero) ge lt = refl
    before (suc (suc zero)) ge lt = refl
    before (suc (suc (suc zero))) ge lt = refl
    before (suc (suc (suc (suc k)))) ge lt = absurd (omega (arith, lt))

false_name : IsName (codes "FALSE") 0 5
unfolding stops_name is_lone_hyphen
false_name = record { letter = refl; first = record { follows = omega arith; here = refl; before = before }; whole = refl }
  where
    before : (k : ℕ) → 1 ≤ k → k < 5 → stops_name (codes "FALSE") k ≡ false
    before zero ge lt = absurd (omega (arith, ge))
    before (suc zero) ge lt = refl
    before (suc (suc zero)) ge lt = refl
    before (suc (suc (suc zero))) ge lt = refl
    before (suc (suc (suc (suc zero)))) ge lt = refl
    before (suc (suc (suc (suc (suc k))))) ge lt = absurd (omega (arith, lt))

null_name : IsName (codes "NULL") 0 4
unfolding stops_name is_lone_hyphen
null_name = record { letter = refl; first = record { follows = omega arith; here = refl; before = before }; whole = refl }
  where
    before : (k : ℕ) → 1 ≤ k → k < 4 → stops_name (codes "NULL") k ≡ false
    before zero ge lt = absurd (omega (arith, ge))
    before (suc zero) ge lt = refl
    before (suc (suc zero)) ge lt = refl
    before (suc (suc (suc zero))) ge lt = refl
    before (suc (suc (suc (suc k)))) ge lt = absurd (omega (arith, lt))

pub true_word : Speaks Ends (codes "TRUE") (Word words.True ∷ [])
true_word = reserved words.True true_name

pub false_word : Speaks Ends (codes "FALSE") (Word words.False ∷ [])
false_word = reserved words.False false_name

pub null_word : Speaks Ends (codes "NULL") (Word words.Null ∷ [])
null_word = reserved words.Null null_name

-- ---- marks and spaces

-- whatever follows
abbrev pub Any : List ℕ → Type 0
Any z = ⊤

mark_one : (P : List ℕ → Type 0) (c : ℕ) (m : Mark') → ((x z : List ℕ) (i : ℕ) → octet_at x i ≡ c → octet_at x (suc i) ≡ octet_at z 0 → P z → (mark_at x i ≡ Some (m, i + 1)) × (dashes x i ≡ false)) → Speaks P (c ∷ []) (Mark m ∷ [])
mark_one P c m h = one P (c ∷ []) (kinds.Mark m) (Mark m) each
  where
    each : (x z : List ℕ) (i : ℕ) → drop i x ≡ c ∷ z → P z → IsOne x (kinds.Mark m) (Mark m) i (i + 1)
    each x z i e q =
        let n : suc i ≡ i + 1 = omega arith in
        let r = h x z i (octet_first x (c ∷ []) z i e (omega arith)) (ap (octet_at x) n ∙ octet_next x (c ∷ []) z i e) q in
        record {
          token = record { longest = r.0; no_comment = r.1 };
          says = refl;
          small = not_small x (kinds.Mark m) i (i + 1) (λ f. absurd cc);
        }

no_dashes : (x : List ℕ) (i c : ℕ) → octet_at x i ≡ c → (c == 45) ≡ false → dashes x i ≡ false
unfolding is_pair
no_dashes x i c e f = rw (e, f) refl

open_at : (x : List ℕ) (i : ℕ) → octet_at x i ≡ 123 → mark_at x i ≡ Some (marks.OpenBrace, i + 1)
unfolding mark_at
open_at x i e = rw e refl

close_at : (x : List ℕ) (i : ℕ) → octet_at x i ≡ 125 → mark_at x i ≡ Some (marks.CloseBrace, i + 1)
unfolding mark_at
close_at x i e = rw e refl

comma_at : (x : List ℕ) (i : ℕ) → octet_at x i ≡ 44 → mark_at x i ≡ Some (marks.Comma, i + 1)
unfolding mark_at
comma_at x i e = rw e refl

minus_at : (x : List ℕ) (i : ℕ) → octet_at x i ≡ 45 → mark_at x i ≡ Some (marks.Minus, i + 1)
unfolding mark_at
minus_at x i e = rw e refl

colon_at : (x : List ℕ) (i d : ℕ) → octet_at x i ≡ 58 → octet_at x (suc i) ≡ d → (d == 58) ≡ false → mark_at x i ≡ Some (marks.Colon, i + 1)
unfolding mark_at
colon_at x i d e f g = rw (e, f, g) refl

no_colon : (c : ℕ) → ends c ≡ true → (c == 58) ≡ false
unfolding ends
no_colon c e = grind (arith, nat_tests)

one_hyphen : (x : List ℕ) (i d : ℕ) → octet_at x i ≡ 45 → octet_at x (suc i) ≡ d → (d == 45) ≡ false → dashes x i ≡ false
unfolding is_pair
one_hyphen x i d e f g = let n : i + 1 ≡ suc i = omega arith in rw (e, n, f, g) refl

pub open_brace : Speaks Any (codes "{") (Mark marks.OpenBrace ∷ [])
open_brace = mark_one Any 123 marks.OpenBrace (λ x z i e f q. (open_at x i e, no_dashes x i 123 e refl))

pub close_brace : Speaks Any (codes "}") (Mark marks.CloseBrace ∷ [])
close_brace = mark_one Any 125 marks.CloseBrace (λ x z i e f q. (close_at x i e, no_dashes x i 125 e refl))

pub comma : Speaks Any (codes ",") (Mark marks.Comma ∷ [])
comma = mark_one Any 44 marks.Comma (λ x z i e f q. (comma_at x i e, no_dashes x i 44 e refl))

pub colon : Speaks Ends (codes ":") (Mark marks.Colon ∷ [])
colon = mark_one Ends 58 marks.Colon (λ x z i e f q. (colon_at x i (octet_at z 0) e f (no_colon (octet_at z 0) q), no_dashes x i 58 e refl))

-- no second hyphen follows
abbrev pub NoHyphen : List ℕ → Type 0
NoHyphen z = IsFalse (slice_index z 0 == 45)

pub minus : Speaks NoHyphen (codes "-") (Mark marks.Minus ∷ [])
minus = mark_one NoHyphen 45 marks.Minus (λ x z i e f q. (minus_at x i e, one_hyphen x i (octet_at z 0) e f q))

space_is : is_space 32 ≡ true
unfolding is_space
space_is = refl

pub space : Speaks Any (codes " ") []
space x z i e q = record {
  tokens = [];
  holds = holds_gap (i + 1) (white_space (record { space = ap is_space (octet_first x (codes " ") z i e (omega arith)) ∙ space_is; one = refl })) (holds_none refl);
  says = refl;
  small = tt;
}
