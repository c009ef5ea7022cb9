-- Each token's text is UTF-8.
use Rattle.std.proofs.Common.{◌≡◌, ℕ, suc, ◌+◌, ◌-◌, ◌≤◌, ◌<◌, Bool, true, false, ◌&&◌, cond, List, [], ◌∷◌, length, Some, refl, ap, arith, inl, inr, All}
use Rattle.std.specs.Prelude.{◌==◌, nat_lt, slice_range, IsUtf8}
use Rattle.std.specs.Char.{is_ascii_digit, is_ascii_alphabetic}
use Rattle.std.specs.List.{AllByRecursion}
use Rattle.std.specs.Str.{IsCharBoundary}
use Rattle.std.proofs.lemmas.List.Elements.{All-from_recursion}
use Rattle.std.proofs.lemmas.Bool.{cases_lt, eqb-true}
use Rattle.std.proofs.lemmas.Bool.Decides.{nat_tests}
use Rattle.std.proofs.lemmas.Str.{IsCharBoundary-before_ascii, IsCharBoundary-after_ascii, IsUtf8-between}
use Rattle.text.specs.declared.token.Token.{Token}
use Rattle.text.specs.declared.token.TokenKind.{TokenKind}
use Rattle.text.specs.declared.token.TokenKind.TheVariants as kinds
use Rattle.text.specs.declared.token.Mark.{Mark}
use Rattle.text.specs.Octets.{octet_at, stops_name, stops_number, IsFirstStop}
use Rattle.text.specs.Items.{IsName, IsNumberToken, IsDigitString, IsTokenOfKind, marks, is_spelled, first_mark, mark_at}
use Rattle.text.specs.Text.{HoldsTokens, holds_none, holds_gap, holds_token, IsText, IsNoGreatNumber, IsWithinLimits, IsTokenOf}
use Rattle.text.proofs.Quotes.{within}
use Rattle.text.proofs.Unique.{some_is, token_within, mark_begins}
use Rattle.text.proofs.Lexing.{kind_end_within}
use Rattle.text.proofs.Spans.{kind_after}

-- ---- a token begins where a character begins

letter_below : (c : ℕ) → is_ascii_alphabetic c ≡ true → c < 128
letter_below c e = grind (arith, nat_tests)

digit_below : (c : ℕ) → is_ascii_digit c ≡ true → c < 128
digit_below c e = grind (arith, nat_tests)

is_below : ℕ → Bool
is_below c = nat_lt c 128

below : (c : ℕ) → is_below c ≡ true → c < 128
unfolding is_below
below c e = grind (arith, nat_tests)

mark_below : (x : List ℕ) (i j : ℕ) (m : Mark) → mark_at x i ≡ Some (m, j) → octet_at x i < 128
unfolding mark_at is_below
mark_below x i j m e = below _ (mark_begins is_below x i marks (m, j) refl e)

begins_below : (x : List ℕ) (k : TokenKind) (i j : ℕ) → IsTokenOfKind x k i j → octet_at x i < 128
begins_below x kinds.TypeReference i j a = letter_below _ a.0.letter
begins_below x kinds.Identifier i j a = letter_below _ a.0.letter
begins_below x (kinds.Reserved w) i j a = letter_below _ a.0.letter
begins_below x kinds.Number i j a = digit_below _ a.digit
begins_below x kinds.CharacterString i j a = let b = a.begins in omega arith
begins_below x kinds.BinaryString i j a = let b = a.begins in omega arith
begins_below x kinds.HexString i j a = let b = a.begins in omega arith
begins_below x (kinds.Mark m) i j a = mark_below x i j m a.longest

-- ---- and ends where one ends

in_name : (x : List ℕ) (i : ℕ) → stops_name x i ≡ false → octet_at x i < 128
unfolding stops_name
in_name x i e = grind (arith, nat_tests)

in_number : (x : List ℕ) (i : ℕ) → stops_number x i ≡ false → octet_at x i < 128
unfolding stops_number
in_number x i e = grind (arith, nat_tests)

run_below : (p : ℕ → Bool) (x : List ℕ) (i j k : ℕ)
    → ((m : ℕ) → p m ≡ false → octet_at x m < 128)
    → octet_at x i < 128
    → IsFirstStop p (i + 1) j
    → i ≤ k
    → k < j
    → octet_at x k < 128
run_below p x i j k in_run begins f le lt =
    elim (cases_lt i k) [
      | inl on ↦ in_run k (f.before k (omega arith) lt)
      | inr ge ↦ let e : k ≡ i = omega arith in rw e begins
    ]

-- all octets of a name are ASCII
pub name_below : (x : List ℕ) (i j k : ℕ) → IsName x i j → i ≤ k → k < j → octet_at x k < 128
name_below x i j k a = run_below (stops_name x) x i j k (in_name x) (letter_below _ a.letter) a.first

number_below : (x : List ℕ) (i j k : ℕ) → IsNumberToken x i j → i ≤ k → k < j → octet_at x k < 128
number_below x i j k a = run_below (stops_number x) x i j k (in_number x) (digit_below _ a.digit) a.first

after_octet : (x : List ℕ) (i j : ℕ)
    → IsUtf8 x
    → j ≤ length x
    → i < j
    → ((k : ℕ) → i ≤ k → k < j → octet_at x k < 128)
    → IsCharBoundary x j
after_octet x i j u le lt h =
    let e : (j - 1) + 1 ≡ j = omega arith in
    let b = IsCharBoundary-after_ascii x (j - 1) u (omega arith) (h (j - 1) (omega arith) (omega arith)) in
    rw e at b

-- after an octet that is known
after_known : (x : List ℕ) (i c j : ℕ) → IsUtf8 x → octet_at x i ≡ c → 0 < c → c < 128 → j ≡ i + 1 → IsCharBoundary x j
after_known x i c j u e pos lt f = rw f (IsCharBoundary-after_ascii x i u (within x i c e pos) (omega (arith, e)))

after_digits : (p : ℕ → Bool) (c : ℕ) (x : List ℕ) (i j : ℕ)
    → IsUtf8 x
    → 0 < c
    → c < 128
    → IsDigitString p c x i j
    → IsCharBoundary x j
after_digits p c x i j u pos lt a = after_known x (a.close + 1) c j u a.lettered pos lt (omega (arith, a.end))

-- the octets of a mark are ASCII and none is 0
abbrev is_plain : ℕ → Bool
is_plain c = nat_lt 0 c && nat_lt c 128

abbrev are_plain : List ℕ → Bool
are_plain [] = true
are_plain (c ∷ cs) = is_plain c && are_plain cs

abbrev marks_plain : List (List ℕ × Mark) → Bool
marks_plain [] = true
marks_plain (m ∷ ms) = are_plain m.0 && marks_plain ms

and_both : (a b : Bool) → (a && b) ≡ true → (a ≡ true) × (b ≡ true)
and_both true b e = (refl, e)
and_both false b e = absurd cc

plain : (c : ℕ) → is_plain c ≡ true → (0 < c) × (c < 128)
plain c e = (grind (arith, nat_tests), grind (arith, nat_tests))

after_spelled : (x : List ℕ) (i j : ℕ) (w : List ℕ)
    → IsUtf8 x
    → IsCharBoundary x i
    → are_plain w ≡ true
    → is_spelled x i w ≡ true
    → i + length w ≡ j
    → IsCharBoundary x j
after_spelled x i j [] u b p s e = let f : i ≡ j = omega (arith, e) in rw f at b
after_spelled x i j (c ∷ cs) u b p s e =
    let q = and_both (is_plain c) (are_plain cs) p in
    let r = plain c q.0 in
    let t = and_both (octet_at x i == c) (is_spelled x (suc i) cs) s in
    let f : suc i ≡ i + 1 = omega arith in
    after_spelled x (suc i) j cs u (after_known x i c (suc i) u (eqb-true _ _ t.0) r.0 r.1 f) q.1 t.1 (omega (arith, e))

after_first : (x : List ℕ) (i j : ℕ) (m : Mark) (ms : List (List ℕ × Mark))
    → IsUtf8 x
    → IsCharBoundary x i
    → marks_plain ms ≡ true
    → first_mark x i ms ≡ Some (m, j)
    → IsCharBoundary x j
after_first x i j m [] u b p e = absurd cc
after_first x i j m (n ∷ ns) u b p e = go (is_spelled x i n.0) refl e (and_both (are_plain n.0) (marks_plain ns) p) (λ q f. after_first x i j m ns u b q f)
  where
    go : (c : Bool)
        → is_spelled x i n.0 ≡ c
        → cond c (Some (n.1, i + length n.0)) (first_mark x i ns) ≡ Some (m, j)
        → (are_plain n.0 ≡ true) × (marks_plain ns ≡ true)
        → (marks_plain ns ≡ true → first_mark x i ns ≡ Some (m, j) → IsCharBoundary x j)
        → IsCharBoundary x j
    go true s t h ih = after_spelled x i j n.0 u b h.0 s (ap (λ (q : Mark × ℕ). q.1) (some_is (n.1, i + length n.0) (m, j) t))
    go false s t h ih = ih h.1 t

after_mark : (x : List ℕ) (i j : ℕ) (m : Mark)
    → IsUtf8 x
    → IsCharBoundary x i
    → mark_at x i ≡ Some (m, j)
    → IsCharBoundary x j
unfolding mark_at
after_mark x i j m u b e = after_first x i j m marks u b refl e

ends_boundary : (x : List ℕ) (k : TokenKind) (i j : ℕ)
    → IsUtf8 x
    → IsCharBoundary x i
    → i < j
    → j ≤ length x
    → IsTokenOfKind x k i j
    → IsCharBoundary x j
ends_boundary x kinds.TypeReference i j u b lt le a = after_octet x i j u le lt (λ k. name_below x i j k a.0)
ends_boundary x kinds.Identifier i j u b lt le a = after_octet x i j u le lt (λ k. name_below x i j k a.0)
ends_boundary x (kinds.Reserved w) i j u b lt le a = after_octet x i j u le lt (λ k. name_below x i j k a.0)
ends_boundary x kinds.Number i j u b lt le a = after_octet x i j u le lt (λ k. number_below x i j k a)
ends_boundary x kinds.CharacterString i j u b lt le a = after_known x a.close 34 j u a.closed (omega arith) (omega arith) a.end
ends_boundary x kinds.BinaryString i j u b lt le a = after_digits _ 66 x i j u (omega arith) (omega arith) a
ends_boundary x kinds.HexString i j u b lt le a = after_digits _ 72 x i j u (omega arith) (omega arith) a
ends_boundary x (kinds.Mark m) i j u b lt le a = after_mark x i j m u b a.longest

kind_utf8 : (x : List ℕ) (k : TokenKind) (i j : ℕ) → IsUtf8 x → IsTokenOfKind x k i j → IsUtf8 (slice_range x i j)
kind_utf8 x k i j u a =
    let lt = token_within x k i j a in
    let on = kind_after x k i j a in
    let b = IsCharBoundary-before_ascii x i lt (begins_below x k i j a) in
    IsUtf8-between x i j u (omega arith) b (ends_boundary x k i j u b on (kind_end_within x k i j lt a) a)

-- ---- each token

each_known : (x : List ℕ) {i j : ℕ} {ts : List Token}
    → IsUtf8 x
    → HoldsTokens x i j ts
    → AllByRecursion (IsNoGreatNumber x) ts
    → AllByRecursion (IsTokenOf x) ts
each_known x u (holds_none e) s = tt
each_known x u (holds_gap k g h) s = each_known x u h s
each_known x u (holds_token t b a h) s =
    let lt = token_within x t.kind t.span.start t.span.end a in (
      record {
        text = u;
        span = record { some = kind_after x t.kind t.span.start t.span.end a; within = kind_end_within x t.kind t.span.start t.span.end lt a };
        token = a;
        utf8 = kind_utf8 x t.kind t.span.start t.span.end u a;
        small = s.0;
      },
      each_known x u h s.1,
    )

pub lemma_tokens_known : (x : List ℕ) (ts : List Token) → IsText x ts → IsWithinLimits x ts → All (IsTokenOf x) ts
lemma_tokens_known x ts t l = All-from_recursion (IsTokenOf x) ts (each_known x t.utf8 t.whole l.numbers)
