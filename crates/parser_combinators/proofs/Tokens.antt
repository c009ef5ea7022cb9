-- What is known of the octets of a text's tokens.
use Rattle.std.proofs.Common.{◌≡◌, ℕ, ◌+◌, ◌*◌, ◌-◌, ◌≤◌, ◌<◌, ◌⊎◌, Bool, true, false, not, ◌||◌, ◌&&◌, ◌==◌, inl, inr, List, length, take, drop, get_or, subst, arith, refl, ap, ◌∙◌ as ◌⋆◌, [], ◌∷◌, ◌++◌, Option, Some, None}
use Rattle.std.specs.Prelude.{slice_index, slice_range, IsUtf8}
use Rattle.std.specs.Str.{IsAscii}
use Rattle.std.specs.Char.{is_ascii_digit, is_ascii_alphabetic, is_ascii_alphanumeric, digit_value}
use Rattle.std.specs.Str.Parse.{digits_value}
use Rattle.std.proofs.lemmas.Int.Digits.{digits_value_more}
use Rattle.std.specs.List.{filter_map, cons_option}
use Rattle.std.proofs.lemmas.List.Elements.{filter_map-append}
use Rattle.std.proofs.lemmas.List.{take_more, append-nil, length-take, get_or-take, get_or-drop, get_or_past}
use Rattle.std.proofs.lemmas.Bool.{cases_lt}
use Rattle.std.proofs.lemmas.Bool.Decides.{nat_tests}
use Rattle.std.proofs.lemmas.Str.{IsUtf8-from_ascii}
use Rattle.text.specs.declared.token.Token.{Token}
use Rattle.text.specs.declared.token.TokenKind.{TokenKind}
use Rattle.text.specs.declared.token.TokenKind.TheVariants as kinds
use Rattle.text.specs.Octets.{octet_at, stops_number, stops_name, IsFirstStop}
use Rattle.text.specs.Items.{IsNumberToken, IsName, IsTokenOfKind, IsQuoted, quoted_end, quoted_octet, quoted_pair}
use Rattle.parser_combinators.specs.Given.{IsTokenIn}

-- ---- numbers

digit_value_is : (c : ℕ) → is_ascii_digit c ≡ true → (48 ≤ c) × (c < 58) × (digit_value c ≡ c - 48)
digit_value_is c e = (grind (arith, nat_tests), grind (arith, nat_tests), grind (arith, nat_tests))

pub value_more : (xs : List ℕ) (i : ℕ) → i < length xs → is_ascii_digit (get_or xs i 0) ≡ true
    → digits_value 10 (take (i + 1) xs) ≡ 10 * digits_value 10 (take i xs) + (get_or xs i 0 - 48)
value_more xs i lt d =
    let e = digits_value_more 10 xs i lt in
    let v = digit_value_is (get_or xs i 0) d in
    omega (arith, e, v.2)

goes_on : (x : List ℕ) (i : ℕ) → stops_number x i ≡ false → is_ascii_digit (octet_at x i) ≡ true
unfolding stops_number
goes_on x i e = not_false (is_ascii_digit (octet_at x i)) e
  where
    not_false : (b : Bool) → not b ≡ false → b ≡ true
    not_false true e = refl
    not_false false e = absurd cc

digit_between : (x : List ℕ) (i e k : ℕ)
    → is_ascii_digit (octet_at x i) ≡ true
    → IsFirstStop (stops_number x) (i + 1) e
    → k < e - i
    → is_ascii_digit (octet_at x (i + k)) ≡ true
digit_between x i e k d f lt =
    elim (cases_lt 0 k) [
      | inl pos ↦ goes_on x (i + k) (f.before (i + k) (omega arith) (omega arith))
      | inr le ↦ let z : i + k ≡ i = omega arith in rw z d
    ]

digits_between : (x : List ℕ) (i e : ℕ) → IsNumberToken x i e
    → (k : ℕ) → k < length (slice_range x i e) → is_ascii_digit (slice_index (slice_range x i e) k) ≡ true
digits_between x i e h k lt =
    let n : k < e - i = omega (arith, length-take (e - i) (drop i x)) in
    rw (get_or-take (e - i) (drop i x) k 0 n, get_or-drop) (digit_between x i e k h.digit h.first n)

pub number_digits : (x : List ℕ) (t : Token)
    → IsTokenIn x t
    → t.kind ≡ kinds.Number
    → (k : ℕ)
    → k < length (slice_range x t.span.start t.span.end)
    → is_ascii_digit (slice_index (slice_range x t.span.start t.span.end) k) ≡ true
number_digits x t h e = digits_between x t.span.start t.span.end (subst (λ (k : TokenKind). IsTokenOfKind x k t.span.start t.span.end) e h.token)

-- ---- names

alphabetic_ascii : (c : ℕ) → is_ascii_alphabetic c ≡ true → c < 128
alphabetic_ascii c e = grind (arith, nat_tests)

in_name : (c : ℕ) (b : Bool) → not (is_ascii_alphanumeric c || ((c == 45) && b)) ≡ false → c < 128
in_name c b e = grind (arith, nat_tests)

name_octet : (x : List ℕ) (i : ℕ) → stops_name x i ≡ false → octet_at x i < 128
unfolding stops_name
name_octet x i e = in_name (octet_at x i) (is_ascii_alphanumeric (octet_at x (i + 1))) e

name_between : (x : List ℕ) (i e k : ℕ) → IsName x i e → k < e - i → octet_at x (i + k) < 128
name_between x i e k h lt =
    elim (cases_lt 0 k) [
      | inl pos ↦ name_octet x (i + k) (h.first.before (i + k) (omega arith) (omega arith))
      | inr le ↦ let z : i + k ≡ i = omega arith in rw z (alphabetic_ascii (octet_at x i) h.letter)
    ]

name_ascii : (x : List ℕ) (i e : ℕ) → IsName x i e → IsAscii (slice_range x i e)
name_ascii x i e h k =
    elim (cases_lt k (e - i)) [
      | inl n ↦ rw (get_or-take (e - i) (drop i x) k 0 n, get_or-drop) (name_between x i e k h n)
      | inr le ↦ let z : slice_index (slice_range x i e) k ≡ 0 = get_or_past (slice_range x i e) k 0 (omega (arith, length-take (e - i) (drop i x))) in rw z (omega arith)
    ]

pub name_utf8 : (x : List ℕ) (t : Token)
    → IsTokenIn x t
    → ((t.kind ≡ kinds.Identifier) ⊎ (t.kind ≡ kinds.TypeReference))
    → IsUtf8 (slice_range x t.span.start t.span.end)
name_utf8 x t h (inl e) =
    let n : IsTokenOfKind x kinds.Identifier t.span.start t.span.end = subst (λ (k : TokenKind). IsTokenOfKind x k t.span.start t.span.end) e h.token in
    IsUtf8-from_ascii (slice_range x t.span.start t.span.end) (name_ascii x t.span.start t.span.end n.0)
name_utf8 x t h (inr e) =
    let n : IsTokenOfKind x kinds.TypeReference t.span.start t.span.end = subst (λ (k : TokenKind). IsTokenOfKind x k t.span.start t.span.end) e h.token in
    IsUtf8-from_ascii (slice_range x t.span.start t.span.end) (name_ascii x t.span.start t.span.end n.0)

-- ---- strings

pub digits_long : (x : List ℕ) (t : Token)
    → IsTokenIn x t
    → ((t.kind ≡ kinds.BinaryString) ⊎ (t.kind ≡ kinds.HexString))
    → t.span.start + 3 ≤ t.span.end
digits_long x t h (inl e) =
    let n : IsTokenOfKind x kinds.BinaryString t.span.start t.span.end = subst (λ (k : TokenKind). IsTokenOfKind x k t.span.start t.span.end) e h.token in
    omega (arith, n.first.follows, n.end)
digits_long x t h (inr e) =
    let n : IsTokenOfKind x kinds.HexString t.span.start t.span.end = subst (λ (k : TokenKind). IsTokenOfKind x k t.span.start t.span.end) e h.token in
    omega (arith, n.first.follows, n.end)

quoted_le : (x : List ℕ) (i k : ℕ) → IsQuoted x i k → i ≤ k
quoted_le x i k (quoted_end e) = omega arith
quoted_le x i k (quoted_octet lt a b h) = let p = quoted_le x (i + 1) k h in omega arith
quoted_le x i k (quoted_pair a b h) = let p = quoted_le x (i + 2) k h in omega arith

pub chars_long : (x : List ℕ) (t : Token)
    → IsTokenIn x t
    → t.kind ≡ kinds.CharacterString
    → t.span.start + 2 ≤ t.span.end
chars_long x t h e =
    let n : IsTokenOfKind x kinds.CharacterString t.span.start t.span.end = subst (λ (k : TokenKind). IsTokenOfKind x k t.span.start t.span.end) e h.token in
    omega (arith, quoted_le x (t.span.start + 1) n.close n.inside, n.end)

-- ---- what is filtered, element by element

pub filter_some : (h : ℕ → Option ℕ) (xs : List ℕ) (i v : ℕ)
    → i < length xs
    → h (get_or xs i 0) ≡ Some v
    → filter_map h (take (i + 1) xs) ≡ filter_map h (take i xs) ++ v ∷ []
filter_some h xs i v lt e =
    ap (filter_map h) (take_more xs i 0 lt) ⋆ filter_map-append h (take i xs) (get_or xs i 0 ∷ []) ⋆ ap (λ (o : Option ℕ). filter_map h (take i xs) ++ cons_option o []) e

pub filter_none : (h : ℕ → Option ℕ) (xs : List ℕ) (i : ℕ)
    → i < length xs
    → h (get_or xs i 0) ≡ None
    → filter_map h (take (i + 1) xs) ≡ filter_map h (take i xs)
filter_none h xs i lt e =
    ap (filter_map h) (take_more xs i 0 lt) ⋆ filter_map-append h (take i xs) (get_or xs i 0 ∷ []) ⋆ ap (λ (o : Option ℕ). filter_map h (take i xs) ++ cons_option o []) e ⋆ append-nil (filter_map h (take i xs))
