-- Worked rows: the trees of tokens, what is at a place, and what parts are.
use Rattle.std.proofs.Common.{arith, ◌≡◌, ◌<◌, ◌≤◌, ℕ, ◌^◌, inl, inr, true, false, List, [], ◌∷◌, ◌++◌, length, length-append, Some, None, Ok, Err, refl, ap}
use Rattle.text.specs.declared.token.TokenKind.TheVariants as kinds
use Rattle.text.specs.declared.token.Mark.TheVariants.{Colon, Comma, Ellipsis, OpenBrace, CloseBrace, OpenVersion, CloseVersion}
use Rattle.text.specs.Octets.{is_hex}
use Rattle.grammar.specs.Lexeme.{Lexeme, TypeRef, Ident, Number, BString, HString, CString, Mark, digit_of, single_quotes, lexeme_at}
use Rattle.grammar.specs.Grammar.{token, mark, number_of, ◌∙◌, many, listed, braces, optional, cut_off, extensible, rootless, addition}
use Rattle.grammar.specs.Places.{Limits, Limited, any, small, bounded, between, IsRead, Stops, Ends, PassesLimit}
use Rattle.grammar.specs.Reading.{Nesting, Integer, Unexpected, Beyond, after_commas_at, listed_at, next_marker, additions_at, more_at, extensible_at, close_version_at, version_at, version_parts_at, addition_at}
use Rattle.grammar.specs.Single.{ident_at}

-- ---- what tokens say

-- '0A F'H is 0, 10 and 15
hex_digits : lexeme_at (39 ∷ 48 ∷ 65 ∷ 32 ∷ 70 ∷ 39 ∷ 72 ∷ []) kinds.HexString 0 7 ≡ HString (0 ∷ 10 ∷ 15 ∷ [])
unfolding digit_of is_hex
hex_digits = refl

-- '1B'H is 1 and 11, and '1'B is 1 alone
letter_inside : lexeme_at (39 ∷ 49 ∷ 66 ∷ 39 ∷ 72 ∷ []) kinds.HexString 0 5 ≡ HString (1 ∷ 11 ∷ [])
unfolding digit_of is_hex
letter_inside = refl

letter_after : lexeme_at (39 ∷ 49 ∷ 39 ∷ 66 ∷ []) kinds.BinaryString 0 4 ≡ BString (1 ∷ [])
unfolding digit_of is_hex
letter_after = refl

-- "a""b" is a"b
quote_inside : lexeme_at (34 ∷ 97 ∷ 34 ∷ 34 ∷ 98 ∷ 34 ∷ []) kinds.CharacterString 0 6 ≡ CString (97 ∷ 34 ∷ 98 ∷ [])
unfolding single_quotes
quote_inside = refl

-- "''" is two apostrophes
apostrophes : lexeme_at (34 ∷ 39 ∷ 39 ∷ 34 ∷ []) kinds.CharacterString 0 4 ≡ CString (39 ∷ 39 ∷ [])
unfolding single_quotes
apostrophes = refl

-- in Ab cd 10, the names and the number
a_type_name : lexeme_at (65 ∷ 98 ∷ 32 ∷ 99 ∷ 100 ∷ 32 ∷ 49 ∷ 48 ∷ []) kinds.TypeReference 0 2 ≡ TypeRef (65 ∷ 98 ∷ [])
a_type_name = refl

a_value_name : lexeme_at (65 ∷ 98 ∷ 32 ∷ 99 ∷ 100 ∷ 32 ∷ 49 ∷ 48 ∷ []) kinds.Identifier 3 5 ≡ Ident (99 ∷ 100 ∷ [])
a_value_name = refl

a_number : lexeme_at (65 ∷ 98 ∷ 32 ∷ 99 ∷ 100 ∷ 32 ∷ 49 ∷ 48 ∷ []) kinds.Number 6 8 ≡ Number 10
a_number = refl

-- ---- what is at a place

-- 2 to the 127 passes the limit, and one less doesn't
least_too_great : small (2 ^ 127) ≡ false
least_too_great = refl

greatest : small 170141183460469231731687303715884105727 ≡ true
greatest = refl

abbrev number : Limited ℕ
number a = number_of a.number

abbrev too_great : List Lexeme
too_great = Number (2 ^ 127) ∷ []

stops_at_the_number : Stops number (bounded 0) too_great 0 0
stops_at_the_number = record { from = omega arith; to = omega arith; before = inl refl; longest = longest }
  where
    not_within : (number (bounded 0)).IsPrefix too_great → ⊥
    not_within (inl e) = absurd cc
    not_within (inr (n, f, e)) = absurd cc

    longest : (j : ℕ) → 0 < j → j ≤ 1 → (number (bounded 0)).IsPrefix (between too_great 0 j) → ⊥
    longest ℕ.zero lt le h = absurd (omega (arith, lt))
    longest (ℕ.suc ℕ.zero) lt le h = not_within h
    longest (ℕ.suc (ℕ.suc j)) lt le h = absurd (omega (arith, le))

-- the limit on numbers is passed at the number itself
passed_at_a_number : PassesLimit number (bounded 0) too_great 0 0 Integer
passed_at_a_number = record {
  stops = stops_at_the_number;
  others = record { nesting = 0; number = any; tag = any };
  further = 1;
  longer = omega arith;
  to = omega arith;
  goes_on = inr (2 ^ 127, refl, refl);
}

-- and no other limit is
no_nesting_passed : PassesLimit number (bounded 0) too_great 0 0 Nesting → ⊥
no_nesting_passed p = stops_at_the_number.longest p.further p.longer p.to p.goes_on

-- no limit is passed if the lexemes end
passed_before_the_end : {A : Type 0} (g : Limited A) (a : Limits) (ts : List Lexeme) (start : ℕ)
    → PassesLimit g a ts start (length ts) Nesting
    → ⊥
passed_before_the_end g a ts start p = let lt = p.longer in let to = p.to in absurd (omega (arith, lt, to))

-- "," alone isn't a whole of ", ,", so the end is the first fault, which it isn't for "," as a whole
missing_comma : Ends (λ a. mark Comma ∙ mark Comma) (bounded 0) (Mark Comma ∷ []) 0 1
missing_comma = record {
  stops = record { from = omega arith; to = omega arith; before = inl (inr (tt, refl)); longest = λ j lt le. absurd (omega (arith, lt, le)) };
  always = λ b j lt le. absurd (omega (arith, lt, le));
  none = λ e x h. one x h.1;
}
  where
    one : (x : _) → (mark Comma ∙ mark Comma).Is x (Mark Comma ∷ []) → ⊥
    one x (u, v, e, p, q) = two u v e p q
      where
        two : (u v : List Lexeme) → Mark Comma ∷ [] ≡ u ++ v → u ≡ Mark Comma ∷ [] → v ≡ Mark Comma ∷ [] → ⊥
        two u v e p q = omega (arith, ap length e, ap length p, ap length q, length-append u v)

no_missing_comma : Ends (λ a. mark Comma) (bounded 0) (Mark Comma ∷ []) 0 1 → ⊥
no_missing_comma f = f.none refl tt (bounded 0, refl)

-- of ", ," both are read, and not the first alone
two_commas : IsRead (many (mark Comma)) (many (mark Comma)) (Mark Comma ∷ Mark Comma ∷ []) 0 (tt ∷ tt ∷ []) 2
two_commas = record { from = omega arith; to = omega arith; is = (Mark Comma ∷ [], Mark Comma ∷ [], refl, refl, (Mark Comma ∷ [], [], refl, refl, refl)); ends = λ lt. absurd (omega arith) }

one_comma : IsRead (many (mark Comma)) (many (mark Comma)) (Mark Comma ∷ Mark Comma ∷ []) 0 (tt ∷ []) 1 → ⊥
one_comma r = r.ends (omega arith) (tt ∷ [], Mark Comma ∷ [], Mark Comma ∷ [], refl, (Mark Comma ∷ [], [], refl, refl, refl), inr (tt, refl))

-- ---- parts

abbrev a_name : Lexeme
a_name = Ident (97 ∷ [])

abbrev b_name : Lexeme
b_name = Ident (98 ∷ [])

-- a, b is a list of two names, and a its front with b to come
two_names : (listed (token Ident)).Is ((97 ∷ []) ∷ (98 ∷ []) ∷ []) (a_name ∷ Mark Comma ∷ b_name ∷ [])
two_names = (
  (97 ∷ [], (98 ∷ []) ∷ []),
  refl,
  (a_name ∷ [], Mark Comma ∷ b_name ∷ [], refl, refl, (Mark Comma ∷ b_name ∷ [], [], refl, ((tt, 98 ∷ []), refl, (Mark Comma ∷ [], b_name ∷ [], refl, refl, refl)), refl)),
)

one_name_and_comma : (listed (token Ident)).IsPrefix (a_name ∷ Mark Comma ∷ [])
one_name_and_comma = inr (97 ∷ [], a_name ∷ [], Mark Comma ∷ [], refl, refl, ([], [], Mark Comma ∷ [], refl, refl, inr (tt, Mark Comma ∷ [], [], refl, refl, inl refl)))

-- a name in braces
in_braces : (braces (token Ident)).Is (97 ∷ []) (Mark OpenBrace ∷ a_name ∷ Mark CloseBrace ∷ [])
in_braces = ((tt, (97 ∷ [], tt)), refl, (Mark OpenBrace ∷ [], a_name ∷ Mark CloseBrace ∷ [], refl, refl, (a_name ∷ [], Mark CloseBrace ∷ [], refl, refl, refl)))

-- nothing is an optional name that is missing, and a name one that is there
no_name : (optional (token Ident)).Is None []
no_name = refl

some_name : (optional (token Ident)).Is (Some (97 ∷ [])) (a_name ∷ [])
some_name = refl

-- what is cut off is never whole
never_whole : (x : ℕ) (ts : List Lexeme) → (cut_off {A = ℕ}).Is x ts → ⊥
never_whole x ts h = h

-- ---- extension markers and version brackets

one_listed : (listed (token Ident)).Is ((97 ∷ []) ∷ []) (a_name ∷ [])
one_listed = ((97 ∷ [], []), refl, (a_name ∷ [], [], refl, refl, refl))

-- a, ..., b is a name, the marker, and a name after it
marked_names :
    (extensible (token Ident) (token Ident)).Is ((97 ∷ []) ∷ [], Some ((98 ∷ []) ∷ [])) (a_name ∷ Mark Comma ∷ Mark Ellipsis ∷ Mark Comma ∷ b_name ∷ [])
marked_names = (
  a_name ∷ [],
  Mark Comma ∷ Mark Ellipsis ∷ Mark Comma ∷ b_name ∷ [],
  refl,
  one_listed,
  ((tt, (98 ∷ []) ∷ []), refl, (Mark Comma ∷ [], Mark Ellipsis ∷ Mark Comma ∷ b_name ∷ [], refl, refl, ((tt, (98 ∷ []) ∷ []), refl, (Mark Ellipsis ∷ [], Mark Comma ∷ b_name ∷ [], refl, refl, (Mark Comma ∷ b_name ∷ [], [], refl, ((tt, 98 ∷ []), refl, (Mark Comma ∷ [], b_name ∷ [], refl, refl, refl)), refl))))),
)

-- a alone is such a list too, with no marker
unmarked_name : (extensible (token Ident) (token Ident)).Is ((97 ∷ []) ∷ [], None) (a_name ∷ [])
unmarked_name = (a_name ∷ [], [], refl, one_listed, refl)

-- the marker by itself is such a list if the root may be missing
marker_alone : (rootless (token Ident) (token Ident)).Is ([], Some []) (Mark Ellipsis ∷ [])
marker_alone = inl ([], refl, ((tt, []), refl, (Mark Ellipsis ∷ [], [], refl, refl, refl)))

-- and nowhere else: there it is the first fault
marker_first : extensible_at ident_at ident_at (Mark Ellipsis ∷ []) ≡ Err (Unexpected 1)
unfolding extensible_at ident_at
marker_first = refl

-- a, ..., b, ... is refused at the second marker
second_marker :
    extensible_at ident_at ident_at (a_name ∷ Mark Comma ∷ Mark Ellipsis ∷ Mark Comma ∷ b_name ∷ Mark Comma ∷ Mark Ellipsis ∷ []) ≡ Err (Unexpected 1)
unfolding extensible_at more_at next_marker additions_at after_commas_at ident_at
second_marker = refl

-- [[ 2: a ]] is a, and its number is not kept
numbered_brackets :
    (addition small (token Ident)).Is (inr ((97 ∷ []) ∷ [])) (Mark OpenVersion ∷ Number 2 ∷ Mark Colon ∷ a_name ∷ Mark CloseVersion ∷ [])
numbered_brackets = inr (
  (Some (2, tt), ((97 ∷ []) ∷ [], tt)),
  refl,
  ((tt, (Some (2, tt), ((97 ∷ []) ∷ [], tt))), refl, (Mark OpenVersion ∷ [], Number 2 ∷ Mark Colon ∷ a_name ∷ Mark CloseVersion ∷ [], refl, refl, (Number 2 ∷ Mark Colon ∷ [], a_name ∷ Mark CloseVersion ∷ [], refl, (Number 2 ∷ [], Mark Colon ∷ [], refl, (refl, refl), refl), (a_name ∷ [], Mark CloseVersion ∷ [], refl, one_listed, refl)))),
)

-- [[ a, b ]] is both
brackets_read :
    addition_at small ident_at (Mark OpenVersion ∷ a_name ∷ Mark Comma ∷ b_name ∷ Mark CloseVersion ∷ []) ≡ Ok (inr ((97 ∷ []) ∷ (98 ∷ []) ∷ []), [])
unfolding addition_at version_parts_at version_at listed_at after_commas_at close_version_at ident_at
brackets_read = refl

-- [[ ]] is refused at its end
empty_brackets : addition_at small ident_at (Mark OpenVersion ∷ Mark CloseVersion ∷ []) ≡ Err (Unexpected 1)
unfolding addition_at version_parts_at version_at listed_at ident_at
empty_brackets = refl

-- a number of brackets that passes the limit is the fault
great_brackets :
    addition_at small ident_at (Mark OpenVersion ∷ Number (2 ^ 127) ∷ Mark Colon ∷ a_name ∷ Mark CloseVersion ∷ []) ≡ Err (Beyond Integer 4)
unfolding addition_at version_parts_at version_at
great_brackets = refl
