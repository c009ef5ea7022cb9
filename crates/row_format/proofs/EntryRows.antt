-- Worked rows: titles and entries of rows, and texts that are none.
use Rattle.std.proofs.Common.{arith, ◌≡◌, ◌++◌, List, [], ◌∷◌, ℕ, length, refl, ap, subst, if◌then◌else◌}
use borrow.Author.Tests.{ne_eqb}
use Rattle.std.specs.Prelude.{codes}
use Rattle.std.specs.List.{flat_map}
use Rattle.std.specs.Str.Lines.{lines}
use Rattle.row_format.specs.Rows.{title_of, margin, indented, IsEntry}

abbrev words : List (List ℕ)
words = codes "link" ∷ codes "a" ∷ codes "M.T" ∷ []

pub title_of_three_words : title_of words ≡ codes "link a M.T"
title_of_three_words = refl

pub title_of_one_word : title_of (codes "link" ∷ []) ≡ codes "link"
title_of_one_word = refl

pub title_without_words : title_of [] ≡ []
title_without_words = refl

pub answer_of_two_lines : indented (codes "b\nc") ≡ codes "\n  b\n  c"
answer_of_two_lines = refl

-- the line end after the last line begins no line
pub answer_with_a_last_line_end : indented (codes "b\n") ≡ codes "\n  b"
answer_with_a_last_line_end = refl

-- an empty line has no blanks
pub answer_with_an_empty_line : indented (codes "b\n\nc") ≡ codes "\n  b\n\n  c"
answer_with_an_empty_line = refl

pub answer_without_lines : indented [] ≡ []
answer_without_lines = refl

pub entry_of_two_lines : IsEntry words (codes "link a M.T\n  b\n  c")
entry_of_two_lines = record { answer = codes "b\nc"; whole = refl }

pub entry_without_an_answer : IsEntry words (codes "link a M.T")
entry_without_an_answer = record { answer = []; whole = refl }

-- ---- what is no entry

abbrev head_or_0 : List ℕ → ℕ
head_or_0 [] = 0
head_or_0 (x ∷ xs) = x

abbrev second_or_0 : List ℕ → ℕ
second_or_0 [] = 0
second_or_0 (x ∷ xs) = head_or_0 xs

abbrev tail_of : List ℕ → List ℕ
tail_of [] = []
tail_of (x ∷ xs) = xs

-- the words in another order
pub not_in_another_order : IsEntry words (codes "a link M.T\n  b") → ⊥
not_in_another_order e = let h : 97 ≡ 108 = ap head_or_0 e.whole in omega (arith, h)

-- the answer before the title
pub not_the_answer_first : IsEntry words (codes "b\n  link a M.T") → ⊥
not_the_answer_first e = let h : 98 ≡ 108 = ap head_or_0 e.whole in omega (arith, h)

-- no title
pub not_without_a_title : IsEntry words (codes "\n  b") → ⊥
not_without_a_title e = let h : 10 ≡ 108 = ap head_or_0 e.whole in omega (arith, h)

abbrev laid : List ℕ → List ℕ
laid l = margin l ++ l

margin_of_more : (c : ℕ) (l : List ℕ) → margin (c ∷ l) ≡ codes "\n  "
margin_of_more c l = ap (λ b. if b then codes "\n" else codes "\n  ") (ne_eqb (length (c ∷ l)) 0 (λ z. omega (arith, z)))

no_lines_so : (ls : List (List ℕ)) → codes "\nb" ≡ flat_map laid ls → ⊥
no_lines_so [] e = let h : 10 ≡ 0 = ap head_or_0 e in omega (arith, h)
no_lines_so ([] ∷ []) e = let h : 98 ≡ 0 = ap second_or_0 e in omega (arith, h)
no_lines_so ([] ∷ [] ∷ ls) e = let h : 98 ≡ 10 = ap second_or_0 e in omega (arith, h)
no_lines_so ([] ∷ (c ∷ l) ∷ ls) e =
    let g = subst (λ m. codes "\nb" ≡ 10 ∷ ((m ++ c ∷ l) ++ flat_map laid ls)) (margin_of_more c l) e in
    let h : 98 ≡ 10 = ap second_or_0 g in omega (arith, h)
no_lines_so ((c ∷ l) ∷ ls) e =
    let g = subst (λ m. codes "\nb" ≡ (m ++ c ∷ l) ++ flat_map laid ls) (margin_of_more c l) e in
    let h : 98 ≡ 32 = ap second_or_0 g in omega (arith, h)

-- a line without its two blanks
pub not_without_blanks : IsEntry (codes "a" ∷ []) (codes "a\nb") → ⊥
not_without_blanks e = no_lines_so (lines e.answer) (ap tail_of e.whole)
