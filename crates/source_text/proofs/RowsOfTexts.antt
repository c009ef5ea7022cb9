-- What is said of the text of a module, field by field and in full.
use Rattle.std.proofs.Common.{◌≡◌, ℕ, ◌≤◌, ◌<◌, List, [], ◌++◌, Some, Vec, codes, refl, slice_get}
use Rattle.std.specs.Prelude.{decimal}
use Rattle.std.specs.declared.alloc.Global.{Global}
use Rattle.source_text.specs.Lines.{column_of, line_of, place_words}
use Rattle.source_text.specs.Modules.{IsFirstText, IsTextOfModule}
use Rattle.source_text.specs.Strings.{open_string, word_at}

module _ (xs : List (Vec ℕ Global)) (n : ℕ) (name : List ℕ) (k : ℕ) (h : IsFirstText xs n name k) where
  from_number : n ≤ k
  from_number = h.from

  text_at : slice_get xs k ≡ Some h.text
  text_at = h.at

  text_of_module : IsTextOfModule name h.text.items
  text_of_module = h.is

  first_of_all : (j : ℕ) (v : Vec ℕ Global)
      → n ≤ j
      → j < k
      → slice_get xs j ≡ Some v
      → IsTextOfModule name v.items
      → ⊥
  first_of_all = h.first

-- ---- places

-- the second octet of the second line
second_octet : place_words (codes "A\nBC") 3 ≡ codes ":" ++ (decimal 2 ++ (codes ":" ++ decimal 2))
unfolding line_of column_of
second_octet = refl

-- the line and the column are in this order
third_octet : place_words (codes "ABCD") 2 ≡ codes ":" ++ (decimal 1 ++ (codes ":" ++ decimal 3))
unfolding line_of column_of
third_octet = refl

-- an octet after the end of the text is at its end
past_the_end : place_words (codes "AB") 7 ≡ place_words (codes "AB") 2
past_the_end = refl

-- ---- words and strings

word_with_a_hyphen : word_at (codes "a ab-1.c") 2 ≡ codes "ab-1"
word_with_a_hyphen = refl

no_word_at_a_space : word_at (codes "a b") 1 ≡ []
no_word_at_a_space = refl

no_word_after_the_text : word_at (codes "ab") 7 ≡ []
no_word_after_the_text = refl

quotes_of_one_line : open_string (codes "\"ab\ncd\"")
    ≡ codes "found quotes that are not closed on their line, expected the closing ones"
quotes_of_one_line = refl

apostrophe_of_one_line : open_string (codes "'01\n'B")
    ≡ codes "found an apostrophe that is not closed on its line, expected a second one"
apostrophe_of_one_line = refl

other_binary_digits : open_string (codes "'012'B") ≡ codes "found other characters before B, expected digits 0 and 1"
other_binary_digits = refl

lower_case_digits : open_string (codes "'0a F'H")
    ≡ codes "found digits in lower case, expected A to F in upper case before H"
lower_case_digits = refl

other_hexadecimal_digits : open_string (codes "'0G'H")
    ≡ codes "found other characters before H, expected digits 0 to 9 and A to F"
other_hexadecimal_digits = refl

no_letter_after_digits : open_string (codes "'01' B")
    ≡ codes "found apostrophes without B or H after them, expected one of the two"
no_letter_after_digits = refl
