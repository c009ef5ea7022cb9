-- Worked rows of what is shown. E9 is é, 195 169 in UTF-8; 202E turns the direction of writing, 226 128 174 in UTF-8.
use Rattle.std.proofs.Common.{◌≡◌, [], ◌∷◌, ◌++◌, codes, refl, replicate}
use Rattle.std.proofs.Math.Utf8.{encode}
use Rattle.std.specs.Fmt.{digits}
use Rattle.std.specs.Str.{chars, is_utf8}
use Rattle.source_text.specs.Context.{context, line_before, line_from}
use Rattle.source_text.specs.Shown.{character, escaped, on_one_line, shown}

-- ---- on one line

tab_and_line_end : on_one_line (codes "a\tb\nc") ≡ codes "a b c"
unfolding chars encode
tab_and_line_end = refl

turned_on_one_line : on_one_line (97 ∷ 226 ∷ 128 ∷ 174 ∷ 98 ∷ []) ≡ codes "a b"
unfolding chars encode
turned_on_one_line = refl

-- U+00AD, U+180E, U+3164, U+FE00, U+FE0F, U+E0000, U+E007F, U+034F, U+1160, U+FFA0, U+1D17A and U+E0FFF, which nobody
-- can see
soft_hyphen_on_one_line : on_one_line (97 ∷ 194 ∷ 173 ∷ 98 ∷ []) ≡ codes "a b"
unfolding chars encode
soft_hyphen_on_one_line = refl

vowel_separator_on_one_line : on_one_line (97 ∷ 225 ∷ 160 ∷ 142 ∷ 98 ∷ []) ≡ codes "a b"
unfolding chars encode
vowel_separator_on_one_line = refl

hangul_filler_on_one_line : on_one_line (97 ∷ 227 ∷ 133 ∷ 164 ∷ 98 ∷ []) ≡ codes "a b"
unfolding chars encode
hangul_filler_on_one_line = refl

first_variation_on_one_line : on_one_line (97 ∷ 239 ∷ 184 ∷ 128 ∷ 98 ∷ []) ≡ codes "a b"
unfolding chars encode
first_variation_on_one_line = refl

last_variation_on_one_line : on_one_line (97 ∷ 239 ∷ 184 ∷ 143 ∷ 98 ∷ []) ≡ codes "a b"
unfolding chars encode
last_variation_on_one_line = refl

first_tag_on_one_line : on_one_line (97 ∷ 243 ∷ 160 ∷ 128 ∷ 128 ∷ 98 ∷ []) ≡ codes "a b"
unfolding chars encode
first_tag_on_one_line = refl

last_tag_on_one_line : on_one_line (97 ∷ 243 ∷ 160 ∷ 129 ∷ 191 ∷ 98 ∷ []) ≡ codes "a b"
unfolding chars encode
last_tag_on_one_line = refl

joiner_on_one_line : on_one_line (97 ∷ 205 ∷ 143 ∷ 98 ∷ []) ≡ codes "a b"
unfolding chars encode
joiner_on_one_line = refl

jungseong_filler_on_one_line : on_one_line (97 ∷ 225 ∷ 133 ∷ 160 ∷ 98 ∷ []) ≡ codes "a b"
unfolding chars encode
jungseong_filler_on_one_line = refl

half_filler_on_one_line : on_one_line (97 ∷ 239 ∷ 190 ∷ 160 ∷ 98 ∷ []) ≡ codes "a b"
unfolding chars encode
half_filler_on_one_line = refl

end_of_phrase_on_one_line : on_one_line (97 ∷ 240 ∷ 157 ∷ 133 ∷ 186 ∷ 98 ∷ []) ≡ codes "a b"
unfolding chars encode
end_of_phrase_on_one_line = refl

last_ignorable_on_one_line : on_one_line (97 ∷ 243 ∷ 160 ∷ 191 ∷ 191 ∷ 98 ∷ []) ≡ codes "a b"
unfolding chars encode
last_ignorable_on_one_line = refl

accent_on_one_line : on_one_line (195 ∷ 169 ∷ []) ≡ 195 ∷ 169 ∷ []
unfolding chars encode
accent_on_one_line = refl

-- ---- names of files

turned_name : escaped (97 ∷ 226 ∷ 128 ∷ 174 ∷ []) ≡ codes "a\\u{202E}"
unfolding chars digits encode
turned_name = refl

tag_in_a_name : escaped (97 ∷ 243 ∷ 160 ∷ 129 ∷ 191 ∷ []) ≡ codes "a\\u{E007F}"
unfolding chars digits encode
tag_in_a_name = refl

accent_in_a_name : escaped (195 ∷ 169 ∷ []) ≡ 195 ∷ 169 ∷ []
unfolding chars encode
accent_in_a_name = refl

-- ---- tokens and names

accent_shown : shown (97 ∷ 195 ∷ 169 ∷ []) ≡ codes "a\\u{E9}"
unfolding chars digits
accent_shown = refl

all_60 : shown (replicate 60 97) ≡ replicate 60 97
unfolding chars
all_60 = refl

cut_after_60 : shown (replicate 61 97) ≡ replicate 60 97 ++ codes ".."
unfolding chars
cut_after_60 = refl

-- ---- characters

space_itself : character 32 ≡ codes " "
space_itself = refl

no_break_space : character 0xA0 ≡ codes "U+00A0, a no-break space"
unfolding digits
no_break_space = refl

five_digits : character 0x1F600 ≡ codes "U+1F600"
unfolding digits
five_digits = refl

-- ---- the line near a fault

second_line : context (codes "ab\ncd\tef\ngh") 6 ≡ codes "\ncd ef\n   ^"
unfolding chars digits encode is_utf8
second_line = refl

hundred_before : line_before (replicate 150 97) 120 ≡ replicate 100 97
hundred_before = refl

-- the last of two octets is no character
whole_characters_before : line_before (195 ∷ 169 ∷ replicate 99 97) 101 ≡ replicate 99 97
whole_characters_before = refl

hundred_after : line_from (replicate 250 97) 120 ≡ replicate 101 97
hundred_after = refl

whole_characters_after : line_from (replicate 100 97 ++ (195 ∷ 169 ∷ 97 ∷ [])) 0 ≡ replicate 100 97 ++ (195 ∷ 169 ∷ [])
whole_characters_after = refl

-- the caret is below the third character, not the third octet
accent_before_the_fault : context (195 ∷ 169 ∷ 97 ∷ 98 ∷ []) 3 ≡ 10 ∷ 195 ∷ 169 ∷ 97 ∷ 98 ∷ 10 ∷ 32 ∷ 32 ∷ 94 ∷ []
unfolding chars encode is_utf8
accent_before_the_fault = refl

-- octets that are no text are not shown
no_text_before_the_fault : context (97 ∷ 255 ∷ 98 ∷ []) 2 ≡ codes "\nb\n^"
unfolding chars encode is_utf8
no_text_before_the_fault = refl
