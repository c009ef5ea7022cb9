-- What a message shows of a text that somebody else wrote (own rules). A character is its code point in Unicode.
use Rattle.std.specs.Prelude.{◌≡◌, ℕ, ◌-◌, List, ◌++◌, [], ◌∷◌, Bool, true, ◌==◌, ◌||◌, nat_lt, if◌then◌else◌}
use Rattle.std.specs.Prelude.{codes, drop, encode_utf8, length, replicate, take}
use Rattle.std.specs.Char.{IsScalar, is_control}
use Rattle.std.specs.Fmt.{digits}
use Rattle.std.specs.Int.{is_in_range}
use Rattle.std.specs.List.{flat_map}
use Rattle.std.specs.Str.{chars}
use Rattle.source_text.specs.Plain.{is_other}

-- Whether nobody can see a character, or it changes the direction of writing. These are the characters that have
-- Unicode's property Default_Ignorable_Code_Point (version 15), the line and paragraph separators U+2028 and U+2029,
-- and the marks of annotations U+FFF9 to U+FFFB. The first definition has those below U+2000.
abbrev pub is_hidden_low : ℕ → Bool
is_hidden_low c =
    c == 0xAD
    || c == 0x034F
    || c == 0x061C
    || is_in_range 0x115F 0x1160 c
    || is_in_range 0x17B4 0x17B5 c
    || is_in_range 0x180B 0x180F c

abbrev pub is_hidden_high : ℕ → Bool
is_hidden_high c =
    is_in_range 0x200B 0x200F c
    || is_in_range 0x2028 0x202E c
    || is_in_range 0x2060 0x206F c
    || c == 0x3164
    || is_in_range 0xFE00 0xFE0F c
    || c == 0xFEFF
    || c == 0xFFA0
    || is_in_range 0xFFF0 0xFFFB c
    || is_in_range 0x1BCA0 0x1BCA3 c
    || is_in_range 0x1D173 0x1D17A c
    || is_in_range 0xE0000 0xE0FFF c

abbrev pub is_hidden : ℕ → Bool
is_hidden c = is_hidden_low c || is_hidden_high c

-- whether a character is a control character, U+0000 to U+001F and U+007F to U+009F, or one that nobody can see
abbrev pub is_unseen : ℕ → Bool
is_unseen c = is_control c || is_hidden c

-- a character by its code point in hexadecimal digits, as `\u{A0}`
abbrev pub by_code : ℕ → List ℕ
by_code c = codes "\\u{" ++ (digits 16 true c ++ codes "}")

-- a text on one line: each character that is unseen is a space, each other one stays as it is
abbrev pub spaced_character : ℕ → List ℕ
spaced_character c = encode_utf8 (if is_unseen c then 32 else c)

abbrev pub on_one_line : List ℕ → List ℕ
on_one_line x = flat_map spaced_character (chars x)

-- the name of a file: each character that is unseen is by its code point, each other one stays as it is
abbrev pub escaped_character : ℕ → List ℕ
escaped_character c = if is_unseen c then by_code c else encode_utf8 c

abbrev pub escaped : List ℕ → List ℕ
escaped x = flat_map escaped_character (chars x)

-- a character of a token or a name: a printable ASCII character or a space stays as it is, each other one is by its
-- code point
abbrev pub shown_character : ℕ → List ℕ
shown_character c = if is_other c then by_code c else c ∷ []

-- what a message calls some characters besides
abbrev pub called : ℕ → List ℕ
called c =
    if c == 0xFEFF then codes ", a byte order mark"
    else (if c == 0xA0 then codes ", a no-break space"
    else (if is_in_range 0x2018 0x2019 c then codes ", a curly apostrophe"
    else (if is_in_range 0x201C 0x201D c then codes ", a curly quote"
    else (if is_in_range 0x2010 0x2014 c || c == 0x2212 then codes ", a dash"
    else (if is_control c then codes ", a control character" else [])))))

-- at least four hexadecimal digits of a number, as `00A0`
abbrev pub four_digits : ℕ → List ℕ
four_digits n = replicate (4 - length (digits 16 true n)) 48 ++ digits 16 true n

-- the code point of a character, and what it is called, as `U+00A0, a no-break space`
abbrev pub code_point : ℕ → List ℕ
code_point c = codes "U+" ++ (four_digits c ++ called c)

-- A character that a message names: a printable ASCII character or a space stays as it is, each other one is by its
-- code point.
abbrev pub character : ℕ → List ℕ
character c = if is_other c then code_point c else c ∷ []

-- character c begins at offset n: the octets from there on begin with its octets in UTF-8
pub record BeginsAt (x : List ℕ) (n c : ℕ) : Type 0 where
  pub scalar : IsScalar c
  pub rest : List ℕ
  pub octets : drop n x ≡ encode_utf8 c ++ rest

-- no character begins at offset n
abbrev pub HasNoCharacter : List ℕ → ℕ → Type 0
HasNoCharacter x n = (c : ℕ) → BeginsAt x n c → ⊥

-- the first n characters, with two dots after them if there are more
abbrev pub cut : ℕ → List ℕ → List ℕ
cut n cs = flat_map shown_character (take n cs) ++ (if nat_lt n (length cs) then codes ".." else [])

-- a token or a name: its first 60 characters
abbrev pub shown : List ℕ → List ℕ
shown x = cut 60 (chars x)
