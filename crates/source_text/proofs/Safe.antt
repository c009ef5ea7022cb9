-- What is shown is safe: of a text with any characters no control character comes through, no line end, and none that
-- nobody can see or that changes the direction of writing.
use Rattle.std.proofs.Common.{◌≡◌, ℕ, zero, suc, ◌-◌, ◌<◌, Bool, true, false, List, [], ◌∷◌, ◌++◌, length, take}
use Rattle.std.proofs.Common.{arith, refl, sym, ap, ◌∙◌, map, replicate}
use Rattle.std.specs.Prelude.{◌||◌, ◌&&◌, ◌==◌, cond, codes, nat_lt}
use Rattle.std.specs.Char.{digit_value, is_control}
use Rattle.std.specs.Fmt.{digits}
use Rattle.std.specs.Int.{is_in_range}
use Rattle.std.specs.List.{flat_map, list_any}
use Rattle.std.specs.Str.{IsUtf8, chars}
use Rattle.std.specs.Str.Parse.{AllDigits}
use Rattle.std.proofs.Math.Utf8.{encode, encodes, scalar, scalars}
use Rattle.std.proofs.lemmas.Bool.Decides.{nat_tests}
use Rattle.std.proofs.lemmas.Fmt.{digits_is_IsNumeral}
use Rattle.std.proofs.lemmas.List.{append-nil, length-map}
use Rattle.std.proofs.lemmas.Str.{IsUtf8-encode, IsUtf8-from_ascii, chars-IsAscii, chars-append, chars-encodes}
use Rattle.std.proofs.lemmas.Str.{scalars-chars}
use Rattle.source_text.specs.Plain.{is_other, IsPlain}
use Rattle.source_text.specs.Shown.{by_code, called, character, code_point, escaped, escaped_character, four_digits}
use Rattle.source_text.specs.Shown.{is_unseen, on_one_line, shown, shown_character, spaced_character}
use Rattle.source_text.proofs.Going.{parts, plain_ascii, seen}

-- the text has no character that is unseen
abbrev pub HasNothingUnseen : List ℕ → Type 0
HasNothingUnseen x = list_any is_unseen (chars x) ≡ false

halves : (a b : Bool) → (a && b) ≡ true → (a ≡ true) × (b ≡ true)
halves true b e = (refl, e)
halves false b e = absurd cc

both : (a b : Bool) → a ≡ true → b ≡ true → (a && b) ≡ true
both a b p q = rw (p, q) refl

neither : (a b : Bool) → a ≡ false → b ≡ false → (a || b) ≡ false
neither a b p q = rw (p, q) refl

-- ---- on one line

-- a character that is unseen is a space
abbrev pub visible : ℕ → ℕ
visible c = cond (is_unseen c) 32 c

as_map : (cs : List ℕ) → flat_map spaced_character cs ≡ encodes (map visible cs)
as_map [] = refl
as_map (c ∷ cs) = ap (λ t. spaced_character c ++ t) (as_map cs)

scalar_either : (b : Bool) (c : ℕ) → scalar c ≡ true → scalar (cond b 32 c) ≡ true
scalar_either true c e = refl
scalar_either false c e = e

visible_scalars : (cs : List ℕ) → scalars cs ≡ true → scalars (map visible cs) ≡ true
visible_scalars [] e = refl
visible_scalars (c ∷ cs) e = let h = halves (scalar c) (scalars cs) e in
    both (scalar (visible c)) (scalars (map visible cs)) (scalar_either (is_unseen c) c h.0) (visible_scalars cs h.1)

seen_either : (b : Bool) (c : ℕ) → is_unseen c ≡ b → is_unseen (cond b 32 c) ≡ false
seen_either true c e = refl
seen_either false c e = e

all_visible : (cs : List ℕ) → list_any is_unseen (map visible cs) ≡ false
all_visible [] = refl
all_visible (c ∷ cs) =
    neither (is_unseen (visible c)) (list_any is_unseen (map visible cs)) (seen_either (is_unseen c) c refl)
    (all_visible cs)

characters_on_one_line : (x : List ℕ) → IsUtf8 x → chars (on_one_line x) ≡ map visible (chars x)
characters_on_one_line x u =
    ap chars (as_map (chars x)) ∙ chars-encodes (map visible (chars x)) (visible_scalars (chars x) (scalars-chars x u))

safe_on_one_line : (x : List ℕ) → IsUtf8 x → HasNothingUnseen (on_one_line x)
safe_on_one_line x u = ap (list_any is_unseen) (characters_on_one_line x u) ∙ all_visible (chars x)

-- as many characters are shown as there are
as_many_characters : (x : List ℕ) → IsUtf8 x → length (chars (on_one_line x)) ≡ length (chars x)
as_many_characters x u = ap length (characters_on_one_line x u) ∙ length-map (chars x) visible

-- ---- code points

plain_append : (xs ys : List ℕ) → IsPlain xs → IsPlain ys → IsPlain (xs ++ ys)
plain_append [] ys p q = q
plain_append (x ∷ xs) ys p q = let h = parts (is_other x) (list_any is_other xs) p in
    neither (is_other x) (list_any is_other (xs ++ ys)) h.0 (plain_append xs ys h.1 q)

plain_either : (b : Bool) (xs ys : List ℕ) → IsPlain xs → IsPlain ys → IsPlain (cond b xs ys)
plain_either true xs ys p q = p
plain_either false xs ys p q = q

plain_zeros : (n : ℕ) → IsPlain (replicate n 48)
plain_zeros zero = refl
plain_zeros (suc n) = plain_zeros n

digit : (c : ℕ) → digit_value c < 16 → is_other c ≡ false
digit c l = grind (arith, nat_tests)

all_digits : (ds : List ℕ) → AllDigits 16 ds → IsPlain ds
all_digits [] a = refl
all_digits (d ∷ ds) a = neither (is_other d) (list_any is_other ds) (digit d a.0) (all_digits ds a.1)

small : (c : ℕ) → scalar c ≡ true → c < 1114112
small c e = grind (arith, nat_tests)

plain_digits : (c : ℕ) → scalar c ≡ true → IsPlain (digits 16 true c)
plain_digits c e =
    all_digits (digits 16 true c)
    (digits_is_IsNumeral 16 true (omega arith) (omega arith) c (omega (arith, small c e))).0.1

plain_code : (c : ℕ) → scalar c ≡ true → IsPlain (by_code c)
plain_code c e = plain_append (codes "\\u{") (digits 16 true c ++ codes "}") refl
    (plain_append (digits 16 true c) (codes "}") (plain_digits c e) refl)

-- ---- tokens, names and characters are printable ASCII characters and spaces

itself_or : (b : Bool) (c : ℕ) (t : List ℕ) → is_other c ≡ b → IsPlain t → IsPlain (cond b t (c ∷ []))
itself_or true c t e p = p
itself_or false c t e p = neither (is_other c) false e refl

flat_plain : (cs : List ℕ) → scalars cs ≡ true → IsPlain (flat_map shown_character cs)
flat_plain [] e = refl
flat_plain (c ∷ cs) e = let h = halves (scalar c) (scalars cs) e in
    plain_append (shown_character c) (flat_map shown_character cs)
    (itself_or (is_other c) c (by_code c) refl (plain_code c h.0)) (flat_plain cs h.1)

first_scalars : (n : ℕ) (cs : List ℕ) → scalars cs ≡ true → scalars (take n cs) ≡ true
first_scalars zero cs e = refl
first_scalars (suc n) [] e = refl
first_scalars (suc n) (c ∷ cs) e = let h = halves (scalar c) (scalars cs) e in
    both (scalar c) (scalars (take n cs)) h.0 (first_scalars n cs h.1)

safe_shown : (x : List ℕ) → IsUtf8 x → IsPlain (shown x)
safe_shown x u =
    plain_append (flat_map shown_character (take 60 (chars x))) (cond (nat_lt 60 (length (chars x))) (codes "..") [])
    (flat_plain (take 60 (chars x)) (first_scalars 60 (chars x) (scalars-chars x u)))
    (plain_either (nat_lt 60 (length (chars x))) (codes "..") [] refl refl)

plain_called : (c : ℕ) → IsPlain (called c)
plain_called c =
    plain_either (c == 0xFEFF) _ _ refl
    (plain_either (c == 0xA0) _ _ refl
    (plain_either (is_in_range 0x2018 0x2019 c) _ _ refl
    (plain_either (is_in_range 0x201C 0x201D c) _ _ refl
    (plain_either (is_in_range 0x2010 0x2014 c || c == 0x2212) _ _ refl
    (plain_either (is_control c) _ _ refl refl)))))

safe_character : (c : ℕ) → scalar c ≡ true → IsPlain (character c)
safe_character c e = itself_or (is_other c) c (code_point c) refl
    (plain_append (codes "U+") (four_digits c ++ called c) refl
    (plain_append (four_digits c) (called c)
    (plain_append (replicate (4 - length (digits 16 true c)) 48) (digits 16 true c)
    (plain_zeros (4 - length (digits 16 true c))) (plain_digits c e))
    (plain_called c)))

-- ---- names of files

plain_seen : (xs : List ℕ) → IsPlain xs → list_any is_unseen xs ≡ false
plain_seen [] p = refl
plain_seen (x ∷ xs) p = let h = parts (is_other x) (list_any is_other xs) p in
    neither (is_unseen x) (list_any is_unseen xs) (seen x h.0) (plain_seen xs h.1)

seen_append : (xs ys : List ℕ) → list_any is_unseen xs ≡ false → list_any is_unseen ys ≡ false
    → list_any is_unseen (xs ++ ys) ≡ false
seen_append [] ys p q = q
seen_append (x ∷ xs) ys p q = let h = parts (is_unseen x) (list_any is_unseen xs) p in
    neither (is_unseen x) (list_any is_unseen (xs ++ ys)) h.0 (seen_append xs ys h.1 q)

text_either : (b : Bool) (c : ℕ) → scalar c ≡ true → IsUtf8 (cond b (by_code c) (encode c))
text_either true c e = IsUtf8-from_ascii (by_code c) (plain_ascii (by_code c) (plain_code c e))
text_either false c e = IsUtf8-encode c e

alone : (c : ℕ) → scalar c ≡ true → chars (encode c) ≡ c ∷ []
alone c e = ap chars (sym (append-nil (encode c))) ∙ chars-encodes (c ∷ []) (both (scalar c) true e refl)

characters_either : (b : Bool) (c : ℕ) → is_unseen c ≡ b → scalar c ≡ true
    → list_any is_unseen (chars (cond b (by_code c) (encode c))) ≡ false
characters_either true c s e =
    ap (list_any is_unseen) (chars-IsAscii (by_code c) (plain_ascii (by_code c) (plain_code c e)))
    ∙ plain_seen (by_code c) (plain_code c e)
characters_either false c s e = ap (list_any is_unseen) (alone c e) ∙ neither (is_unseen c) false s refl

flat_seen : (cs : List ℕ) → scalars cs ≡ true → list_any is_unseen (chars (flat_map escaped_character cs)) ≡ false
unfolding chars
flat_seen [] e = refl
flat_seen (c ∷ cs) e = let h = halves (scalar c) (scalars cs) e in
    ap (list_any is_unseen)
    (chars-append (escaped_character c) (flat_map escaped_character cs) (text_either (is_unseen c) c h.0))
    ∙ seen_append (chars (escaped_character c)) (chars (flat_map escaped_character cs))
    (characters_either (is_unseen c) c refl h.0) (flat_seen cs h.1)

safe_escaped : (x : List ℕ) → IsUtf8 x → HasNothingUnseen (escaped x)
safe_escaped x u = flat_seen (chars x) (scalars-chars x u)
