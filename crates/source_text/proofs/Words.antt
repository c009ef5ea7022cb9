-- Names and words have ASCII characters alone; a token has one kind.
use Rattle.std.proofs.Common.{arith, ◌≡◌, ◌↔◌, ℕ, zero, suc, ◌<◌, Bool, true, false, IsTrue, IsUtf8, List, [], ◌∷◌}
use Rattle.std.proofs.Common.{None, Some, cond, get_or, refl, slice_get, subst, sym}
use Rattle.std.specs.Prelude.{◌||◌, ◌&&◌, nat_le, take_while}
use Rattle.std.specs.Char.{is_ascii_alphanumeric}
use Rattle.std.specs.Int.{is_in_range}
use Rattle.std.proofs.lemmas.Bool.{eqb-true, leb-true}
use Rattle.std.proofs.lemmas.List.Sums.{take_while-cons}
use Rattle.std.proofs.lemmas.Str.{IsUtf8-from_ascii}
use Rattle.text.specs.declared.token.Token.{Token}
use Rattle.text.specs.declared.token.TokenKind.{TokenKind}
use Rattle.source_text.specs.Strings.{IsOfKind, is_in_word}

either : (a b : Bool) {P : Type 0} → (a ≡ true → P) → (b ≡ true → P) → (a || b) ≡ true → P
either true b f g e = f refl
either false b f g e = g e

second : (a b : Bool) → (a && b) ≡ true → b ≡ true
second true b e = e
second false b e = absurd cc

in_range : (lo hi c : ℕ) → hi < 128 → is_in_range lo hi c ≡ true → c < 128
in_range lo hi c l e = let h = leb-true c hi (second (nat_le lo c) (nat_le c hi) e) in omega (arith, h, l)

is_one : (n c : ℕ) → n < 128 → c ≡ n → c < 128
is_one n c l e = omega (arith, l, e)

letter_low : (c : ℕ) → is_ascii_alphanumeric c ≡ true → c < 128
letter_low c = either _ _ (either _ _ (in_range 48 57 c (omega arith)) (in_range 65 90 c (omega arith)))
    (in_range 97 122 c (omega arith))

low : (c : ℕ) → is_in_word c ≡ true → c < 128
low c = either _ _ (letter_low c) (λ e. is_one 45 c (omega arith) (eqb-true c 45 e))

-- the octets of a word before any one
front : (c : ℕ) (b : Bool) (w : List ℕ) → (b ≡ true → c < 128) → ((i : ℕ) → get_or w i 0 < 128)
    → (i : ℕ) → get_or (cond b (c ∷ w) []) i 0 < 128
front c true w l a zero = l refl
front c true w l a (suc i) = a i
front c false w l a i = omega arith

all_low : (xs : List ℕ) (i : ℕ) → get_or (take_while is_in_word xs) i 0 < 128
all_low [] i = omega arith
all_low (c ∷ xs) i = subst (λ w. get_or w i 0 < 128) (sym (take_while-cons is_in_word c xs))
    (front c (is_in_word c) (take_while is_in_word xs) (low c) (all_low xs) i)

pub word_utf8 : (xs w : List ℕ) → w ≡ take_while is_in_word xs → IsUtf8 w
word_utf8 xs w e = subst IsUtf8 (sym e) (IsUtf8-from_ascii (take_while is_in_word xs) (all_low xs))

pub kind_there : (ts : List Token) (i : ℕ) (kind : TokenKind) (t : Token) (b : Bool)
    → slice_get ts i ≡ Some t
    → (IsTrue b ↔ t.kind ≡ kind)
    → (IsTrue b ↔ IsOfKind kind (slice_get ts i))
kind_there ts i kind t b e is = subst (λ o. IsTrue b ↔ IsOfKind kind o) (sym e) is

pub kind_after : (ts : List Token) (i : ℕ) (kind : TokenKind)
    → slice_get ts i ≡ None
    → (IsTrue false ↔ IsOfKind kind (slice_get ts i))
kind_after ts i kind e = subst (λ o. IsTrue false ↔ IsOfKind kind o) (sym e) ((λ x. absurd cc), (λ x. absurd x))
