-- Characters at offsets of a text.
use Rattle.std.proofs.Common.{◌≡◌, ℕ, ◌+◌, ◌-◌, ◌≤◌, ◌<◌, Bool, true, false, List, [], ◌∷◌, ◌++◌, length, take, drop}
use Rattle.std.proofs.Common.{◌⊎◌, inl, inr, arith, refl, sym, ap, ◌∙◌, subst, min}
use Rattle.std.proofs.Common.{Option, None, Some, MatchOption, slice_get}
use Rattle.std.proofs.Common.{Result, IfOk, String, string_bytes, cond}
use Rattle.std.specs.Prelude.{◌&&◌, ◌^◌}
use Rattle.std.specs.Char.{len_utf8}
use Rattle.std.specs.Str.{IsUtf8, chars}
use Rattle.std.proofs.Math.Utf8.{encode, scalar, scalars}
use Rattle.std.proofs.lemmas.Bool.Decides.{nat_tests}
use Rattle.std.proofs.lemmas.Option.{get_or_from_slice_get, slice_get-get_or, slice_get_within}
use Rattle.std.proofs.lemmas.List.{append_assoc, drop_more, length-append, length-drop, take-append-drop, take_at}
use Rattle.std.proofs.lemmas.Str.{IsUtf8-encode, chars_past_char, encode_same, len_utf8_bounds}
use Rattle.std.proofs.lemmas.Str.{encode_ascii, length-encode, scalars-chars}
use Rattle.source_text.specs.Plain.{is_other}
use Rattle.source_text.specs.Shown.{BeginsAt, HasNoCharacter, character, code_point}

first_of : (a b : Bool) → (a && b) ≡ true → a ≡ true
first_of true b e = refl
first_of false b e = absurd cc

-- characters that begin with c are at the offset
pub begins : (x front r : List ℕ) (n k c : ℕ)
    → IsUtf8 front
    → front ≡ take k (drop n x)
    → front ≡ encode c ++ r
    → BeginsAt x n c
begins x front r n k c u e f = record {
  scalar = first_of (scalar c) (scalars (chars r))
      (sym (ap scalars (chars_past_char front r c u f)) ∙ scalars-chars front u);
  rest = r ++ drop k (drop n x);
  octets = sym (take-append-drop k (drop n x)) ∙ ap (λ t. t ++ drop k (drop n x)) (sym e ∙ f)
      ∙ append_assoc (encode c) r (drop k (drop n x));
}

-- a character is within the text
pub fits : (x : List ℕ) (n c : ℕ) → BeginsAt x n c → n + len_utf8 c ≤ length x
fits x n c b =
    let l : length (drop n x) ≡ length (encode c) + length b.rest =
    ap length b.octets ∙ length-append (encode c) b.rest in
    omega (arith, l, length-drop n x, length-encode c, len_utf8_bounds c)

-- its octets
pub octets_of : (x : List ℕ) (n c k : ℕ) → BeginsAt x n c → len_utf8 c ≡ k → take k (drop n x) ≡ encode c
octets_of x n c k b e = ap (take k) b.octets ∙ take_at (encode c) b.rest k (length-encode c ∙ e)

pub octets_are_text : (x o : List ℕ) (n c k : ℕ)
    → BeginsAt x n c
    → len_utf8 c ≡ k
    → o ≡ take k (drop n x)
    → IsUtf8 o
octets_are_text x o n c k b e q = subst IsUtf8 (sym (q ∙ octets_of x n c k b e)) (IsUtf8-encode c b.scalar)

pub octets_are_some : (x o : List ℕ) (n c k : ℕ)
    → BeginsAt x n c
    → len_utf8 c ≡ k
    → o ≡ take k (drop n x)
    → length o ≡ 0
    → ⊥
octets_are_some x o n c k b e q l =
    let m = ap length (q ∙ octets_of x n c k b e) ∙ length-encode c in
    absurd (omega (arith, m, l, len_utf8_bounds c))

-- one character begins at an offset
pub only_one : (x : List ℕ) (n c d : ℕ) → BeginsAt x n c → BeginsAt x n d → c ≡ d
only_one x n c d a b = (encode_same c d a.rest b.rest (sym a.octets ∙ b.octets)).0

-- ---- the octets from offset n to offset m, which is k octets after it unless no offset is

abbrev pub IsEnd : (n k m : ℕ) → Type 0
IsEnd n k m = m ≡ min (n + k) (2 ^ 64 - 1)

-- no character of k octets begins at offset n
abbrev pub HasNone : List ℕ → (n k : ℕ) → Type 0
HasNone x n k = (c : ℕ) → BeginsAt x n c → len_utf8 c ≡ k → ⊥

long : (x : List ℕ) (n k m c : ℕ)
    → IsEnd n k m
    → length x < 2 ^ 64
    → BeginsAt x n c
    → len_utf8 c ≡ k
    → (len_utf8 c ≡ m - n) × (n ≤ m) × (m ≤ length x)
long x n k m c i l b e = let f = fits x n c b in
    (omega (arith, i, l, f, e), omega (arith, i, l, f, e), omega (arith, i, l, f, e))

pub none_past : (x : List ℕ) (n k m : ℕ)
    → IsEnd n k m
    → length x < 2 ^ 64
    → (m < n) ⊎ (length x < m)
    → HasNone x n k
none_past x n k m i l past c b e = let p = long x n k m c i l b e in
    elim past [ inl q ↦ absurd (omega (arith, q, p.1)) | inr q ↦ absurd (omega (arith, q, p.2)) ]

pub none_of_others : (x o : List ℕ) (n k m : ℕ)
    → IsEnd n k m
    → length x < 2 ^ 64
    → o ≡ take (m - n) (drop n x)
    → (IsUtf8 o → ⊥)
    → HasNone x n k
none_of_others x o n k m i l e other c b f =
    let p = long x n k m c i l b f in other (octets_are_text x o n c (m - n) b p.0 e)

pub first_or_none : (x front : List ℕ) (n k m : ℕ) (o : Option ℕ) (P : Type 0) (Q : ℕ → Type 0)
    → IsEnd n k m
    → length x < 2 ^ 64
    → front ≡ take (m - n) (drop n x)
    → IsUtf8 front
    → MatchOption o P Q
    → (P → length front ≡ 0)
    → ((c : ℕ) → Q c → (r : List ℕ) × (front ≡ encode c ++ r))
    → MatchOption o (HasNone x n k) (BeginsAt x n)
first_or_none x front n k m None P Q i l e u h none some =
    λ c b f. let p = long x n k m c i l b f in octets_are_some x front n c (m - n) b p.0 e (none h)
first_or_none x front n k m (Some c) P Q i l e u h none some =
    let q = some c h in begins x front q.0 n (m - n) c u e q.1

-- ---- octets that are printable ASCII characters or spaces

low_octet : (o : ℕ) → is_other o ≡ false → o < 128
low_octet o e = grind (arith, nat_tests)

low_scalar : (c : ℕ) → c < 128 → scalar c ≡ true
low_scalar c l = grind (arith, nat_tests)

pub plain_begins : (x : List ℕ) (n o : ℕ) → slice_get x n ≡ Some o → is_other o ≡ false → BeginsAt x n o
plain_begins x n o e p = record {
  scalar = low_scalar o (low_octet o p);
  rest = drop (n + 1) x;
  octets = drop_more x n 0 (slice_get_within x n o e)
      ∙ ap (λ c. c ∷ drop (n + 1) x) (get_or_from_slice_get x n o 0 e)
      ∙ ap (λ t. t ++ drop (n + 1) x) (sym (encode_ascii o (low_octet o p)));
}

pub none_at_end : (x : List ℕ) (n : ℕ) → slice_get x n ≡ None → HasNoCharacter x n
none_at_end x n e c b =
    let l = fits x n c b in
    let s = slice_get-get_or x n 0 (omega (arith, l, len_utf8_bounds c)) in
    absurd cc

-- ---- what is said of the character at an offset

abbrev pub Says : {Z E : Type 0} → Result (String Z) E → List ℕ → Type 0
Says r t = IfOk r (λ s. string_bytes s ≡ t)

pub says_of : {Z E : Type 0} (r : Result (String Z) E) (x : List ℕ) (n c d : ℕ)
    → BeginsAt x n c
    → Says r (character c)
    → BeginsAt x n d
    → Says r (character d)
says_of r x n c d b s a = subst (λ k. Says r (character k)) (only_one x n c d b a) s

pub says_itself : {Z E : Type 0} (r : Result (String Z) E) (x : List ℕ) (n c o : ℕ)
    → BeginsAt x n c
    → Says r (character c)
    → slice_get x n ≡ Some o
    → is_other o ≡ false
    → Says r (o ∷ [])
says_itself r x n c o b s e p =
    let same : character o ≡ o ∷ [] = ap (λ b. cond b (code_point o) (o ∷ [])) p in
    subst (Says r) same (says_of r x n c o b s (plain_begins x n o e p))
