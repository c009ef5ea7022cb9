-- Texts, character by character.
use Rattle.std.proofs.Common.{◌≡◌, ℕ, suc, ◌≤◌, ◌<◌, Bool, true, false, List, [], ◌∷◌, ◌++◌, length, take}
use Rattle.std.proofs.Common.{arith, refl, sym, ap, ◌∙◌, subst}
use Rattle.std.specs.Prelude.{◌||◌, cond, codes, nat_lt, replicate}
use Rattle.std.specs.Char.{is_control}
use Rattle.std.specs.List.{flat_map, list_any}
use Rattle.std.specs.Str.{IsAscii, IsUtf8, chars}
use Rattle.std.proofs.Math.Utf8.{encode}
use Rattle.std.proofs.lemmas.Bool.Decides.{nat_tests}
use Rattle.std.proofs.lemmas.List.{append_assoc, append-nil, nil_from_length, take_all}
use Rattle.std.proofs.lemmas.Str.{IsUtf8-past_char, chars_past_char, chars-IsAscii, chars-nil, encode_ascii}
use Rattle.std.proofs.lemmas.Str.Ascii.{IsAscii-cons, IsAscii-nil}
use Rattle.source_text.specs.Plain.{is_other, IsPlain}
use Rattle.source_text.specs.Shown.{cut, escaped, escaped_character, is_hidden_high, is_hidden_low, is_unseen}
use Rattle.source_text.specs.Shown.{on_one_line, shown, shown_character, spaced_character}

-- after what is out, text r is left to be shown, so that all is total
pub record IsGoing (f : List ℕ → List ℕ) (out r total : List ℕ) : Type 0 where
  utf8 : IsUtf8 r
  all : out ++ f (chars r) ≡ total

pub start : (f : List ℕ → List ℕ) (x r out : List ℕ) → IsUtf8 x → r ≡ x → out ≡ [] → IsGoing f out r (f (chars x))
start f x r out u e n = record {
  utf8 = subst IsUtf8 (sym e) u;
  all = ap (λ t. t ++ f (chars r)) n ∙ ap (λ t. f (chars t)) e;
}

pub start_after : (f : List ℕ → List ℕ) (x r out total : List ℕ)
    → IsUtf8 x
    → r ≡ x
    → out ++ f (chars x) ≡ total
    → IsGoing f out r total
start_after f x r out total u e t = record {
  utf8 = subst IsUtf8 (sym e) u;
  all = ap (λ y. out ++ f (chars y)) e ∙ t;
}

-- one character more
pub step : (f : ℕ → List ℕ) (c : ℕ) (s r out new total : List ℕ)
    → s ≡ encode c ++ r
    → IsGoing (flat_map f) out s total
    → new ≡ out ++ f c
    → IsGoing (flat_map f) new r total
step f c s r out new total e g n = record {
  utf8 = IsUtf8-past_char s r c g.utf8 e;
  all = ap (λ t. t ++ flat_map f (chars r)) n ∙ append_assoc out (f c) (flat_map f (chars r))
      ∙ ap (λ cs. out ++ flat_map f cs) (sym (chars_past_char s r c g.utf8 e)) ∙ g.all;
}

-- none is left
pub stop : (f : List ℕ → List ℕ) (r out total : List ℕ) → f [] ≡ [] → length r ≡ 0 → IsGoing f out r total → out ≡ total
stop f r out total n l g =
    sym (ap (λ t. out ++ t) (ap (λ t. f (chars t)) (nil_from_length r l) ∙ ap f chars-nil ∙ n) ∙ append-nil out) ∙ g.all

same_test : (n m : ℕ) → nat_lt (suc n) (suc m) ≡ nat_lt n m
same_test n m = grind (arith, nat_tests)

some_left : (m : ℕ) → nat_lt 0 (suc m) ≡ true
some_left m = grind (arith, nat_tests)

-- the first of n characters, and then those of the rest
more : (n c : ℕ) (cs : List ℕ) → cut (suc n) (c ∷ cs) ≡ shown_character c ++ cut n cs
more n c cs =
    ap (λ b. flat_map shown_character (take (suc n) (c ∷ cs)) ++ cond b (codes "..") []) (same_test n (length cs))
    ∙ append_assoc (shown_character c) (flat_map shown_character (take n cs))
    (cond (nat_lt n (length cs)) (codes "..") [])

pub cut_step : (n m c : ℕ) (s r out new total : List ℕ)
    → s ≡ encode c ++ r
    → n ≡ suc m
    → IsGoing (cut n) out s total
    → new ≡ out ++ shown_character c
    → IsGoing (cut m) new r total
cut_step n m c s r out new total e l g w = record {
  utf8 = IsUtf8-past_char s r c g.utf8 e;
  all = ap (λ t. t ++ cut m (chars r)) w ∙ append_assoc out (shown_character c) (cut m (chars r))
      ∙ ap (λ t. out ++ t) (sym (more m c (chars r)) ∙ ap (λ k. cut k (c ∷ chars r)) (sym l)
      ∙ ap (cut n) (sym (chars_past_char s r c g.utf8 e))) ∙ g.all;
}

-- there are more characters than are shown
pub cut_here : (n c : ℕ) (s r out new total : List ℕ)
    → s ≡ encode c ++ r
    → n ≡ 0
    → IsGoing (cut n) out s total
    → new ≡ out ++ codes ".."
    → new ≡ total
cut_here n c s r out new total e z g w =
    w ∙ ap (λ b. out ++ cond b (codes "..") []) (sym (some_left (length (chars r))))
    ∙ ap (λ cs. out ++ cut 0 cs) (sym (chars_past_char s r c g.utf8 e))
    ∙ ap (λ k. out ++ cut k (chars s)) (sym z) ∙ g.all

-- ---- printable ASCII characters and spaces

pub parts : (a b : Bool) → (a || b) ≡ false → (a ≡ false) × (b ≡ false)
parts true b e = absurd cc
parts false b e = (refl, e)

low : (c : ℕ) → is_other c ≡ false → c < 128
low c e = grind (arith, nat_tests)

no_control : (c : ℕ) → is_other c ≡ false → is_control c ≡ false
no_control c e = grind (arith, nat_tests)

seen_low : (c : ℕ) → c < 128 → is_hidden_low c ≡ false
seen_low c m = grind (arith, nat_tests)

seen_high : (c : ℕ) → c < 128 → is_hidden_high c ≡ false
seen_high c m = grind (arith, nat_tests)

none : (a b c : Bool) → a ≡ false → b ≡ false → c ≡ false → (a || (b || c)) ≡ false
none a b c p q r = rw (p, q, r) refl

pub seen : (c : ℕ) → is_other c ≡ false → is_unseen c ≡ false
seen c e =
    none (is_control c) (is_hidden_low c) (is_hidden_high c) (no_control c e) (seen_low c (low c e))
    (seen_high c (low c e))

pub plain_ascii : (x : List ℕ) → IsPlain x → IsAscii x
plain_ascii [] p = IsAscii-nil
plain_ascii (c ∷ x) p = let q = parts (is_other c) (list_any is_other x) p in
    IsAscii-cons c x (low c q.0) (plain_ascii x q.1)

-- what leaves each of them as it is leaves the text as it is
as_it_is : (f : ℕ → List ℕ) (x : List ℕ) → ((c : ℕ) → is_other c ≡ false → f c ≡ c ∷ []) → IsPlain x → flat_map f x ≡ x
as_it_is f [] h p = refl
as_it_is f (c ∷ x) h p = let q = parts (is_other c) (list_any is_other x) p in
    ap (λ t. t ++ flat_map f x) (h c q.0) ∙ ap (λ t. c ∷ t) (as_it_is f x h q.1)

spaced_same : (c : ℕ) → is_other c ≡ false → spaced_character c ≡ c ∷ []
spaced_same c e = rw (seen c e) (encode_ascii c (low c e))

escaped_same : (c : ℕ) → is_other c ≡ false → escaped_character c ≡ c ∷ []
escaped_same c e = rw (seen c e) (encode_ascii c (low c e))

shown_same : (c : ℕ) → is_other c ≡ false → shown_character c ≡ c ∷ []
shown_same c e = rw e refl

pub on_one_line_plain : (x : List ℕ) → IsPlain x → on_one_line x ≡ x
on_one_line_plain x p =
    ap (flat_map spaced_character) (chars-IsAscii x (plain_ascii x p)) ∙ as_it_is spaced_character x spaced_same p

pub escaped_plain : (x : List ℕ) → IsPlain x → escaped x ≡ x
escaped_plain x p =
    ap (flat_map escaped_character) (chars-IsAscii x (plain_ascii x p)) ∙ as_it_is escaped_character x escaped_same p

all_taken : (n : ℕ) (x : List ℕ) → length x ≤ n → cut n x ≡ flat_map shown_character x
all_taken n x l =
    let none : nat_lt n (length x) ≡ false = grind (arith, nat_tests) in
    ap (λ cs. flat_map shown_character cs ++ cond (nat_lt n (length x)) (codes "..") []) (take_all n x l)
    ∙ ap (λ b. flat_map shown_character x ++ cond b (codes "..") []) none
    ∙ append-nil (flat_map shown_character x)

pub cut_none : (n : ℕ) → cut n [] ≡ []
cut_none n = all_taken n [] (omega arith)

pub shown_plain : (x : List ℕ) → length x ≤ 60 → IsPlain x → shown x ≡ x
shown_plain x l p =
    ap (cut 60) (chars-IsAscii x (plain_ascii x p)) ∙ all_taken 60 x l ∙ as_it_is shown_character x shown_same p

-- ---- a space for each character

abbrev pub space : ℕ → List ℕ
space c = 32 ∷ []

pub spaces : (cs : List ℕ) → flat_map space cs ≡ replicate (length cs) 32
spaces [] = refl
spaces (c ∷ cs) = ap (λ t. 32 ∷ t) (spaces cs)
