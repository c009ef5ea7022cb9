-- Ends of lines and of characters.
use Rattle.std.proofs.Common.{◌≡◌, ℕ, ◌+◌, ◌-◌, ◌≤◌, ◌<◌, Bool, true, false, not, List, [], length, take, drop, get_or}
use Rattle.std.proofs.Common.{arith, refl, sym, ap, ◌∙◌, IsUtf8, ◌∷◌, ◌++◌, replicate, inl, inr}
use Rattle.std.specs.Prelude.{cond}
use Rattle.std.specs.List.{after_last, prefix_len, suffix_len}
use Rattle.std.specs.Str.{chars, is_utf8}
use Rattle.std.proofs.lemmas.Bool.{cases_lt}
use Rattle.std.proofs.lemmas.List.{append_assoc, take_all, take_rest}
use Rattle.std.proofs.lemmas.List.Sums.{suffix_len_is}
use Rattle.std.proofs.lemmas.Str.{IsUtf8-from_is_utf8, is_utf8-from_IsUtf8}
use Rattle.source_text.specs.Context.{context_of, is_continuation, text_or_none, to_character}
use Rattle.source_text.specs.Strings.{is_line_end}

-- no line ends with an octet from offset n on
abbrev pub HasNoEndFrom : List ℕ → ℕ → Type 0
HasNoEndFrom xs n = (k : ℕ) → n ≤ k → k < length xs → is_line_end (get_or xs k 0) ≡ false

pub no_end_at_all : (xs : List ℕ) → HasNoEndFrom xs (length xs)
no_end_at_all xs k l m = absurd (omega (arith, l, m))

pub one_before : (xs : List ℕ) (n : ℕ)
    → 0 < n
    → is_line_end (get_or xs (n - 1) 0) ≡ false
    → HasNoEndFrom xs n
    → HasNoEndFrom xs (n - 1)
one_before xs n p e h k l m = elim (cases_lt k n) [
  | inl q ↦ (let s : k ≡ n - 1 = omega (arith, l, q, p) in ap (λ j. is_line_end (get_or xs j 0)) s ∙ e)
  | inr q ↦ h k q m
]

pub after_end : (xs : List ℕ) (n : ℕ)
    → 0 < n
    → n ≤ length xs
    → is_line_end (get_or xs (n - 1) 0) ≡ true
    → HasNoEndFrom xs n
    → take (length xs - (n - 1 + 1)) (drop (n - 1 + 1) xs) ≡ after_last is_line_end xs
after_end xs n p w e h =
    let s = suffix_len_is (λ x. not (is_line_end x)) xs n 0 w (λ k a b. ap not (h k a b)) (λ _. ap not e) in
    let m : n - 1 + 1 ≡ length xs - suffix_len (λ x. not (is_line_end x)) xs = omega (arith, s, p, w) in
    take_rest xs (n - 1 + 1) ∙ ap (λ k. drop k xs) m

pub no_end : (xs : List ℕ) (n : ℕ) → n ≡ 0 → HasNoEndFrom xs n → xs ≡ after_last is_line_end xs
no_end xs n z h =
    let s = suffix_len_is (λ x. not (is_line_end x)) xs 0 0 (omega arith)
    (λ k a b. ap not (h k (omega (arith, z)) b)) (λ l. absurd (omega (arith, l))) in
    let m : length xs - suffix_len (λ x. not (is_line_end x)) xs ≡ 0 = omega (arith, s) in
    sym (ap (λ k. drop k xs) m)

-- octets that are all shown
pub all_of_them : (o : List ℕ) (n : ℕ)
    → length o ≤ n
    → 101 + prefix_len is_continuation (drop 101 o) ≡ n + prefix_len is_continuation (drop n o)
    → o ≡ to_character o
all_of_them o n l e = sym (take_all (101 + prefix_len is_continuation (drop 101 o)) o (omega (arith, l, e)))

-- octets as a text
is_none : (b : Bool) → (b ≡ true → ⊥) → b ≡ false
is_none true f = absurd (f refl)
is_none false f = refl

pub is_text : (o : List ℕ) → IsUtf8 o → o ≡ text_or_none o
is_text o u = sym (ap (λ b. cond b o []) (is_utf8-from_IsUtf8 o u))

pub no_text : (o : List ℕ) → (IsUtf8 o → ⊥) → [] ≡ text_or_none o
no_text o f = sym (ap (λ b. cond b o []) (is_none (is_utf8 o) (λ e. f (IsUtf8-from_is_utf8 o e))))

-- ---- the two lines

joined : (front rest spaces : List ℕ)
    → ((10 ∷ (front ++ (rest ++ (10 ∷ [])))) ++ spaces) ++ (94 ∷ [])
    ≡ 10 ∷ (front ++ (rest ++ (10 ∷ (spaces ++ (94 ∷ [])))))
joined front rest spaces = simp append_assoc

pub two_lines : (front shown rest a b d x y : List ℕ)
    → front ≡ x
    → rest ≡ y
    → shown ≡ front
    → a ≡ 10 ∷ (front ++ (rest ++ (10 ∷ [])))
    → b ≡ a ++ replicate (length (chars shown)) 32
    → d ≡ b ++ (94 ∷ [])
    → d ≡ context_of x y
two_lines front shown rest a b d x y p q s e f g =
    g ∙ ap (λ t. t ++ (94 ∷ [])) (f ∙ ap (λ t. a ++ replicate (length (chars t)) 32) s
    ∙ ap (λ t. t ++ replicate (length (chars front)) 32) e)
    ∙ joined front rest (replicate (length (chars front)) 32) ∙ ap (λ t. context_of t rest) p ∙ ap (context_of x) q
