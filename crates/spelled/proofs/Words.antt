-- The octets of an identifier token are an identifier.
use Rattle.std.proofs.Common.{◌≡◌, ℕ, zero, suc, ◌+◌, ◌-◌, ◌≤◌, ◌<◌, Bool, true, false, not, ◌||◌, ◌&&◌, ◌==◌, if◌then◌else◌, List, [], ◌∷◌, length, take, drop, refl, sym, subst, ap, arith, ◌∙◌ as ◌⋆◌}
use Rattle.std.specs.Prelude.{slice_range}
use Rattle.std.specs.Char.{is_ascii_lowercase, is_ascii_uppercase, is_ascii_alphabetic, is_ascii_alphanumeric}
use Rattle.std.proofs.lemmas.List.{drop_more}
use Rattle.std.proofs.lemmas.Bool.Decides.{nat_tests}
use Rattle.asn_base.specs.Names.{goes_on, is_identifier, IsIdentifier}
use Rattle.text.specs.declared.token.TokenKind.TheVariants as kinds
use Rattle.text.specs.Octets.{octet_at, stops_name, IsFirstStop}
use Rattle.text.specs.Items.{IsName, IsTokenOfKind}

-- the n octets from i on
abbrev from : List ℕ → ℕ → ℕ → List ℕ
from x i zero = []
from x i (suc n) = octet_at x i ∷ from x (i + 1) n

letter_or_hyphen : (c d : ℕ) → not (is_ascii_alphanumeric c || ((c == 45) && is_ascii_alphanumeric d)) ≡ false →
    (c == 45) ≡ false → is_ascii_alphanumeric c ≡ true
letter_or_hyphen c d e h = grind (arith, nat_tests)

behind_hyphen : (c d : ℕ) → not (is_ascii_alphanumeric c || ((c == 45) && is_ascii_alphanumeric d)) ≡ false →
    (c == 45) ≡ true → is_ascii_alphanumeric d ≡ true
behind_hyphen c d e h = grind (arith, nat_tests)

stop_no_letter : (c : ℕ) (b : Bool) → not (is_ascii_alphanumeric c || b) ≡ true → is_ascii_alphanumeric c ≡ true → ⊥
stop_no_letter c b e h = grind (arith, nat_tests)

letter_is_small : (c : ℕ) → is_ascii_alphabetic c ≡ true → is_ascii_uppercase c ≡ false → is_ascii_lowercase c ≡ true
letter_is_small c e h = grind (arith, nat_tests)

both : (a b : Bool) → a ≡ true → b ≡ true → (a && b) ≡ true
both true b e h = h
both false b e h = absurd cc

either : (b p q : Bool) → (b ≡ true → p ≡ true) → (b ≡ false → q ≡ true) → (if b then p else q) ≡ true
either true p q f g = f refl
either false p q f g = g refl

module _ (x : List ℕ) (s j : ℕ) (f : IsFirstStop (stops_name x) s j) where
  no_letter_after : is_ascii_alphanumeric (octet_at x j) ≡ true → ⊥
  unfolding stops_name
  no_letter_after = stop_no_letter (octet_at x j) ((octet_at x j == 45) && is_ascii_alphanumeric (octet_at x (j + 1))) f.here

  letter_here : (k : ℕ) → s ≤ k → k < j → (octet_at x k == 45) ≡ false → is_ascii_alphanumeric (octet_at x k) ≡ true
  unfolding stops_name
  letter_here k le lt = letter_or_hyphen (octet_at x k) (octet_at x (k + 1)) (f.before k le lt)

  letter_next : (k : ℕ) → s ≤ k → k < j → (octet_at x k == 45) ≡ true → is_ascii_alphanumeric (octet_at x (k + 1)) ≡ true
  unfolding stops_name
  letter_next k le lt = behind_hyphen (octet_at x k) (octet_at x (k + 1)) (f.before k le lt)

  mutual
    plain : (n k : ℕ) → s ≤ k → k + n ≡ j → goes_on false (from x k n) ≡ true
    plain zero k le e = refl
    plain (suc n) k le e =
        either (octet_at x k == 45) (goes_on true (from x (k + 1) n)) (is_ascii_alphanumeric (octet_at x k) && goes_on false (from x (k + 1) n))
        (λ h. after n (k + 1) (omega arith) (omega arith) (letter_next k le (omega arith) h))
        (λ h. both (is_ascii_alphanumeric (octet_at x k)) (goes_on false (from x (k + 1) n)) (letter_here k le (omega arith) h) (plain n (k + 1) (omega arith) (omega arith)))

    after : (n k : ℕ) → s ≤ k → k + n ≡ j → is_ascii_alphanumeric (octet_at x k) ≡ true → goes_on true (from x k n) ≡ true
    after zero k le e h = let same : k ≡ j = omega arith in absurd (no_letter_after (subst (λ (k : ℕ). is_ascii_alphanumeric (octet_at x k) ≡ true) same h))
    after (suc n) k le e h = both (is_ascii_alphanumeric (octet_at x k)) (goes_on false (from x (k + 1) n)) h (plain n (k + 1) (omega arith) (omega arith))

-- the octets between two places of a text
between_is : (x : List ℕ) (n i : ℕ) → i + n ≤ length x → take n (drop i x) ≡ from x i n
between_is x zero i le = refl
between_is x (suc n) i le =
    ap (take (suc n)) (drop_more x i 0 (omega arith)) ⋆ ap (λ (l : List ℕ). octet_at x i ∷ l) (between_is x n (i + 1) (omega arith))

name_is_identifier : (x : List ℕ) (n i : ℕ)
    → IsName x i (i + suc n)
    → is_ascii_uppercase (octet_at x i) ≡ false
    → is_identifier (from x i (suc n)) ≡ true
name_is_identifier x n i h e =
    both (is_ascii_lowercase (octet_at x i)) (goes_on false (from x (i + 1) n)) (letter_is_small (octet_at x i) h.letter e)
    (plain x (i + 1) (i + suc n) h.first n (i + 1) (omega arith) (omega arith))

name_between : (x : List ℕ) (n i j : ℕ)
    → i + suc n ≡ j
    → j ≤ length x
    → IsName x i j
    → is_ascii_uppercase (octet_at x i) ≡ false
    → is_identifier (slice_range x i j) ≡ true
name_between x n i j e le h u =
    let count : j - i ≡ suc n = omega arith in
    let here : IsName x i (i + suc n) = subst (IsName x i) (sym e) h in
    ap (λ (m : ℕ). is_identifier (take m (drop i x))) count
    ⋆ ap is_identifier (between_is x (suc n) i (omega arith))
    ⋆ name_is_identifier x n i here u

pub identifier_is : (x : List ℕ) (i j : ℕ)
    → j ≤ length x
    → IsTokenOfKind x kinds.Identifier i j
    → IsIdentifier (slice_range x i j)
identifier_is x i j le h =
    name_between x (j - i - 1) i j (omega (arith, h.0.first.follows)) le h.0 h.2
