-- Septets at the front of octets.
use Rattle.std.proofs.Common.{arith, ◌≡◌, ℕ, zero, suc, true, false, ◌+◌, ◌-◌, ◌*◌, ◌<◌, ◌≤◌, List, [], ◌∷◌, ◌++◌, length, refl, sym, ap, subst, ◌∙◌, get_or}
use Rattle.std.proofs.lemmas.List.{append-nil}
use Rattle.std.specs.Int.Digits.{number_from_digits_after, AllBelowBase}
use Rattle.std.proofs.lemmas.Int.Digits.{number_push, number_after_ge}
use Rattle.encodings.specs.Header.{septets}
use Rattle.octets.specs.declared.header_fault.HeaderFault.{HeaderFault}
use Rattle.octets.specs.declared.header_fault.HeaderFault.TheVariants.{Truncated, Indefinite, BadLength, BadTag}
use Rattle.octets.specs.Scans.{Goes, NoSeptets, unended, endless, NoNumber, unended_number, small, endless_number}
use Rattle.encodings.specs.proving.Septets.{Septets, last_septet, more_septets, at_least, marked, number_spelled, never_zero as begins_not, digits_read}
use Rattle.encodings.specs.proving.Fronts.{head_or_0}

pub one_last : (h x : ℕ) (o rest : List ℕ) → o ≡ x ∷ rest → x < 128 → Septets h o (h * 128 + x) rest
one_last h x o rest e l = subst (λ q. Septets h q (h * 128 + x) rest) (sym e) (last_septet l refl)

pub one_more : (h x n : ℕ) (o b rest : List ℕ) → o ≡ x ∷ b → 128 ≤ x → x < 256 → Septets (h * 128 + (x - 128)) b n rest → Septets h o n rest
one_more h x n o b rest e l m s = subst (λ q. Septets h q n rest) (sym e) (more_septets (omega arith) (omega arith) s)

pub never_zero : (n : ℕ) (o b rest : List ℕ) → o ≡ 128 ∷ b → o ≡ septets n ++ rest → ⊥
never_zero n o b rest e f = begins_not n o rest (ap (λ q. get_or q 0 0) e) f

head_same : {x : ℕ} {o b c : List ℕ} (y : ℕ) → o ≡ x ∷ b → o ≡ y ∷ c → x ≡ y
head_same y e f = ap head_or_0 (sym e ∙ f)

pub number_is : (n x : ℕ) (o b rest : List ℕ) → o ≡ x ∷ b → (x ≡ 128 → ⊥) → Septets 0 o n rest → o ≡ septets n ++ rest
number_is n x o b rest e other s = number_spelled n o rest s (λ c f. other (head_same 128 e f))

pub not_a_number : (n x : ℕ) (o b rest : List ℕ) → o ≡ x ∷ b → x ≡ 128 → o ≡ septets n ++ rest → ⊥
not_a_number n x o b rest e z f = never_zero n o b rest (e ∙ ap (λ q. q ∷ b) z) f

-- ---- septets that are none

goes_none : (h : ℕ) (o : List ℕ) → o ≡ [] → Goes h h o []
goes_none h o e = record { digits = []; below = tt; worth = refl; whole = e }

goes_more : (h x m : ℕ) (o b rest : List ℕ) → o ≡ x ∷ b → 128 ≤ x → x < 256 → Goes (h * 128 + (x - 128)) m b rest → Goes h m o rest
goes_more h x m o b rest e l k g = record {
  digits = (x - 128) ∷ g.digits;
  below = (omega arith, g.below);
  worth = g.worth;
  whole = e ∙ ap (λ q. q ∷ b) (let f : x ≡ 128 + (x - 128) = omega arith in f) ∙ ap (λ q. (128 + (x - 128)) ∷ q) g.whole;
}

pub no_more : (h : ℕ) (o : List ℕ) → length o ≡ 0 → h < 16777216 → NoSeptets h o Truncated
no_more h [] e l = unended (goes_none h [] refl) l
no_more h (x ∷ o) e l = absurd (omega arith)

pub none_after : (h x : ℕ) (o b : List ℕ) (e : HeaderFault) → o ≡ x ∷ b → 128 ≤ x → x < 256 → NoSeptets (h * 128 + (x - 128)) b e → NoSeptets h o e
none_after h x o b Truncated f l k (unended g m) = unended (goes_more h x _ o b [] f l k g) m
none_after h x o b Indefinite f l k n = elim n [ ]
none_after h x o b BadLength f l k n = elim n [ ]
none_after h x o b BadTag f l k (endless rest g m) = endless rest (goes_more h x _ o b rest f l k g) m

pub too_many : (h x : ℕ) (o b : List ℕ) → o ≡ x ∷ b → 128 ≤ x → x < 256 → 16777216 ≤ h * 128 + (x - 128) → NoSeptets h o BadTag
too_many h x o b f l k m = endless b (goes_more h x _ o b b f l k (record { digits = []; below = tt; worth = refl; whole = refl })) m

-- ---- numbers of tags

-- no octet 128 first
abbrev pub WithoutZeros : List ℕ → Type 0
WithoutZeros o = (rest : List ℕ) → o ≡ 128 ∷ rest → ⊥

pub small_is : (n : ℕ) (o r : List ℕ) → Septets 0 o n r → n < 31 → WithoutZeros o → NoNumber o BadTag
small_is n o r (last_septet {x = x} {rest = rest} l e) lt never = small x rest (omega arith) refl
small_is n o r (more_septets {x = zero} {y = y} {o = b} l e s) lt never = absurd (never b (ap (λ q. q ∷ b) e))
small_is n o r (more_septets {x = suc x} l e s) lt never = absurd (let g = at_least s in omega arith)

pub none_of : (o : List ℕ) (e : HeaderFault) → NoSeptets 0 o e → WithoutZeros o → NoNumber o e
none_of o Truncated (unended g l) never = unended_number g l never
none_of o Indefinite n never = elim n [ ]
none_of o BadLength n never = elim n [ ]
none_of o BadTag (endless rest g l) never = endless_number rest g l

-- septets that end too early, with the one that is missing
pub record Completed (o : List ℕ) : Type 0 where
  pub number : ℕ
  pub last : ℕ
  pub above : 31 ≤ number
  pub below : number < 2147483648
  pub whole : septets number ≡ o ++ last ∷ []

with_one : (m d : ℕ) (ds o : List ℕ) → AllBelowBase 128 ds → number_from_digits_after 128 0 ds ≡ m → o ≡ marked ds → WithoutZeros (o ++ d ∷ []) → d < 128 → o ++ d ∷ [] ≡ septets (m * 128 + d) ++ []
with_one m d ds o all w e never l =
    let n : number_from_digits_after 128 0 (ds ++ d ∷ []) ≡ m * 128 + d = number_push 128 ds d ∙ ap (λ q. q * 128 + d) w in
    let s : Septets 0 (o ++ d ∷ []) (m * 128 + d) [] = subst (λ q. Septets 0 (q ++ d ∷ []) (m * 128 + d) []) (sym e) (subst (λ q. Septets 0 (marked ds ++ d ∷ []) q []) n (digits_read ds 0 d [] all l)) in
    number_spelled (m * 128 + d) (o ++ d ∷ []) [] s never

pub completed : (m : ℕ) (o : List ℕ) → Goes 0 m o [] → m < 16777216 → WithoutZeros o → Completed o
completed m o g l never = by g.digits g.below g.worth (g.whole ∙ append-nil (marked g.digits))
  where
    by : (ds : List ℕ) → AllBelowBase 128 ds → number_from_digits_after 128 0 ds ≡ m → o ≡ marked ds → Completed o
    by [] all w e =
        let f : o ++ 31 ∷ [] ≡ 31 ∷ [] = ap (λ q. q ++ 31 ∷ []) e in
        let s = with_one m 31 [] o all w e (λ rest h. (let q = ap head_or_0 (sym f ∙ h) in omega arith)) (omega arith) in
        record { number = m * 128 + 31; last = 31; above = omega arith; below = omega arith; whole = sym (s ∙ append-nil (septets (m * 128 + 31))) }
    by (zero ∷ ds) all w e = absurd (never (marked ds) e)
    by (suc x ∷ ds) all w e =
        let some : suc x ≤ m = (let q = number_after_ge 128 (0 * 128 + suc x) ds (omega arith) in omega arith) in
        let f : o ++ 0 ∷ [] ≡ (128 + suc x) ∷ (marked ds ++ 0 ∷ []) = ap (λ q. q ++ 0 ∷ []) e in
        let s = with_one m 0 (suc x ∷ ds) o all w e (λ rest h. (let q = ap head_or_0 (sym f ∙ h) in omega arith)) (omega arith) in
        record { number = m * 128 + 0; last = 0; above = omega arith; below = omega arith; whole = sym (s ∙ append-nil (septets (m * 128 + 0))) }

pub never_true : false ≡ true → ⊥
never_true e = absurd (cc)
