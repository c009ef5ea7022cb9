-- Septets determine their numbers, also those of an OBJECT IDENTIFIER.
use Rattle.std.proofs.Common.{arith, ◌≡◌, ℕ, zero, suc, ◌+◌, ◌*◌, ◌/◌, ◌%◌, ◌<◌, ◌≤◌, List, [], ◌∷◌, ◌++◌, length, map}
use Rattle.std.proofs.Common.{refl, sym, ap, ◌∙◌, length-append}
use Rattle.std.specs.Prelude.{flat_map}
use Rattle.std.specs.Int.Digits.{digits_of, number_from_digits}
use Rattle.std.proofs.lemmas.Int.Digits.{number_digits_of}
use Rattle.asn_base.specs.Typed.{IsObjectIdentifier, arcs}
use Rattle.encodings.specs.Contents.{joined}
use Rattle.encodings.specs.Header.{septets}
use Rattle.encodings.specs.proving.Fronts.{head_or_0, tail_of}

-- digits marked by 128, and one more that isn't
abbrev pub marked : List ℕ → ℕ → List ℕ
marked [] d = d ∷ []
marked (e ∷ ds) d = (128 + e) ∷ marked ds d

pub marked_is : (ds : List ℕ) (d : ℕ) → map (λ e. 128 + e) ds ++ (d ∷ []) ≡ marked ds d
marked_is [] d = refl
marked_is (e ∷ ds) d = ap (λ q. (128 + e) ∷ q) (marked_is ds d)

record SameMarked (ds es : List ℕ) (d e : ℕ) (x y : List ℕ) : Type 0 where
  digits : ds ≡ es
  last : d ≡ e
  rest : x ≡ y

marked_front : (ds es : List ℕ) (d e : ℕ) (x y : List ℕ) → d < 128 → e < 128 → marked ds d ++ x ≡ marked es e ++ y
    → SameMarked ds es d e x y
marked_front [] [] d e x y h k f = record { digits = refl; last = ap head_or_0 f; rest = ap tail_of f }
marked_front [] (b ∷ es) d e x y h k f = let g : d ≡ 128 + b = ap head_or_0 f in absurd (omega arith)
marked_front (a ∷ ds) [] d e x y h k f = let g : 128 + a ≡ e = ap head_or_0 f in absurd (omega arith)
marked_front (a ∷ ds) (b ∷ es) d e x y h k f =
    let r = marked_front ds es d e x y h k (ap tail_of f) in
    let g : 128 + a ≡ 128 + b = ap head_or_0 f in
    let same : a ≡ b = omega arith in
    record { digits = (let t = r.digits in cc); last = r.last; rest = r.rest }

-- septets determine their number, and none begins others
pub septets_front : (m n : ℕ) (x y : List ℕ) → septets m ++ x ≡ septets n ++ y → (m ≡ n) × (x ≡ y)
septets_front m n x y e =
    let f : marked (digits_of 128 (m / 128)) (m % 128) ++ x ≡ marked (digits_of 128 (n / 128)) (n % 128) ++ y
    = ap (λ q. q ++ x) (sym (marked_is (digits_of 128 (m / 128)) (m % 128))) ∙ e ∙ ap (λ q. q ++ y)
    (marked_is (digits_of 128 (n / 128)) (n % 128)) in
    let r = marked_front (digits_of 128 (m / 128)) (digits_of 128 (n / 128)) (m % 128) (n % 128) x y (omega arith)
    (omega arith) f in
    let high : m / 128 ≡ n / 128 = sym (number_digits_of 128 (m / 128) (omega arith)) ∙ ap (number_from_digits 128)
    r.digits ∙ number_digits_of 128 (n / 128) (omega arith) in
    let low = r.last in
    (omega arith, r.rest)

pub septets_some : (n : ℕ) → 1 ≤ length (septets n)
septets_some n = omega (arith, length-append (map (λ d. 128 + d) (digits_of 128 (n / 128))) ((n % 128) ∷ []))

not_none : (n : ℕ) (ns : List ℕ) → [] ≡ flat_map septets (n ∷ ns) → ⊥
not_none n ns e =
    let l = ap length e in
    omega (arith, l, septets_some n, length-append (septets n) (flat_map septets ns))

pub septet_lists : (ms ns : List ℕ) → flat_map septets ms ≡ flat_map septets ns → ms ≡ ns
septet_lists [] [] e = refl
septet_lists [] (n ∷ ns) e = absurd (not_none n ns e)
septet_lists (m ∷ ms) [] e = absurd (not_none m ms (sym e))
septet_lists (m ∷ ms) (n ∷ ns) e =
    let r = septets_front m n (flat_map septets ms) (flat_map septets ns) e in
    let h : m ≡ n = r.0 in
    let t : ms ≡ ns = septet_lists ms ns r.1 in
    cc

pub arcs_value : {ms ns : List ℕ} → IsObjectIdentifier ms → IsObjectIdentifier ns → joined ms ≡ joined ns → ms ≡ ns
arcs_value (arcs {x = x} {y = y} {zs = zs} a b c d f) (arcs {x = x'} {y = y'} {zs = zs'} a' b' c' d' f') e =
    let h : 40 * x + y ≡ 40 * x' + y' = ap head_or_0 e in
    let t : zs ≡ zs' = ap tail_of e in
    let s : x ≡ x' = first_arc x x' y y' a a' b b' h in
    let u : y ≡ y' = omega arith in
    cc
  where
    first_arc : (x x' y y' : ℕ) → x ≤ 2 → x' ≤ 2 → (x < 2 → y < 40) → (x' < 2 → y' < 40)
        → 40 * x + y ≡ 40 * x' + y' → x ≡ x'
    first_arc zero zero y y' a a' b b' h = refl
    first_arc zero (suc x') y y' a a' b b' h = let l : y < 40 = b (omega arith) in absurd (omega arith)
    first_arc (suc zero) zero y y' a a' b b' h = let l : y' < 40 = b' (omega arith) in absurd (omega arith)
    first_arc (suc zero) (suc zero) y y' a a' b b' h = refl
    first_arc (suc zero) (suc (suc x')) y y' a a' b b' h = let l : y < 40 = b (omega arith) in absurd (omega arith)
    first_arc (suc (suc x)) zero y y' a a' b b' h = let l : y' < 40 = b' (omega arith) in absurd (omega arith)
    first_arc (suc (suc x)) (suc zero) y y' a a' b b' h = let l : y' < 40 = b' (omega arith) in absurd (omega arith)
    first_arc (suc (suc x)) (suc (suc x')) y y' a a' b b' h = omega arith
