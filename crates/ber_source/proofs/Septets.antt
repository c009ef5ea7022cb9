-- Numbers of one septet.
use Rattle.std.proofs.Common.{◌≡◌, ℕ, ◌+◌, ◌/◌, ◌%◌, ◌<◌, List, [], ◌∷◌, ◌++◌, map, refl, sym, ap, ◌∙◌, arith}
use Rattle.std.specs.Prelude.{Some}
use Rattle.std.specs.Int.Digits.{digits_of}
use Rattle.encodings.specs.Header.{septets}
use Rattle.primitive_reader.specs.Arcs.{Front}

one_septet : (n : ℕ) → n < 128 → septets n ≡ n ∷ []
one_septet n h =
    let e : n / 128 ≡ 0 = omega arith in
    let f : n % 128 ≡ n = omega arith in
    ap (λ k. map (λ d. 128 + d) (digits_of 128 k) ++ ((n % 128) ∷ [])) e ∙ ap (λ k. k ∷ []) f

-- an octet below 128 is a number
pub one_front : (x : ℕ) (o rest : List ℕ) → o ≡ x ∷ rest → x < 128 → Front (Some x) rest o
one_front x o rest e h = record { number = x; is_arc = refl; whole = e ∙ ap (λ q. q ++ rest) (sym (one_septet x h)) }
