-- Numbers of one septet.
use Rattle.std.proofs.Common.{◌≡◌, ℕ, ◌+◌, ◌/◌, ◌%◌, ◌<◌, true, List, [], ◌∷◌, ◌++◌, length, map, refl, sym, ap, ◌∙◌, arith}
use Rattle.std.specs.Prelude.{Some, flat_map}
use Rattle.std.specs.List.{AllByRecursion}
use Rattle.std.specs.Int.Digits.{digits_of}
use Rattle.std.proofs.lemmas.List.{append-nil}
use Rattle.encodings.specs.Header.{septets}
use Rattle.primitive_reader.specs.Arcs.{Front}
use Rattle.primitive_reader.specs.proving.Spelled.{AreSmall, Counted}

one_septet : (n : ℕ) → n < 128 → septets n ≡ n ∷ []
one_septet n h =
    let e : n / 128 ≡ 0 = omega arith in
    let f : n % 128 ≡ n = omega arith in
    ap (λ k. map (λ d. 128 + d) (digits_of 128 k) ++ ((n % 128) ∷ [])) e ∙ ap (λ k. k ∷ []) f

pub one_front : (x : ℕ) (o rest : List ℕ) → o ≡ x ∷ rest → x < 128 → Front (Some x) rest o
one_front x o rest e h = record { number = x; is_arc = refl; whole = e ∙ ap (λ q. q ++ rest) (sym (one_septet x h)) }

-- ---- several numbers of one septet each

each_single : (o : List ℕ) → AllByRecursion (λ d. d < 128) o → o ≡ flat_map septets o
each_single [] a = refl
each_single (x ∷ o) a = ap (λ q. x ∷ q) (each_single o a.1) ∙ ap (λ q. q ++ flat_map septets o) (sym (one_septet x a.0))

each_small : (o : List ℕ) → AllByRecursion (λ d. d < 128) o → AreSmall o
each_small [] a = tt
each_small (x ∷ o) a = (let l : x < 128 = a.0 in omega (arith, l), each_small o a.1)

pub single_counted : (o : List ℕ) → AllByRecursion (λ d. d < 128) o → Counted (length o) true [] o
single_counted o a = record { numbers = o; as_many = refl; judged = each_small o a; whole = each_single o a ∙ sym (append-nil (flat_map septets o)) }
