-- Code points in at least four digits.
use Rattle.std.proofs.Common.{◌≡◌, ℕ, ◌-◌, false, List, [], ◌++◌, length, replicate, arith, ap, ◌∙◌, subst}
use Rattle.std.proofs.Common.{Option, Some, Result, Ok, Err, IfOk, IfSome, String, string_bytes}
use Rattle.std.specs.Fmt.{char_count, format_spec, padded_integral}
use Rattle.std.proofs.lemmas.List.{append-nil}

pub four : (d : List ℕ)
    → padded_integral (format_spec 32 0 4 4 18446744073709551615) false [] d ≡ replicate (4 - length d) 48 ++ d
unfolding padded_integral char_count
four d =
    let e : 4 - length d - 0 - 0 ≡ 4 - length d = omega arith in
    ap (λ n. replicate n 48 ++ (d ++ [])) e ∙ ap (λ t. replicate (4 - length d) 48 ++ t) (append-nil d)

pub written : {Z E : Type 0} (r : Result (String Z) E) (o : Option (List ℕ)) (t : List ℕ)
    → IfOk r (λ s. IfSome o (λ b. string_bytes s ≡ b))
    → o ≡ Some t
    → IfOk r (λ s. string_bytes s ≡ t)
written (Ok s) o t h e =
    let q : IfSome (Some t) (λ b. string_bytes s ≡ b) = subst (λ p. IfSome p (λ b. string_bytes s ≡ b)) e h in q
written (Err e) o t h q = tt
