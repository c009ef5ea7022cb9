-- The places of octets in an alphabet, as a list.
use Rattle.std.proofs.Common.{arith, ◌≡◌, ℕ, ◌+◌, ◌<◌, List, length, drop, get_or, ap, ◌∙◌}
use Rattle.std.specs.Prelude.{replicate}
use Rattle.std.proofs.Math.Seq.{drop-length}
use Rattle.std.proofs.lemmas.List.{get_or-replicate}
use Rattle.packed_encodings.specs.Computed.{code_place}

-- before any code is looked at, no octet has a place
pub no_places : (codes : List ℕ) (n at c : ℕ) → at ≡ length codes → c < n
    → get_or (replicate n at) c 0 ≡ at + code_place (drop at codes) c
no_places codes n at c e l =
    let none : code_place (drop at codes) c ≡ 0 = ap (λ q. code_place (drop q codes) c) e ∙ ap (λ q. code_place q c) (drop-length codes) in
    let same : get_or (replicate n at) c 0 ≡ at = get_or-replicate n c at 0 l in
    omega (arith, none, same)
