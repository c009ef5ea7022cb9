-- Members at places that are a permutation have as many octets.
use Rattle.std.proofs.Common.{arith, ◌≡◌, ℕ, ◌+◌, List, length, refl, sym, length-append}
use Rattle.std.specs.List.{concat}
use Rattle.encodings.specs.Orders.{EncodingInserted, here, there, Permutes, permutes_none, permutes_more}
use Rattle.encodings.specs.Account.{ArePlacedAt}
use Rattle.encodings.specs.proving.Placing.{placing_permutes}

inserted_length : {x : List ℕ} {ys zs : List (List ℕ)} → EncodingInserted x ys zs → length (concat zs) ≡ length x + length (concat ys)
inserted_length (here {x = x} {xs = xs}) = length-append x (concat xs)
inserted_length (there {x = x} {y = y} {xs = xs} {ys = ys} i) =
    let e = inserted_length i in
    let f = length-append y (concat ys) in
    let g = length-append y (concat xs) in omega (arith, e, f, g)

permuted_length : {xs ys : List (List ℕ)} → Permutes xs ys → length (concat xs) ≡ length (concat ys)
permuted_length permutes_none = refl
permuted_length (permutes_more {x = x} {xs = xs} {ys = ys} {zs = zs} p i) =
    let e = permuted_length p in
    let f = inserted_length i in
    let g = length-append x (concat xs) in omega (arith, e, f, g)

-- members have as many octets in any order
pub standing_length : {p q : List ℕ} {xs zs : List (List ℕ)} → ArePlacedAt p q xs zs → length (concat zs) ≡ length (concat xs)
standing_length a = sym (permuted_length (placing_permutes a))
