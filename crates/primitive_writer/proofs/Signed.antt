-- A negative number and the number of its octets turned.
use Rattle.std.proofs.Common.{◌≡◌, ℕ, ℤ, pos, negsuc, true, List, map, ap, subst, arith}
use Rattle.std.proofs.lemmas.Int.{to_z-of_z, ints}
use lib.IntN.{◌-ℤ◌, nat_abs}
use lib.Signed.{lt_z}
use mir.Syntax.{w128}
use mir.Val.{SFits, to_z, of_z}
use Rattle.encodings.specs.Contents.{Number}
use Rattle.encodings.specs.proving.TwosComplement.{turned, complement}

minus : (m : ℕ) → SFits w128 (negsuc m) → nat_abs (to_z w128 (of_z w128 (negsuc 0 -ℤ negsuc m))) ≡ m
minus m f = let e : to_z w128 (of_z w128 (negsuc 0 -ℤ negsuc m)) ≡ pos m = omega (arith, ints) in ap nat_abs e

by_sign : (z : ℤ) (o : List ℕ) → SFits w128 z → lt_z z (pos 0) ≡ true → Number (pos (nat_abs (to_z w128 (of_z w128 (negsuc 0 -ℤ z))))) o → Number z (map complement o)
by_sign (pos n) o f e h = absurd (grind (arith, ints))
by_sign (negsuc m) o f e h = turned m o (subst (λ k. Number (pos k) o) (minus m f) h)

pub negative_number : (z : ℤ) (o : List ℕ) → SFits w128 z → lt_z (to_z w128 (of_z w128 z)) (pos 0) ≡ true → Number (pos (nat_abs (to_z w128 (of_z w128 (negsuc 0 -ℤ to_z w128 (of_z w128 z)))))) o → Number z (map complement o)
negative_number z o f e h =
    let same = to_z-of_z w128 z f in
    by_sign z o f (subst (λ y. lt_z y (pos 0) ≡ true) same e) (subst (λ y. Number (pos (nat_abs (to_z w128 (of_z w128 (negsuc 0 -ℤ y))))) o) same h)
