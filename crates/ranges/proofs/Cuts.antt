-- Lists of ranges that are taken one after the other.
use Rattle.std.proofs.Common.{◌≡◌, ◌∙◌, ap, refl, sym, arith, ℕ, suc, ◌+◌, ◌<◌, length, take, map}
use Rattle.std.specs.Prelude.{◌++◌, [], ◌∷◌, List, slice_index_or}
use Rattle.std.proofs.lemmas.List.{append_assoc, append-nil, map-append}
use Rattle.std.proofs.Math.Seq.{take-suc}
use Rattle.asn_base.specs.declared.constraint.Range.{Range as Range'}
use Rattle.asn_base.specs.Types.{Range}
use Rattle.asn_base.specs.Seen.{range_of}
use Rattle.ranges.specs.proving.Trees.{within, within_each}

within_each_append : (rs ss xs : List Range) → within_each (rs ++ ss) xs ≡ within_each rs xs ++ within_each ss xs
unfolding within_each
within_each_append [] ss xs = refl
within_each_append (r ∷ rs) ss xs =
    ap (λ zs. within r xs ++ zs) (within_each_append rs ss xs)
    ∙ sym (append_assoc (within r xs) (within_each rs xs) (within_each ss xs))

-- one more range is taken
pub more : (os : List Range') (i : ℕ) (d : Range') (xs : List Range)
    → i < length os
    → within_each (map range_of (take i os)) xs ++ within (range_of (slice_index_or os i d)) xs
    ≡ within_each (map range_of (take (i + 1) os)) xs
unfolding within_each
more os i d xs h =
    let r = range_of (slice_index_or os i d) in
    let t : map range_of (take (i + 1) os) ≡ map range_of (take i os) ++ (r ∷ []) =
    ap (map range_of) (let q : i + 1 ≡ suc i = omega arith in rw q (take-suc os i d h))
    ∙ map-append range_of (take i os) (slice_index_or os i d ∷ []) in
    rw (t, within_each_append (map range_of (take i os)) (r ∷ []) xs, append-nil (within r xs)) refl

pub none : (os : List Range') (xs : List Range) → [] ≡ within_each (map range_of (take 0 os)) xs
unfolding within_each
none os xs = refl
