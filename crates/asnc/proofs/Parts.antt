-- The path of parts of a value, part by part.
use Rattle.std.proofs.Common.{arith, ◌≡◌, ℕ, zero, suc, ◌+◌, List, [], ◌∷◌, Some, sym, ap, ◌∙◌}
use Rattle.std.specs.Prelude.{drop, slice_get}
use Rattle.asn_base.specs.Types.{Resolved}
use Rattle.packed_reader.specs.declared.part.Part.{Part}
use Rattle.asnc.specs.ErrorSites.{with_part}
use Rattle.asnc.specs.Unpacking.{part_of, type_in, with_parts}
use Rattle.asnc.proofs.Paths.{drop_here}

-- one part more is told
pub one_part_more : (s : List Resolved) (xs : List Part) (i : ℕ) (x : Part) (t u : ℕ) (p q z : List ℕ)
    → slice_get xs i ≡ Some x
    → q ≡ with_part s t p (part_of x)
    → u ≡ type_in s t (part_of x)
    → with_parts s t p (drop i xs) ≡ z
    → with_parts s u q (drop (i + 1) xs) ≡ z
one_part_more s xs i x t u p q z e a b h =
    ap (λ y. with_parts s u y (drop (i + 1) xs)) a
    ∙ ap (λ y. with_parts s y (with_part s t p (part_of x)) (drop (i + 1) xs)) b
    ∙ ap (with_parts s t p) (sym (drop_here xs i x e)) ∙ h
