-- Lists and sets of numbers within the limit.
use Rattle.std.proofs.Common.{inl, inr, ◌++◌, List, [], ◌∷◌, subst}
use Rattle.std.specs.Prelude.{ℤ}
use Rattle.asn_base.specs.Typed.{IsWithinLimit}
use Rattle.names.specs.proving.Distinct.{either, occurs_once}
use Rattle.type_table.specs.Lists.{AreWithinLimit}
use Rattle.type_table.specs.proving.Sets.{Puts}

-- one number more
pub within_more : (zs : List ℤ) (y : ℤ) → AreWithinLimit zs → IsWithinLimit y → AreWithinLimit (zs ++ y ∷ [])
within_more zs y w l i z e = elim (either zs (y ∷ []) i z e) [
  | inl f ↦ w i z f
  | inr r ↦ subst IsWithinLimit (occurs_once y z (r.0, r.2)) l
]

pub within_puts : (old new : List ℤ) (y : ℤ) → Puts old new y → AreWithinLimit old → IsWithinLimit y →
    AreWithinLimit new
within_puts old new y p w l i z e = elim ((p z).0 (i, e)) [
  | inl s ↦ w s.0 z s.1
  | inr q ↦ subst IsWithinLimit q l
]
