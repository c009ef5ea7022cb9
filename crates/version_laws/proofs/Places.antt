-- Members by their places, and what is kept of none.
use Rattle.std.proofs.Common.{◌≡◌, ℕ, zero, suc, List, [], ◌∷◌, refl, ap}
use Rattle.std.specs.Prelude.{slice_get, get_or, Some, length}
use Rattle.asn_base.specs.Abstract.{Row, end, absent, present}
use Rattle.asn_base.specs.Types.{Resolved}
use Rattle.later_versions.specs.Projected.{members_of, member_of, projected_row}
use Rattle.version_laws.proofs.Apart.{nothing}

pub element_at : (s : List Resolved) (t u : ℕ) → members_of s t ≡ u ∷ [] → member_of s t 0 ≡ u
element_at s t u e = ap (λ q. get_or q 0 (length s)) e

got : (d : ℕ) {u : ℕ} (xs : List ℕ) (i : ℕ) → slice_get xs i ≡ Some u → get_or xs i d ≡ u
got d [] i e = absurd (nothing e)
got d (x ∷ xs) zero e = cc
got d (x ∷ xs) (suc i) e = got d xs i e

pub member_at : (s : List Resolved) (t i u : ℕ) → slice_get (members_of s t) i ≡ Some u → member_of s t i ≡ u
member_at s t i u e = got (length s) (members_of s t) i e

pub kept_none : (s : List Resolved) (ws : Row) → projected_row s [] ws ≡ end
kept_none s end = refl
kept_none s (absent ws) = refl
kept_none s (present w ws) = refl
