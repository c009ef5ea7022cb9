-- Members that are of a group, and components of it that are absent.
use Rattle.std.proofs.Common.{◌≡◌, ℕ, ◌⊎◌, false, List, [], ◌∷◌}
use Rattle.std.specs.Prelude.{Some}
use Rattle.asn_base.specs.Abstract.{AbstractValue}
use Rattle.asn_base.specs.Types.{addition}
use Rattle.asn_base.specs.Typed.{IsOfGroup}
use Rattle.packed_encodings.specs.Orders.{Member, missing, standing}

abbrev pub HasOf : ℕ → List (Member AbstractValue) → Type 0
HasOf g [] = ⊥
HasOf g (missing c ∷ ms) = HasOf g ms
HasOf g (standing c w ∷ ms) = IsOfGroup g c ⊎ HasOf g ms

abbrev pub LacksOf : ℕ → List (Member AbstractValue) → Type 0
LacksOf g [] = ⊥
LacksOf g (missing c ∷ ms) = (c.presence ≡ addition false (Some g)) ⊎ LacksOf g ms
LacksOf g (standing c w ∷ ms) = LacksOf g ms
