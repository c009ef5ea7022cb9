-- Additions that come together in a group.
use Rattle.std.specs.Prelude.{ℕ, suc, Bool, false, ◌==◌, None, Some, if◌then◌else◌, List, [], ◌∷◌}
use Rattle.asn_base.specs.Types.{Component}
use Rattle.asn_base.specs.Typed.{group_of}
use Rattle.packed_encodings.specs.Orders.{Member, component}

abbrev pub is_member : ℕ → Component → Bool
is_member g c = elim (group_of c.presence) [ None ↦ false | Some h ↦ g == h ]

-- how many of these members, from the first on, are of the group
abbrev pub run : {X : Type 0} → ℕ → List (Member X) → ℕ
run g [] = 0
run g (m ∷ ms) = if is_member g (component m) then suc (run g ms) else 0
