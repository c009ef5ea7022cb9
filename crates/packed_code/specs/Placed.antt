-- Components with their places, without their addresses in memory.
use Rattle.std.specs.Prelude.{ℕ, List}
use Rattle.std.specs.List.{AllByRecursion}
use Rattle.asn_base.specs.Schemas.{HasTag}
use Rattle.asn_base.specs.Seen.{component_of}
use Rattle.asn_base.specs.Types.{Resolved}
use Rattle.packed_encodings.specs.Orders.{Member, component, standing}
use Rattle.packed_code.specs.declared.field.Placed.{Placed}

abbrev pub placed_of : Placed → Member ℕ
placed_of p = standing (component_of p.component.now) p.place

-- the type of each component has a tag
abbrev pub AreTagged : List Resolved → List (Member ℕ) → Type 0
AreTagged s = AllByRecursion (λ m. HasTag s (component m).type)
