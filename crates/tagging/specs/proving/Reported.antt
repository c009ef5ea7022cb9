-- The faults that the parts of a check return first.
use Rattle.std.specs.Prelude.{◌≡◌, ◌⊎◌, ◌<◌, ℕ, false, List, Some, map, slice_get}
use Rattle.trees.specs.declared.module.TagDefault.{TagDefault}
use Rattle.trees.specs.declared.module.TagDefault.TheVariants.{Automatic}
use Rattle.trees.specs.declared.types.ListKind.{ListKind}
use Rattle.trees.specs.declared.types.ListKind.TheVariants.{Choice, Set}
use Rattle.type_table.specs.declared.table.ListMember.{ListMember}
use Rattle.type_table.specs.declared.table.TypeNode.{TypeNode}
use Rattle.type_table.specs.Seen.{part_of}
use Rattle.type_table.specs.Table.{Part, Type'}
use Rattle.tagging.specs.declared.check.Fault.{Fault}
use Rattle.tagging.specs.declared.check.Fault.TheVariants.{Memory, At}
use Rattle.tagging.specs.declared.check.Rule.{Rule}
use Rattle.tagging.specs.declared.check.Rule.TheVariants as rules
use Rattle.tagging.specs.declared.first.FirstTagFault.{FirstTagFault}
use Rattle.tagging.specs.declared.first.FirstTagFault.TheVariants as fronts
use Rattle.tagging.specs.Tagged.{Bears, IsOverfull, IsTooGreat, IsImplicit}
use Rattle.tagging.specs.proving.Checks.{HasFew}
use Rattle.tagging.specs.FirstFault.{IsBearingAt, IsBareAt, IsBareInside, IsBareWithin, IsClashingAt, NoneInside, NoneWithin}

-- type i, which begins at the place, is tagged with the word IMPLICIT before an untagged CHOICE
abbrev pub IsImplicitFault : List Type' → ℕ → ℕ → Fault → Type 0
IsImplicitFault ts i place Memory = Unit {0}
IsImplicitFault ts i place (At rules.ImplicitChoice ty at) = (ty ≡ i) × (at ≡ place) × IsImplicit ts i
IsImplicitFault ts i place (At r ty at) = ⊥

-- an addition to list i, in an AUTOMATIC module, bears a written tag, and no member of its root does
abbrev pub IsMixedFault : List Type' → ℕ → TagDefault → List ListMember → Fault → Type 0
IsMixedFault ts i d ms Memory = Unit {0}
IsMixedFault ts i d ms (At rules.MixedAutomatic ty at) =
    (d ≡ Automatic)
    × (Bears ts (map part_of ms) false → ⊥)
    × (ty ≡ i)
    × IsBearingAt ts ms at
IsMixedFault ts i d ms (At r ty at) = ⊥

-- a member has no tag
abbrev pub IsBareFault : List Type' → List ListMember → FirstTagFault → Type 0
IsBareFault ts ms fronts.Memory = Unit {0}
IsBareFault ts ms (fronts.Untagged ty at) = IsBareAt ts ms ty at

-- a member has no tag, and the list is one whose members need tags
abbrev pub IsOwnFault : List Type' → ListKind → List ListMember → FirstTagFault → Type 0
IsOwnFault ts k ms fronts.Memory = Unit {0}
IsOwnFault ts k ms (fronts.Untagged ty at) = ((k ≡ Choice) ⊎ (k ≡ Set)) × IsBareAt ts ms ty at

-- an alternative of type i has no tag
abbrev pub IsWithinFault : List Type' → List TypeNode → ℕ → FirstTagFault → Type 0
IsWithinFault ts ws i fronts.Memory = Unit {0}
IsWithinFault ts ws i (fronts.Untagged ty at) = IsBareWithin ts ws i ty at

-- no alternative of a member before index q lacks a tag
abbrev pub NoneInsideTo : List Type' → List TypeNode → List ListMember → ℕ → Type 0
NoneInsideTo ts ws ms q = (n : ℕ) (c : Part) →
    n < q →
    slice_get (map part_of ms) n ≡ Some c →
    NoneWithin ts ws c.ty

-- an alternative of a member has no tag
abbrev pub IsInsideFault : List Type' → List TypeNode → List ListMember → FirstTagFault → Type 0
IsInsideFault ts ws ms fronts.Memory = Unit {0}
IsInsideFault ts ws ms (fronts.Untagged ty at) = IsBareInside ts ws ms ty at

-- members of list i clash, or an alternative of one has no tag
abbrev pub IsClashFault : List Type' → List TypeNode → ℕ → ListKind → List ListMember → Fault → Type 0
IsClashFault ts ws i k ms Memory = Unit {0}
IsClashFault ts ws i k ms (At rules.UntaggedChoice ty at) = IsBareInside ts ws ms ty at
IsClashFault ts ws i k ms (At rules.TagClash ty at) = NoneInside ts ws ms × (ty ≡ i) × IsClashingAt ts k ms at
IsClashFault ts ws i k ms (At r ty at) = ⊥

-- a fault of members as one of the list that they are in
abbrev pub as_fault : FirstTagFault → Fault
as_fault fronts.Memory = Memory
as_fault (fronts.Untagged ty at) = At rules.UntaggedChoice ty at

-- type i breaks a rule on how many tags are written on it, or on the number of its automatic tag
abbrev pub IsBroken : List Type' → Rule → ℕ → Type 0
IsBroken ts rules.Tags i = IsOverfull ts i
IsBroken ts rules.TagNumber i = HasFew ts i × IsTooGreat ts i
IsBroken ts r i = ⊥
