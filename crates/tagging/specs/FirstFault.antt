-- Which of several faults of tags is reported, and where in the text (X.680, clauses 25, 27, 29 and 31). It is that of
-- the first type, by its number, that breaks a rule. The rules are checked for a type in this order: how many tags are
-- written on it, the number of its automatic tag, and the word IMPLICIT. For a list: its automatic tags, its members
-- that need a tag, their alternatives that need one, and whether first tags differ. There is at most one first fault.
use Rattle.std.specs.Prelude.{◌≡◌, ◌⊎◌, ◌<◌, ℕ, true, false, List, [], Some, map, slice_get}
use Rattle.trees.specs.declared.location.SourceLocation.{SourceLocation}
use Rattle.trees.specs.declared.module.TagDefault.{TagDefault}
use Rattle.trees.specs.declared.module.TagDefault.TheVariants.{Automatic}
use Rattle.trees.specs.declared.types.ListKind.{ListKind}
use Rattle.trees.specs.declared.types.ListKind.TheVariants.{Choice, Set}
use Rattle.type_table.specs.declared.table.ListMember.{ListMember}
use Rattle.type_table.specs.declared.table.Shape.{Shape}
use Rattle.type_table.specs.declared.table.Shape.TheVariants as shapes
use Rattle.type_table.specs.declared.table.TypeNode.{TypeNode}
use Rattle.type_table.specs.Seen.{part_of, types_of}
use Rattle.type_table.specs.Table.{Part, Type', IsUnderlying}
use Rattle.names.specs.Faults.{fault_module, fault_name}
use Rattle.resolve.specs.Program.{Program}
use Rattle.tagging.specs.declared.check.Fault.{Fault}
use Rattle.tagging.specs.declared.check.Fault.TheVariants.{Memory, At}
use Rattle.tagging.specs.declared.check.Rule.{Rule}
use Rattle.tagging.specs.declared.check.Rule.TheVariants as rules
use Rattle.tagging.specs.declared.fault.TagFault.{TagFault}
use Rattle.tagging.specs.declared.fault.TagFault.TheVariants as faults
use Rattle.tagging.specs.declared.fault.Limit.TheVariants as limits
use Rattle.tagging.specs.Tags.{Tags}
use Rattle.tagging.specs.Tagged.{Bears, BearTags, IsOverfull, IsTooGreat, IsImplicit, Clash}
use Rattle.tagging.specs.Faults.{IsWrittenIn}
use Rattle.tagging.specs.proving.Checks.{BearsHere, HasFew, IsNumbered, SuitsAutomatic, IsGood}

-- ---- members of a list, each reported where its name is written

-- the first addition that bears a tag which is written in the list
pub record IsBearingAt (ts : List Type') (ms : List ListMember) (at : ℕ) : Type 0 where
  pub number : ℕ
  pub member : ListMember
  pub there : slice_get ms number ≡ Some member
  pub reported : at ≡ member.name.at
  pub bears : BearsHere ts (part_of member) true
  pub before : (n : ℕ) (c : Part) → n < number → slice_get (map part_of ms) n ≡ Some c → BearsHere ts c true → ⊥

-- the first member that is an untagged CHOICE, which is type ty
pub record IsBareAt (ts : List Type') (ms : List ListMember) (ty at : ℕ) : Type 0 where
  pub number : ℕ
  pub member : ListMember
  pub there : slice_get ms number ≡ Some member
  pub reported : at ≡ member.name.at
  pub is : member.ty ≡ ty
  pub untagged : Tags ts ty []
  pub before : (n : ℕ) (c : Part) → n < number → slice_get (map part_of ms) n ≡ Some c → Tags ts c.ty [] → ⊥

-- the first member that can begin with a tag with which an earlier member can begin too, if either can come next
pub record IsClashingAt (ts : List Type') (k : ListKind) (ms : List ListMember) (at : ℕ) : Type 0 where
  pub number : ℕ
  pub member : ListMember
  pub there : slice_get ms number ≡ Some member
  pub reported : at ≡ member.name.at
  pub earlier : ℕ
  pub clash : Clash ts k (map part_of ms) earlier number
  pub before : (m n : ℕ) → n < number → Clash ts k (map part_of ms) m n → ⊥

-- the members that a list is written with; other types have none
abbrev pub written_members : Shape → List ListMember
written_members (shapes.Members k m ms) = ms.items
written_members s = []

-- type i is an untagged CHOICE, through references, of which type ty is the first alternative that is one too
pub record IsBareWithin (ts : List Type') (ws : List TypeNode) (i ty at : ℕ) : Type 0 where
  pub untagged : Tags ts i []
  pub choice : ℕ
  pub leads : IsUnderlying ts i choice
  pub written : TypeNode
  pub there : slice_get ws choice ≡ Some written
  pub bare : IsBareAt ts (written_members written.shape) ty at

-- type i is no untagged CHOICE with an alternative that is one too
abbrev pub NoneWithin : List Type' → List TypeNode → ℕ → Type 0
NoneWithin ts ws i = (ty at : ℕ) → IsBareWithin ts ws i ty at → ⊥

-- no member is an untagged CHOICE with an alternative that is one too
abbrev pub NoneInside : List Type' → List TypeNode → List ListMember → Type 0
NoneInside ts ws ms = (n : ℕ) (c : Part) → slice_get (map part_of ms) n ≡ Some c → NoneWithin ts ws c.ty

-- the first member that is an untagged CHOICE with an alternative that is one too, which is type ty: it is reported
-- where the name of that alternative is written
pub record IsBareInside (ts : List Type') (ws : List TypeNode) (ms : List ListMember) (ty at : ℕ) : Type 0 where
  pub number : ℕ
  pub member : ListMember
  pub there : slice_get ms number ≡ Some member
  pub within : IsBareWithin ts ws member.ty ty at
  pub before : (n : ℕ) (c : Part) (other place : ℕ) →
      n < number →
      slice_get (map part_of ms) n ≡ Some c →
      IsBareWithin ts ws c.ty other place → ⊥

-- In a SET or a CHOICE the first member without a tag is reported. In a SEQUENCE, whose components need none, it is the
-- first untagged alternative of the first component that has one.
pub data IsUntaggedAt (ts : List Type') (ws : List TypeNode) (k : ListKind) (ms : List ListMember) (ty at : ℕ) :
    Type 0 where
  own : (k ≡ Choice) ⊎ (k ≡ Set) → IsBareAt ts ms ty at → IsUntaggedAt ts ws k ms ty at
  inner : BearTags ts k (map part_of ms) → IsBareInside ts ws ms ty at → IsUntaggedAt ts ws k ms ty at

-- ---- types

-- The first fault of list i of kind k, in a module with this tag default. A list is mixed in an AUTOMATIC module alone,
-- and only if its root bears no tag. Members clash only if none of them is reported for an alternative without a tag.
abbrev pub IsListFault : List Type' → List TypeNode → ℕ → ListKind → TagDefault → List ListMember → Fault → Type 0
IsListFault ts ws i k d ms Memory = Unit {0}
IsListFault ts ws i k d ms (At rules.MixedAutomatic ty at) =
    (d ≡ Automatic)
    × (Bears ts (map part_of ms) false → ⊥)
    × (ty ≡ i)
    × IsBearingAt ts ms at
IsListFault ts ws i k d ms (At rules.UntaggedChoice ty at) =
    SuitsAutomatic ts (map part_of ms) d × IsUntaggedAt ts ws k ms ty at
IsListFault ts ws i k d ms (At rules.TagClash ty at) =
    SuitsAutomatic ts (map part_of ms) d
    × BearTags ts k (map part_of ms)
    × NoneInside ts ws ms
    × (ty ≡ i)
    × IsClashingAt ts k ms at
IsListFault ts ws i k d ms (At r ty at) = ⊥

-- the first fault of type i that its shape can have
abbrev pub IsShapeFault : List Type' → List TypeNode → ℕ → ℕ → TagDefault → Shape → Fault → Type 0
IsShapeFault ts ws i place d (shapes.Members k m ms) e = IsListFault ts ws i k d ms.items e
IsShapeFault ts ws i place d (shapes.Tagged t w j) Memory = Unit {0}
IsShapeFault ts ws i place d (shapes.Tagged t w j) (At rules.ImplicitChoice ty at) =
    (ty ≡ i) × (at ≡ place) × IsImplicit ts i
IsShapeFault ts ws i place d s e = ⊥

-- the first fault of type i, which is written so: a rule broken by the type as a whole is reported where the type
-- begins
abbrev pub IsTypeBreach : List Type' → List TypeNode → ℕ → TypeNode → Fault → Type 0
IsTypeBreach ts ws i w Memory = Unit {0}
IsTypeBreach ts ws i w (At rules.Tags ty at) = (ty ≡ i) × (at ≡ w.at) × IsOverfull ts i
IsTypeBreach ts ws i w (At rules.TagNumber ty at) = (ty ≡ i) × (at ≡ w.at) × HasFew ts i × IsTooGreat ts i
IsTypeBreach ts ws i w (At r ty at) =
    HasFew ts i × IsNumbered ts i × IsShapeFault ts ws i w.at w.default w.shape (At r ty at)

-- type i breaks no rule, and no member of it is an untagged CHOICE with an alternative that is one too
pub record IsFaultless (ts : List Type') (ws : List TypeNode) (i : ℕ) : Type 0 where
  pub good : IsGood ts i
  pub inside : (w : TypeNode) → slice_get ws i ≡ Some w → NoneInside ts ws (written_members w.shape)

-- the first fault of these written types: no type before that one has a fault
pub record IsFirstBreach (ts : List Type') (ws : List TypeNode) (r : Rule) (ty at : ℕ) : Type 0 where
  pub number : ℕ
  pub written : TypeNode
  pub there : slice_get ws number ≡ Some written
  pub fault : IsTypeBreach ts ws number written (At r ty at)
  pub before : (i : ℕ) → i < number → IsFaultless ts ws i

abbrev pub IsFirstOf : List Type' → List TypeNode → Fault → Type 0
IsFirstOf ts ws Memory = Unit {0}
IsFirstOf ts ws (At r ty at) = IsFirstBreach ts ws r ty at

-- ---- faults by name

-- the first fault is at this spot, reported with the module and the assignment in which its type is written
pub record IsFirstTagFaultAt (p : Program) (ws : List TypeNode) (r : Rule) (s : SourceLocation) : Type 0 where
  pub ty : ℕ
  pub first : IsFirstBreach p.types ws r ty s.at
  pub is_so : IsWrittenIn p ty (fault_module s) (fault_name s)

-- this fault of program p, whose types are written so, is the first one; `Memory` says nothing
abbrev pub IsFirstTagFault : Program → List TypeNode → TagFault → Type 0
IsFirstTagFault p ws faults.Memory = Unit {0}
IsFirstTagFault p ws (faults.Limit limits.Tags s) = IsFirstTagFaultAt p ws rules.Tags s
IsFirstTagFault p ws (faults.Limit limits.TagNumber s) = IsFirstTagFaultAt p ws rules.TagNumber s
IsFirstTagFault p ws (faults.TagClash s) = IsFirstTagFaultAt p ws rules.TagClash s
IsFirstTagFault p ws (faults.ImplicitChoice s) = IsFirstTagFaultAt p ws rules.ImplicitChoice s
IsFirstTagFault p ws (faults.UntaggedChoice s) = IsFirstTagFaultAt p ws rules.UntaggedChoice s
IsFirstTagFault p ws (faults.MixedAutomatic s) = IsFirstTagFaultAt p ws rules.MixedAutomatic s

-- ---- one fault

-- both faults report the same rule, with spots of which P holds; `Memory` says nothing
abbrev pub ReportOneRule : (SourceLocation → SourceLocation → Type 0) → TagFault → TagFault → Type 0
ReportOneRule P faults.Memory f = Unit {0}
ReportOneRule P e faults.Memory = Unit {0}
ReportOneRule P (faults.Limit l s) (faults.Limit k t) = (l ≡ k) × P s t
ReportOneRule P (faults.TagClash s) (faults.TagClash t) = P s t
ReportOneRule P (faults.ImplicitChoice s) (faults.ImplicitChoice t) = P s t
ReportOneRule P (faults.UntaggedChoice s) (faults.UntaggedChoice t) = P s t
ReportOneRule P (faults.MixedAutomatic s) (faults.MixedAutomatic t) = P s t
ReportOneRule P e f = ⊥
