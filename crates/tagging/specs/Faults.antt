-- What faults of tags say of linked modules (X.680, clauses 25, 27, 29 and 31): program p has the written types
-- p.types. Names are lists of octets.
use Rattle.std.specs.Prelude.{◌≡◌, ℕ, List, Some, slice_get}
use Rattle.trees.specs.declared.location.SourceLocation.{SourceLocation}
use Rattle.type_table.specs.Table.{Type'}
use Rattle.names.specs.Faults.{fault_module, fault_name}
use Rattle.resolve.specs.Program.{Program, IsAssignment}
use Rattle.tagging.specs.declared.fault.TagFault.{TagFault}
use Rattle.tagging.specs.declared.fault.TagFault.TheVariants.{Memory, Limit, TagClash, ImplicitChoice, UntaggedChoice, MixedAutomatic}
use Rattle.tagging.specs.declared.fault.Limit.TheVariants.{Tags, TagNumber}
use Rattle.tagging.specs.Tagged.{IsOverfull, IsTooGreat, HasClash, IsImplicit, IsUntagged, IsMixed}

-- type i is written in the assignment of name x in module M
pub record IsWrittenIn (p : Program) (i : ℕ) (M x : List ℕ) : Type 0 where
  pub type : Type'
  pub found : slice_get p.types i ≡ Some type
  pub assigned : IsAssignment p type.assignment M x

-- a type with property P is written in the module and the assignment that the spot names
pub record Somewhere (p : Program) (P : ℕ → Type 0) (s : SourceLocation) : Type 0 where
  pub ty : ℕ
  pub has : P ty
  pub is_so : IsWrittenIn p ty (fault_module s) (fault_name s)

-- the fault is one of this program: a type in the module and the assignment that it names has that fault. `Memory` says
-- nothing
abbrev pub IsRightTagFault : Program → TagFault → Type 0
IsRightTagFault p Memory = Unit {0}
IsRightTagFault p (Limit Tags s) = Somewhere p (IsOverfull p.types) s
IsRightTagFault p (Limit TagNumber s) = Somewhere p (IsTooGreat p.types) s
IsRightTagFault p (TagClash s) = Somewhere p (HasClash p.types) s
IsRightTagFault p (ImplicitChoice s) = Somewhere p (IsImplicit p.types) s
IsRightTagFault p (UntaggedChoice s) = Somewhere p (IsUntagged p.types) s
IsRightTagFault p (MixedAutomatic s) = Somewhere p (IsMixed p.types) s
