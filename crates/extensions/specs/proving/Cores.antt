-- The results of resolving the parts of a type.
use Rattle.std.specs.Prelude.{◌≡◌, ◌<◌, ℕ, Bool, true, false, List, [], ◌∷◌, Option, Some, None, slice_get}
use Rattle.asn_base.specs.Abstract.{AbstractValue}
use Rattle.asn_base.specs.Types as types
use Rattle.trees.specs.Values.{Name, Tree}
use Rattle.trees.specs.Types.{PresenceTree, mandatory, optional, default}
use Rattle.type_table.specs.Table.{WrittenKind, Part, Type', IsUnderlying}
use Rattle.resolve.specs.Program.{Program, IsAssignment}
use Rattle.tagging.specs.declared.path.TagForm.{TagForm}
use Rattle.tagging.specs.declared.path.TagForm.TheVariants.{Implicit, Explicit}
use Rattle.tagging.specs.Tags.{Label, Path}
use Rattle.range_ends.specs.Ends.{IsTypeOfKind}
use Rattle.constraints.specs.Allowed.{LeaveTheSame}
use Rattle.settled.specs.values.Allowing.{Allows, AllowsCode}
use Rattle.settled.specs.schema_of.SchemaOf.{IsKindOf}
use Rattle.settled.specs.additions.Additions.{IsAdded, has_default}
use Rattle.settled.specs.Settled.{IsConstrained, ItemsAscend, standing, without_first}

-- ---- tags

abbrev pub is_implicit : TagForm → Bool
is_implicit Implicit = true
is_implicit Explicit = false

-- the tags of p that no tag replaces, if the tag before p replaces its first tag or doesn't
abbrev pub tags_after : Bool → Path → List Label
tags_after true p = without_first (standing p)
tags_after false p = standing p

-- the tag, unless the tag before it replaces it
abbrev pub unless : Bool → Label → List Label
unless true l = []
unless false l = l ∷ []

-- ---- kinds

-- Type i, whose core has kind k and is in module M, has kind r in a schema. Kind r has the values that the constraints
-- leave, and its items are in order.
pub record IsCoreOf (p : Program) (i : ℕ) (M : Name) (k : WrittenKind) (r : types.Kind) : Type 0 where
  pub kind : IsKindOf p (Allows p) (AllowsCode p) i M k r
  pub constrained : IsConstrained p k i r
  pub items : ItemsAscend r

-- ---- members

-- an addition has no DEFAULT
abbrev pub HaveNoDefaultAfter : List Part → Type 0
HaveNoDefaultAfter cs = (n : ℕ) (c : Part) → slice_get cs n ≡ Some c → IsAdded c → has_default c.presence ≡ false

-- after an addition there are only additions
abbrev pub AdditionsLast : List Part → Type 0
AdditionsLast cs = (m n : ℕ) (d c : Part) →
    m < n →
    slice_get cs m ≡ Some d →
    slice_get cs n ≡ Some c →
    IsAdded d →
    IsAdded c

abbrev pub is_optional : PresenceTree → Bool
is_optional mandatory = false
is_optional optional = true
is_optional (default n) = false

-- a component with a DEFAULT has a value
abbrev pub IsGiven : Part → Option AbstractValue → Type 0
IsGiven c v = (n : Tree) → c.presence ≡ default n → v ≡ None → ⊥

-- ---- types

-- type i has kind k after its references and tags
pub record IsCoreType (p : Program) (i : ℕ) (k : WrittenKind) : Type 0 where
  pub core : ℕ
  pub type : Type'
  pub chain : IsUnderlying p.types i core
  pub there : slice_get p.types core ≡ Some type
  pub kind : type.kind ≡ k
  pub within : Name
  pub assigns : Name
  pub is_so : IsAssignment p type.assignment within assigns

-- type i has kind r in a schema
pub record IsCoreIn (p : Program) (i : ℕ) (r : types.Kind) : Type 0 where
  pub kind : WrittenKind
  pub is : IsCoreType p i kind
  pub such : IsCoreOf p i is.within kind r

-- types i and j are the same after references and tags, and their constraints leave the same values
pub record AreAlike (p : Program) (i j : ℕ) : Type 0 where
  pub core : ℕ
  pub one : IsUnderlying p.types i core
  pub other : IsUnderlying p.types j core
  pub same : (k : WrittenKind) → IsTypeOfKind p.types i k → IsTypeOfKind p.types j k → LeaveTheSame p k i j
