-- When a schema is the one that a program's modules stand for (X.680, clauses 20, 25, 27, 31 and 49 to 51). Its types
-- are the written ones with the same numbers, each with the tags that come before its contents, with what its
-- constraints allow, and with its items in order.
use Rattle.std.specs.Prelude.{◌≡◌, ℕ, Bool, List, [], ◌∷◌, Some, map, slice_get}
use Rattle.asn_base.specs.Schemas.{NumbersAscend}
use Rattle.asn_base.specs.Types.{Resolved}
use Rattle.asn_base.specs.Types as types
use Rattle.trees.specs.Values.{Name, Tree}
use Rattle.trees.specs.Types.{default}
use Rattle.type_table.specs.Table.{WrittenKind, Part, members}
use Rattle.asn_base.specs.Abstract.{AbstractValue}
use Rattle.trees.specs.declared.types.ListKind.{ListKind}
use Rattle.names.specs.Modules.{OccursIn}
use Rattle.resolve.specs.Program.{Program, IsAssignment}
use Rattle.type_table.specs.Table.{Type'}
use Rattle.range_ends.specs.Ends.{IsTypeOfKind}
use Rattle.tagging.specs.declared.path.TagForm.TheVariants.{Implicit, Explicit}
use Rattle.tagging.specs.Tags.{Label, Path, Tags, label}
use Rattle.constraints.specs.Allowed.{IsConstraintOf, AreCodesOf}
use Rattle.value_notations.specs.Values.{IsTyped}
use Rattle.schema_of.specs.values.Allowing.{Allows, AllowsCode}
use Rattle.schema_of.specs.SchemaOf.{IsSchemaOf}

-- ---- tags

-- the tags without the outermost one
abbrev pub without_first : List Label → List Label
without_first [] = []
without_first (l ∷ ls) = ls

-- The tags before the contents of a type with this path of tags, the outermost first (X.680, clause 31.2.7; X.690,
-- clause 8.14). An implicit tag replaces the one after it.
abbrev pub standing : Path → List Label
standing [] = []
standing ((l, Implicit) ∷ p) = l ∷ without_first (standing p)
standing ((l, Explicit) ∷ p) = l ∷ standing p

-- resolved type r has the tags of type i of program p, the outermost first, without those that an implicit tag replaces
pub record HasTags (p : Program) (i : ℕ) (r : Resolved) : Type 0 where
  pub path : Path
  pub tags : Tags p.types i path
  pub same : map label r.tags ≡ standing path

-- ---- constraints and items

-- the constraints and the alphabet in a resolved type of this kind are what type i of program p, which is of kind k,
-- allows (X.680, clauses 49 to 51)
abbrev pub IsConstrained : Program → WrittenKind → ℕ → types.Kind → Type 0
IsConstrained p k i (types.an_integer c) = IsConstraintOf p k i c
IsConstrained p k i (types.a_bit_string c) = IsConstraintOf p k i c
IsConstrained p k i (types.an_octet_string c) = IsConstraintOf p k i c
IsConstrained p k i (types.a_utf8_string c) = IsConstraintOf p k i c
IsConstrained p k i (types.a_restricted_string s codes c) = AreCodesOf p s i codes × IsConstraintOf p k i c
IsConstrained p k i (types.a_sequence_of c j) = IsConstraintOf p k i c
IsConstrained p k i (types.a_set_of c j) = IsConstraintOf p k i c
IsConstrained p k i r = Unit {0}

-- if this kind is an enumeration, its items ascend by number, both those of the root and those after the marker
abbrev pub ItemsAscend : types.Kind → Type 0
ItemsAscend (types.an_enumerated root e more) = NumbersAscend root × NumbersAscend more
ItemsAscend k = Unit {0}

-- ---- schemas

-- resolved type r has the tags of type i of program p, what its constraints allow, and its items in order of number
pub record IsProgramType (p : Program) (i : ℕ) (r : Resolved) : Type 0 where
  pub tags : HasTags p i r
  pub kind : WrittenKind
  pub is : IsTypeOfKind p.types i kind
  pub constrained : IsConstrained p kind i r.kind
  pub items : ItemsAscend r.kind

-- schema s is that of program p: its types are the written ones, with their tags, constraints and items
pub record IsProgramSchema (p : Program) (s : List Resolved) : Type 0 where
  pub types : IsSchemaOf p (Allows p) (AllowsCode p) s
  pub each : (i : ℕ) (r : Resolved) → slice_get s i ≡ Some r → IsProgramType p i r

-- ---- DEFAULTs in the notation

-- Component c, in a list that is written in module M, has no DEFAULT, or one whose notation stands for a value of the
-- component's type (X.680, clause 25).
abbrev pub IsTypedDefault : Program → Name → Part → Type 0
IsTypedDefault p M c = (n : Tree) →
    c.presence ≡ default n →
    (v : AbstractValue) × IsTyped p (Allows p) (AllowsCode p) M c.ty n v

-- each DEFAULT of a SEQUENCE or SET of program p has a notation that stands for a value of its component's type (X.680,
-- clauses 25 and 27)
abbrev pub AreTypedDefaults : Program → Type 0
AreTypedDefaults p = (i : ℕ) (t : Type') (M x : Name) (l : ListKind) (m : Bool) (cs : List Part) (c : Part) →
    slice_get p.types i ≡ Some t →
    IsAssignment p t.assignment M x →
    t.kind ≡ members l m cs →
    OccursIn cs c →
    IsTypedDefault p M c
