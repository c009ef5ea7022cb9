-- What faults of types mean (X.680, clause 16): the module and the name that they give. The first fault has its offset
-- in the text too.
use Rattle.std.specs.Prelude.{◌≡◌, ◌⊎◌, ◌<◌, ◌≤◌, ◌++◌, ◌∷◌, ℕ, List, Some, length, slice_get}
use Rattle.trees.specs.Values.{Name}
use Rattle.trees.specs.Types.{TypeTree, type_tree_of}
use Rattle.trees.specs.declared.types.TypeForm.{TypeForm}
use Rattle.trees.specs.declared.types.TypeForm.TheVariants as forms
use Rattle.trees.specs.declared.types.TypeSyntax.{TypeSyntax}
use Rattle.trees.specs.declared.types.TypeSyntax.TheViews.{out-TypeSyntax}
use Rattle.trees.specs.declared.module.TagDefault.{TagDefault}
use Rattle.names.specs.declared.fault.NameFault.{NameFault}
use Rattle.names.specs.declared.fault.NameFault.TheVariants as faults
use Rattle.names.specs.declared.fault.Limit.TheVariants as limits
use Rattle.names.specs.Faults.{fault_module, fault_name}
use Rattle.names.specs.Names.{Module}
use Rattle.names.specs.Sources.{Source}
use Rattle.type_table.specs.FirstInList.{IsLimitAt}
use Rattle.type_table.specs.Numbering.{Occurs, AreMore, AreNumberedTypes, AreTops, RefersToNothing, all_parts, type_form}
use Rattle.type_table.specs.proving.Checks.{IsSourceFault}
use Rattle.type_table.specs.Table.{Type', IsCircular, IsUnderlying, walk}
use Rattle.type_table.specs.Written.{all_parts_written, type_place}

-- A reference in the assignment refers to name x, which is not the name of a type. M is the module of the assignment.
pub record HasUnknown
    (ms : List (Name × Module)) (hs : List (Name × TagDefault)) (gs : List (ℕ × Name))
    (roots : List Source) (M x : Name) : Type 0 where
  pub assignment : ℕ
  pub owner : ℕ
  pub assigns : Name
  pub default : TagDefault
  pub tree : TypeTree
  pub occurs : Occurs roots assignment tree
  pub assigned : slice_get gs assignment ≡ Some (owner, assigns)
  pub header : slice_get hs owner ≡ Some (M, default)
  pub unknown : RefersToNothing ms M (type_form tree) x

-- There are more than 65,536 written types. The type after the first 65,536 is in the assignment of name x in module M.
pub record HasTooMany
    (hs : List (Name × TagDefault)) (gs : List (ℕ × Name)) (roots : List Source) (M x : Name) : Type 0 where
  pub assignment : ℕ
  pub owner : ℕ
  pub default : TagDefault
  pub more : AreMore 65536 assignment roots
  pub assigned : slice_get gs assignment ≡ Some (owner, x)
  pub header : slice_get hs owner ≡ Some (M, default)

-- a reason why types can't be numbered
abbrev pub IsNumberingFault :
    List (Name × Module) → List (Name × TagDefault) → List (ℕ × Name) → List Source → NameFault → Type 0
IsNumberingFault ms hs gs roots faults.Memory = Unit {0}
IsNumberingFault ms hs gs roots (faults.UnknownName s) = HasUnknown ms hs gs roots (fault_module s) (fault_name s)
IsNumberingFault ms hs gs roots (faults.Limit limits.Types s) = HasTooMany hs gs roots (fault_module s) (fault_name s)
IsNumberingFault ms hs gs roots e = ⊥

-- ---- offsets

-- `UnknownName` has this offset
abbrev pub IsUnknownAt : ℕ → NameFault → Type 0
IsUnknownAt n faults.Memory = Unit {0}
IsUnknownAt n (faults.UnknownName s) = s.at ≡ n
IsUnknownAt n e = ⊥

-- `UnknownName` has the offset of the reference that this form is
abbrev pub IsFormAt : TypeForm TypeSyntax → NameFault → Type 0
IsFormAt (forms.Reference r) e = IsUnknownAt r.at e
IsFormAt f faults.Memory = Unit {0}
IsFormAt f e = ⊥

-- `UnknownName` has the offset of the reference that this type is, or `Limit` has the offset of the type
abbrev pub IsWrittenAt : TypeSyntax → NameFault → Type 0
IsWrittenAt t e = IsFormAt (out-TypeSyntax t).form e ⊎ IsLimitAt (type_place t) e

-- The types before this one have a meaning, and no limit is passed by them. This one is a reference without a meaning,
-- or the types directly in it are too many. The fault is reported at the offset that this one has in the text, where
-- `given` are the types of the assignments as they are written.
pub record IsFirstSource
    (ms : List (Name × Module)) (hs : List (Name × TagDefault)) (gs : List (ℕ × Name))
    (roots : List Source) (given : List TypeSyntax) (e : NameFault) : Type 0 where
  pub before : List Source
  pub source : Source
  pub remaining : List Source
  pub all : roots ++ all_parts 0 before ≡ before ++ source ∷ remaining
  pub types : List Type'
  pub tops : AreTops ms hs gs 0 (length roots) before types
  pub few : length (before ++ source ∷ remaining) ≤ 65536
  pub fault : IsSourceFault ms hs gs (length before) (length (before ++ source ∷ remaining)) source e
  pub front : List TypeSyntax
  pub written : TypeSyntax
  pub others : List TypeSyntax
  pub queue : given ++ all_parts_written front ≡ front ++ written ∷ others
  pub long : length front ≡ length before
  pub is : type_tree_of written ≡ source.tree
  pub at : IsWrittenAt written e

-- the first type, in the order of their numbers, that can't be numbered; `Memory` says nothing
abbrev pub IsFirstNumbering :
    List (Name × Module) → List (Name × TagDefault) → List (ℕ × Name) → List Source → List TypeSyntax → NameFault →
    Type 0
IsFirstNumbering ms hs gs roots given faults.Memory = Unit {0}
IsFirstNumbering ms hs gs roots given e = IsFirstSource ms hs gs roots given e

-- type i comes back to itself, and it is in the assignment of name x in module M
pub record IsCircularAt
    (ms : List (Name × Module)) (hs : List (Name × TagDefault)) (gs : List (ℕ × Name))
    (roots : List Source) (M x : Name) : Type 0 where
  pub types : List Type'
  pub numbered : AreNumberedTypes ms hs gs roots types
  pub number : ℕ
  pub written : Type'
  pub there : slice_get types number ≡ Some written
  pub circular : IsCircular types number
  pub owner : ℕ
  pub default : TagDefault
  pub assigned : slice_get gs written.assignment ≡ Some (owner, x)
  pub header : slice_get hs owner ≡ Some (M, default)

-- Type p is the one that is reported if a type doesn't unfold. From the first type without a core, as many references
-- and tags as there are types lead to it, so it comes back to itself.
pub record IsFirstCircle (ts : List Type') (p : ℕ) : Type 0 where
  pub start : ℕ
  pub there : start < length ts
  pub chain : walk ts (length ts) start ≡ Some p
  pub before : (i : ℕ) → i < start → (c : ℕ) × IsUnderlying ts i c

-- a reason why types can't be linked
abbrev pub IsTableFault :
    List (Name × Module) → List (Name × TagDefault) → List (ℕ × Name) → List Source → NameFault → Type 0
IsTableFault ms hs gs roots (faults.Circular s) = IsCircularAt ms hs gs roots (fault_module s) (fault_name s)
IsTableFault ms hs gs roots e = IsNumberingFault ms hs gs roots e
