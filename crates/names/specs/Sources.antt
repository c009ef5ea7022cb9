-- The types and values of assignments (X.680, clause 16), before the types in them are numbered. They have no addresses
-- in memory.
use Rattle.std.specs.Prelude.{◌≡◌, ◌<◌, ℕ, List, Option, Some, None, map}
use Rattle.std.specs.List.{AllByRecursion}
use Rattle.trees.specs.Values.{Name, Tree, name_at, tree_of}
use Rattle.trees.specs.declared.module.TagDefault.{TagDefault}
use Rattle.trees.specs.Types.{TypeTree, type_tree_of}
use Rattle.names.specs.declared.sources.MemberIndex.{MemberIndex}
use Rattle.names.specs.declared.sources.AssignedAt.{AssignedAt}
use Rattle.names.specs.declared.sources.Header.{Header}
use Rattle.names.specs.declared.sources.ValueAt.{ValueAt}
use Rattle.names.specs.declared.sources.Source.{Source as SourceAt}

-- a type in its notation, and the number of the assignment that contains it; a member also has its list and its number
pub record Source : Type 0 where
  pub tree : TypeTree
  pub assignment : ℕ
  pub place : Option (ℕ × ℕ)

-- these types are in the first n assignments
abbrev pub AllAssigned : ℕ → List Source → Type 0
AllAssigned n ss = AllByRecursion (λ s. s.assignment < n) ss

-- none of these types is a member
abbrev pub HaveNoPlace : List Source → Type 0
HaveNoPlace ss = AllByRecursion (λ s. s.place ≡ None) ss

-- a value assignment: its number, its type's number, and the value in its notation
pub record Value : Type 0 where
  pub assignment : ℕ
  pub ty : ℕ
  pub notation : Tree

-- the number of the list that a member is in, and its number there; None for a type that is no member
abbrev pub place_of : Option MemberIndex → Option (ℕ × ℕ)
place_of None = None
place_of (Some p) = Some (p.list, p.number)

-- the source that one in memory is, without offsets
abbrev pub source_of : SourceAt → Source
source_of s = record { tree = type_tree_of s.syntax; assignment = s.assignment; place = place_of s.place }

-- the sources that those in memory are, in order
abbrev pub sources_of : List SourceAt → List Source
sources_of = map source_of

-- the value assignment that one in memory is, without offsets
abbrev pub value_seen : ValueAt → Value
value_seen v = record { assignment = v.assignment; ty = v.ty; notation = tree_of v.syntax }

-- an assignment's module and name
abbrev pub assignment_of : AssignedAt → ℕ × Name
assignment_of a = (a.module, name_at a.name)

-- a module's name and tag default
abbrev pub header_of : Header → Name × TagDefault
header_of h = (name_at h.name, h.default)
