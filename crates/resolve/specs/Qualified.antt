-- Names after modules' names, M.x, in values, constraints and types (X.680, clause 14.6).
use Rattle.std.specs.Prelude.{◌≡◌, ℕ, List, [], ◌∷◌, ◌++◌, Option, Some, None, slice_get}
use Rattle.trees.specs.Values as trees
use Rattle.trees.specs.Values.{Name, Tree, Trees, no_tree, tree_and, NamedTrees, no_member, member_and}
use Rattle.trees.specs.Constraints.{EndTree, name_end, RangeTree, only, between}
use Rattle.trees.specs.Constraints.{ConstraintTree, values_in, sizes_in, chars_in}
use Rattle.trees.specs.Types.{PresenceTree, default}
use Rattle.names.specs.declared.scope.Assigned.TheVariants as assigned
use Rattle.names.specs.Names.{Module, Refers}
use Rattle.type_table.specs.Table.{Part, WrittenKind, members, Type'}

-- the lists that f gives for the elements, joined in order
abbrev pub each : {X Y : Type 0} → (X → List Y) → List X → List Y
each f [] = []
each f (x ∷ xs) = f x ++ each f xs

-- the module's name and the name after it, if a module's name is given
abbrev pub after_module : Option Name → Name → List (Name × Name)
after_module None x = []
after_module (Some N) x = (N, x) ∷ []

abbrev mutual
  -- the names after modules' names in a value, each with its module's name
  pub qualified : Tree → List (Name × Name)
  qualified (trees.reference N x) = after_module N x
  qualified (trees.chosen x v) = qualified v
  qualified (trees.items vs) = qualified_each vs
  qualified (trees.fields vs) = qualified_fields vs
  qualified v = []

  -- the names after modules' names in values in braces
  pub qualified_each : Trees → List (Name × Name)
  qualified_each no_tree = []
  qualified_each (tree_and v vs) = qualified v ++ qualified_each vs

  -- the names after modules' names in the fields of a value
  pub qualified_fields : NamedTrees → List (Name × Name)
  qualified_fields no_member = []
  qualified_fields (member_and x v vs) = qualified v ++ qualified_fields vs

-- the end of a range, if it is a name after a module's name
abbrev pub qualified_end : EndTree → List (Name × Name)
qualified_end (name_end N x) = after_module N x
qualified_end e = []

-- the end of a range, if there is one, and it is a name after a module's name
abbrev pub qualified_bound : Option EndTree → List (Name × Name)
qualified_bound None = []
qualified_bound (Some e) = qualified_end e

-- the names after modules' names in a single value or a range
abbrev pub qualified_range : RangeTree → List (Name × Name)
qualified_range (only e) = qualified_end e
qualified_range (between a b) = qualified_bound a ++ qualified_bound b

-- the names after modules' names in a constraint; FROM has none
abbrev pub qualified_constraint : ConstraintTree → List (Name × Name)
qualified_constraint (values_in r) = each qualified_range r.ranges
qualified_constraint (sizes_in r) = each qualified_range r.ranges
qualified_constraint (chars_in xs) = []

-- the names after modules' names in the value after DEFAULT
abbrev pub qualified_presence : PresenceTree → List (Name × Name)
qualified_presence (default v) = qualified v
qualified_presence o = []

-- the names after modules' names in the DEFAULT of a member
abbrev pub qualified_part : Part → List (Name × Name)
qualified_part c = qualified_presence c.presence

-- the names after modules' names in the DEFAULTs of a list
abbrev pub qualified_kind : WrittenKind → List (Name × Name)
qualified_kind (members l marker cs) = each qualified_part cs
qualified_kind k = []

-- the names after modules' names in the DEFAULTs and constraints of a written type
abbrev pub qualified_in : Type' → List (Name × Name)
qualified_in t = qualified_kind t.kind ++ each qualified_constraint t.constraints

-- each of these names after modules' names, read in module M, means a value
abbrev pub MeanValues : List (Name × Module) → Name → List (Name × Name) → Type 0
MeanValues ms M rs =
    (k : ℕ) (N x : Name) → slice_get rs k ≡ Some (N, x) → (i : ℕ) × Refers ms M (Some N) x (assigned.Value i)
