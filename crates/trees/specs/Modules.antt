-- The trees of modules: the form in which their notation is kept, without addresses in memory or places in the text
-- (X.680, clauses 13 and 16). A name is the list of its octets.
use Rattle.std.specs.Prelude.{Option, List, map, option_map}
use Rattle.trees.specs.declared.module.TagDefault.{TagDefault}
use Rattle.trees.specs.declared.module.Assignment.{Assignment}
use Rattle.trees.specs.declared.module.Assignment.TheVariants as assignments
use Rattle.trees.specs.declared.module.Module.{Module}
use Rattle.trees.specs.declared.module.Import.{Import}
use Rattle.trees.specs.Values.{Name, name_at, Tree, tree_of}
use Rattle.trees.specs.Types.{TypeTree, type_tree_of}

-- an assignment as it is written (X.680, clause 16)
pub data AssignmentTree : Type 0 where
  -- the name of the type, and the type
  assigns_type : Name → TypeTree → AssignmentTree
  -- the name of the value, the value's type, and the value
  assigns_value : Name → TypeTree → Tree → AssignmentTree

-- the assignment that one in memory is
abbrev pub assignment_tree_of : Assignment → AssignmentTree
assignment_tree_of (assignments.Type a) = assigns_type (name_at a.name) (type_tree_of a.syntax)
assignment_tree_of (assignments.Value a) = assigns_value (name_at a.name) (type_tree_of a.syntax) (tree_of a.value)

-- names, and the module that they are imported from (X.680, clause 13)
pub record ImportTree : Type 0 where
  pub names : List Name
  pub from : Name

-- the import that one in memory is
abbrev pub import_of : Import → ImportTree
import_of i = record { names = map name_at i.names.items; from = name_at i.module }

-- a module as it is written: its name, tag default, exports, imports and assignments (X.680, clause 13)
pub record ModuleTree : Type 0 where
  pub name : Name
  pub tag_default : TagDefault
  -- None if the module has no list of exports: then all that it assigns is exported
  pub exports : Option (List Name)
  pub imports : List ImportTree
  pub assignments : List AssignmentTree

-- the tree that a module in memory holds
abbrev pub module_tree_of : Module → ModuleTree
module_tree_of m = record {
  name = name_at m.name;
  tag_default = m.tag_default;
  exports = option_map (λ xs. map name_at xs.items) m.exports;
  imports = map import_of m.imports.items;
  assignments = map assignment_tree_of m.assignments.items;
}
