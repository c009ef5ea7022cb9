-- The types of a table and of a syntax tree as definitions see them, without their places in memory (X.680, clauses 16
-- and 17).
use Rattle.std.specs.Prelude.{Option, List, map, option_map}
use Rattle.trees.specs.Names.{reference_module, reference_name}
use Rattle.trees.specs.declared.types.TypeSyntax.{TypeSyntax}
use Rattle.trees.specs.declared.types.TypeForm.{TypeForm}
use Rattle.trees.specs.declared.types.TypeForm.TheVariants as forms
use Rattle.trees.specs.declared.types.EnumeratedSyntax.{EnumeratedSyntax}
use Rattle.trees.specs.Values.{name_at}
use Rattle.trees.specs.Constraints.{constraint_of}
use Rattle.trees.specs.Types.{FormTree, a_simple, a_reference, a_list, an_elements, a_tagged, plain_of, presence_tree, type_members, type_member_of, type_tree_of, item_of}
use Rattle.names.specs.Sources.{place_of}
use Rattle.type_table.specs.declared.table.ListMember.{ListMember}
use Rattle.type_table.specs.declared.table.Shape.{Shape}
use Rattle.type_table.specs.declared.table.Shape.TheVariants as shapes
use Rattle.type_table.specs.declared.table.TypeNode.{TypeNode}
use Rattle.type_table.specs.Items.{WrittenItem, additions_of}
use Rattle.type_table.specs.Table.{Part, WrittenKind, simple, reference, tagged, members, elements, Type'}

-- the member of a list that one in memory is: its name, its type by number, its presence, and whether it is in the root
abbrev pub part_of : ListMember → Part
part_of c = record { name = name_at c.name; ty = c.ty; presence = presence_tree c.presence; standing = c.standing }

-- the kind of a written type that a shape in memory is
abbrev pub kind_of : Shape → WrittenKind
kind_of (shapes.Simple s) = simple (plain_of s)
kind_of (shapes.Reference j) = reference j
kind_of (shapes.Tagged t k j) = tagged t k j
kind_of (shapes.Members k m cs) = members k m (map part_of cs.items)
kind_of (shapes.Elements k j) = elements k j

-- the written type that one in memory is, without its place in the text
abbrev pub type_of : TypeNode → Type'
type_of w = record {
  kind = kind_of w.shape;
  constraints = map constraint_of w.constraints.items;
  default = w.default;
  place = place_of w.place;
  assignment = w.assignment;
}

-- the written types of a table in memory, in order, without their places in the text
abbrev pub types_of : List TypeNode → List Type'
types_of = map type_of

-- the form of a type
abbrev pub form_seen : TypeForm TypeSyntax → FormTree
form_seen (forms.Simple s) = a_simple (plain_of s)
form_seen (forms.Reference r) = a_reference (reference_module r) (reference_name r)
form_seen (forms.List k marker ms) = a_list k marker (type_members (map type_member_of ms.items))
form_seen (forms.Elements k t) = an_elements k (type_tree_of t.value)
form_seen (forms.Tagged tag word t) = a_tagged tag word (type_tree_of t.value)

-- the root items of an enumeration
abbrev pub root_items : EnumeratedSyntax → List WrittenItem
root_items e = map item_of e.root.items

-- the items of an enumeration after the marker, if it has a marker
abbrev pub after_marker : EnumeratedSyntax → Option (List WrittenItem)
after_marker e = option_map (λ is. map item_of is.items) e.additions

-- the items after the marker, or none if it has no marker
abbrev pub more_of : EnumeratedSyntax → List WrittenItem
more_of e = additions_of (after_marker e)
