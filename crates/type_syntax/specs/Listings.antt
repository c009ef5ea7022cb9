-- What is read of types, as it is in memory.
use Rattle.std.specs.Prelude.{map}
use Rattle.trees.specs.Names.{reference_module, reference_name}
use Rattle.parser_combinators.specs.declared.lists.Extensible.{Extensible}
use Rattle.parser_combinators.specs.declared.lists.Addition.{Addition}
use Rattle.parser_combinators.specs.Parts.{extensible_of, addition_of}
use Rattle.trees.specs.declared.value.Named.{Named}
use Rattle.trees.specs.Values.{Name, name_at}
use Rattle.trees.specs.declared.types.TypeForm.{TypeForm}
use Rattle.trees.specs.declared.types.TypeForm.TheVariants as forms
use Rattle.trees.specs.declared.types.TypeSyntax.{TypeSyntax}
use Rattle.trees.specs.Types.{presence_tree, plain_of, FormTree, a_simple, a_reference, a_list, an_elements, a_tagged, type_members, type_tree_of, type_member_of}
use Rattle.type_syntax.specs.declared.listing.ComponentSyntax.{ComponentSyntax}
use Rattle.type_syntax.specs.TypeGrammar.{ComponentTree, Listing}

abbrev pub component_of : ComponentSyntax → ComponentTree
component_of c = (type_tree_of c.syntax, presence_tree c.presence)

abbrev pub named_component : Named ComponentSyntax → Name × ComponentTree
named_component n = (name_at n.name, component_of n.value)

abbrev pub listing_tree : Extensible (Named ComponentSyntax) (Addition (Named ComponentSyntax)) → Listing
listing_tree l = extensible_of named_component (addition_of named_component) l

-- the tree of a form
abbrev pub form_tree : TypeForm TypeSyntax → FormTree
form_tree (forms.Simple s) = a_simple (plain_of s)
form_tree (forms.Reference r) = a_reference (reference_module r) (reference_name r)
form_tree (forms.List k marker ms) = a_list k marker (type_members (map type_member_of ms.items))
form_tree (forms.Elements k t) = an_elements k (type_tree_of t.value)
form_tree (forms.Tagged tag word t) = a_tagged tag word (type_tree_of t.value)
