-- The types in written types, with their places in the text, in the order of their numbers (X.680, clause 16).
use Rattle.std.specs.Prelude.{◌≡◌, ℕ, List, [], ◌∷◌, ◌++◌, Option, Some, None, String, map}
use Rattle.std.specs.Global.{Global}
use Rattle.trees.specs.declared.constraint.ConstraintSyntax.{ConstraintSyntax}
use Rattle.trees.specs.declared.location.At.{At}
use Rattle.trees.specs.declared.types.Member.{Member}
use Rattle.trees.specs.declared.types.PresenceSyntax.{PresenceSyntax}
use Rattle.trees.specs.declared.types.Simple.{Simple}
use Rattle.trees.specs.declared.types.Standing.{Standing}
use Rattle.trees.specs.declared.types.TypeForm.{TypeForm}
use Rattle.trees.specs.declared.types.TypeForm.TheVariants as forms
use Rattle.trees.specs.declared.types.TypeSyntax.{TypeSyntax}
use Rattle.trees.specs.declared.types.TypeSyntax.TheViews.{out-TypeSyntax}
use Rattle.type_table.specs.declared.table.ListMember.{ListMember}
use Rattle.type_table.specs.declared.table.Shape.{Shape}
use Rattle.type_table.specs.declared.table.Shape.TheVariants as shapes
use Rattle.type_table.specs.declared.table.TypeNode.{TypeNode}

-- the offset of a type's first octet
abbrev pub type_place : TypeSyntax → ℕ
type_place t = (out-TypeSyntax t).at

-- the types directly in a type of this form
abbrev pub parts_written : TypeForm TypeSyntax → List TypeSyntax
parts_written (forms.Simple s) = []
parts_written (forms.Reference r) = []
parts_written (forms.List k marker ms) = map (λ m. m.syntax) ms.items
parts_written (forms.Elements k t) = t.value ∷ []
parts_written (forms.Tagged tag word t) = t.value ∷ []

-- the types directly in these types, in order
abbrev pub all_parts_written : List TypeSyntax → List TypeSyntax
all_parts_written [] = []
all_parts_written (t ∷ ts) = parts_written (out-TypeSyntax t).form ++ all_parts_written ts

-- ---- what a type has in the text beside the types in it

-- a member of a list without its type: its name with the name's offset, its presence with the DEFAULT, and its standing
pub record MemberText : Type 0 where
  pub name : At (String Global)
  pub presence : PresenceSyntax
  pub standing : Standing

-- A type without the types in it: the offset of its first octet, and its constraints. A list has its members, in order.
-- A type that holds no other type has its whole notation.
pub record TypeText : Type 0 where
  pub at : ℕ
  pub plain : Option Simple
  pub members : List MemberText
  pub constraints : List ConstraintSyntax

-- a member as it is written
abbrev pub member_written : Member TypeSyntax → MemberText
member_written m = record { name = m.name; presence = m.presence; standing = m.standing }

-- a member in the table
abbrev pub member_kept : ListMember → MemberText
member_kept c = record { name = c.name; presence = c.presence; standing = c.standing }

-- the whole notation of a type that holds no other type
abbrev pub plain_written : TypeForm TypeSyntax → Option Simple
plain_written (forms.Simple s) = Some s
plain_written f = None

-- the same of a type in the table
abbrev pub plain_kept : Shape → Option Simple
plain_kept (shapes.Simple s) = Some s
plain_kept s = None

-- the members of a type as they are written
abbrev pub members_written : TypeForm TypeSyntax → List MemberText
members_written (forms.List k marker ms) = map member_written ms.items
members_written f = []

-- the members of a type in the table
abbrev pub members_kept : Shape → List MemberText
members_kept (shapes.Members k marker cs) = map member_kept cs.items
members_kept s = []

-- a type as it is written
abbrev pub text_written : TypeSyntax → TypeText
text_written t = record {
  at = type_place t;
  plain = plain_written (out-TypeSyntax t).form;
  members = members_written (out-TypeSyntax t).form;
  constraints = (out-TypeSyntax t).constraints.items;
}

-- a type in the table
abbrev pub text_kept : TypeNode → TypeText
text_kept w = record {
  at = w.at;
  plain = plain_kept w.shape;
  members = members_kept w.shape;
  constraints = w.constraints.items;
}

-- The types of the table are these, the types in them, and so on, in the order of their numbers. Each is what the text
-- says, with its offsets: those of the type, of its names and of its constraints.
pub record AreWrittenTypes (tops : List TypeSyntax) (ws : List TypeNode) : Type 0 where
  pub types : List TypeSyntax
  pub all : types ≡ tops ++ all_parts_written types
  pub texts : map text_kept ws ≡ map text_written types
