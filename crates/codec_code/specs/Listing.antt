-- The text of routines, which people read: a line for each step.
use Rattle.std.specs.Prelude.{ℕ, suc, Bool, true, false, List, [], ◌∷◌, ◌++◌, None, Some, codes, decimal, slice_get}
use Rattle.asn_base.specs.declared.strings.StringKind.{StringKind}
use Rattle.asn_base.specs.declared.strings.StringKind.TheVariants as strings
use Rattle.asn_base.specs.declared.tag.Class.{Class}
use Rattle.asn_base.specs.declared.tag.Class.TheVariants as classes
use Rattle.asn_base.specs.declared.tag.Tag.{Tag}
use Rattle.asn_base.specs.Types.{Resolved}
use Rattle.encodings.specs.declared.leaf_kind.LeafKind.{LeafKind}
use Rattle.encodings.specs.declared.leaf_kind.LeafKind.TheVariants as leaves
use Rattle.codec_code.specs.declared.step.FieldPresence.{FieldPresence}
use Rattle.codec_code.specs.declared.step.FieldPresence.TheVariants as needs
use Rattle.codec_code.specs.declared.step.Field.{Field}
use Rattle.codec_code.specs.declared.step.Head.{Head}
use Rattle.codec_code.specs.declared.step.RowKind.{RowKind}
use Rattle.codec_code.specs.declared.step.RowKind.TheVariants as rows
use Rattle.codec_code.specs.declared.step.Step.{Step}
use Rattle.codec_code.specs.declared.step.Step.TheVariants as steps
use Rattle.codec_code.specs.Routines.{routine_at, routine_of}

-- the name of a tag's class (X.680, 31.2)
abbrev pub class_name : Class → List ℕ
class_name classes.Universal = codes "Universal"
class_name classes.Application = codes "Application"
class_name classes.Context = codes "Context"
class_name classes.Private = codes "Private"

-- whether an encoding is constructed (X.690, 8.1.2.5)
abbrev pub form_name : Bool → List ℕ
form_name true = codes "constructed"
form_name false = codes "primitive"

-- what contents a header is before: those that hold no others, an encoding under an explicit tag, or members
abbrev pub row_name : RowKind → List ℕ
row_name rows.Leaf = codes "Leaf"
row_name rows.Wrap = codes "Wrap"
row_name rows.Sequence = codes "Sequence"
row_name rows.Set = codes "Set"
row_name rows.SequenceOf = codes "SequenceOf"
row_name rows.SetOf = codes "SetOf"

-- the name of a string type with characters of one octet (X.680, 41)
abbrev pub string_name : StringKind → List ℕ
string_name strings.Numeric = codes "Numeric"
string_name strings.Printable = codes "Printable"
string_name strings.Ia5 = codes "Ia5"
string_name strings.Visible = codes "Visible"

-- the name of contents that hold no others
abbrev pub leaf_name : LeafKind → List ℕ
leaf_name leaves.Boolean = codes "Boolean"
leaf_name leaves.Integer = codes "Integer"
leaf_name leaves.Enumerated = codes "Enumerated"
leaf_name leaves.BitString = codes "BitString"
leaf_name leaves.NamedBits = codes "NamedBits"
leaf_name leaves.OctetString = codes "OctetString"
leaf_name leaves.Null = codes "Null"
leaf_name leaves.ObjectIdentifier = codes "ObjectIdentifier"
leaf_name leaves.RelativeOid = codes "RelativeOid"
leaf_name leaves.Utf8String = codes "Utf8String"
leaf_name (leaves.RestrictedString k) = codes "RestrictedString(" ++ (string_name k ++ codes ")")

-- whether a component may be absent, and whether it has a DEFAULT (X.680, 25.4)
abbrev pub presence_name : FieldPresence → List ℕ
presence_name needs.Mandatory = codes "Mandatory"
presence_name needs.Optional = codes "Optional"
presence_name needs.Default = codes "Default"
presence_name needs.Addition = codes "Addition"

-- a header: the class and the number of its tag, its form, and what contents it is before
abbrev pub head_text : Head → List ℕ
head_text h =
    codes "  Head "
    ++ (class_name h.tag.class
    ++ (codes " "
    ++ (decimal h.tag.number
    ++ (codes " "
    ++ (form_name h.constructed
    ++ (codes " "
    ++ row_name h.row))))))

-- a component: its place in order of definition, from 0, its presence, and the number of its type
abbrev pub field_text : Field → List ℕ
field_text f =
    decimal f.place ++ (codes " " ++ (presence_name f.need ++ (codes " " ++ decimal f.ty.index)))

-- the line of a step, without its end
abbrev pub step_line : Step → List ℕ
step_line (steps.Head h) = head_text h
step_line (steps.Leaf k) = codes "  Leaf " ++ leaf_name k
step_line (steps.Field f) = codes "  Field " ++ field_text f
step_line (steps.SetComponent f rank) = codes "  Ranked " ++ (field_text f ++ (codes " " ++ decimal rank))
step_line (steps.Each t) = codes "  Each " ++ decimal t.index
step_line (steps.EachSorted t) = codes "  EachSorted " ++ decimal t.index
step_line (steps.Pick n) = codes "  Pick " ++ decimal n
step_line (steps.Call t) = codes "  Call " ++ decimal t.index
step_line steps.Rest = codes "  Rest"
step_line steps.End = codes "  End"

-- the lines of steps, one after the other
abbrev pub steps_text : List Step → List ℕ
steps_text [] = []
steps_text (s ∷ ss) = step_line s ++ (codes "\n" ++ steps_text ss)

-- the tags of type t of schema s, the outermost first; there are none if there is no such type
abbrev pub tags_of : List Resolved → ℕ → List Tag
tags_of s t = elim (slice_get s t) [ None ↦ [] | Some r ↦ r.tags ]

-- the lines of the routine of type t of schema s: a line with the type's number, and one for each step
abbrev pub routine_text : List Resolved → ℕ → List ℕ
routine_text s t = codes "type " ++ (decimal t ++ (codes "\n" ++ steps_text (routine_at s t)))

-- The lines of the routines of these types of schema s, the first of which has number t. Before the steps of each
-- routine is a line with the type's number.
abbrev pub routines_text : List Resolved → ℕ → List Resolved → List ℕ
routines_text s t [] = []
routines_text s t (r ∷ rs) =
    codes "type " ++ (decimal t ++ (codes "\n" ++ (steps_text (routine_of s r) ++ routines_text s (suc t) rs)))
