-- The class of each fault: a number and a name.
use Rattle.std.specs.Prelude.{◌≡◌, ℕ, List, codes}
use Rattle.text.specs.declared.lex_fault.LexFault.{LexFault}
use Rattle.text.specs.declared.lex_fault.LexFault.TheVariants as texts
use Rattle.text.specs.declared.lex_fault.Limit.TheVariants as text_limits
use Rattle.parser_combinators.specs.declared.read_error.Limit.TheVariants as tree_limits
use Rattle.notation.specs.declared.syntax_fault.SyntaxFault.{SyntaxFault}
use Rattle.notation.specs.declared.syntax_fault.SyntaxFault.TheVariants as trees
use Rattle.names.specs.declared.fault.Limit.TheVariants as name_limits
use Rattle.names.specs.declared.fault.NameFault.{NameFault}
use Rattle.names.specs.declared.fault.NameFault.TheVariants as names
use Rattle.front_end.specs.tagging.declared.fault.Limit.TheVariants as tag_limits
use Rattle.front_end.specs.tagging.declared.fault.TagFault.{TagFault}
use Rattle.front_end.specs.tagging.declared.fault.TagFault.TheVariants as tags
use Rattle.front_end.specs.constraints.declared.fault.BoundFault.{BoundFault}
use Rattle.front_end.specs.constraints.declared.fault.BoundFault.TheVariants as bounds
use Rattle.front_end.specs.additions.declared.fault.ExtFault.{ExtFault}
use Rattle.front_end.specs.additions.declared.fault.ExtFault.TheVariants as additions
use Rattle.decode_faults.specs.declared.read_fault.ReadFault.{ReadFault}
use Rattle.decode_faults.specs.declared.read_fault.ReadFault.TheVariants as readings
use Rattle.decode_faults.specs.declared.refusal.Refusal.{Refusal}
use Rattle.decode_faults.specs.declared.refusal.Refusal.TheVariants as packed
use Rattle.front_end.specs.value_diagnostics.declared.value_diagnostic.Reason.{Reason}
use Rattle.front_end.specs.value_diagnostics.declared.value_diagnostic.Reason.TheVariants as reasons
use Rattle.front_end.specs.declared.fault.CompileError.{CompileError}
use Rattle.front_end.specs.declared.fault.CompileError.TheVariants as fronts
use Rattle.messages.specs.declared.fault.NotationFault.{NotationFault}
use Rattle.messages.specs.declared.fault.NotationFault.TheVariants as notations
use Rattle.messages.specs.declared.fault.Fault.{Fault}
use Rattle.messages.specs.declared.fault.Fault.TheVariants as faults
use Rattle.messages.specs.declared.classes.Class.{Class}

-- the octets of a text without tokens (X.680, clause 12)
abbrev pub text_class_of : LexFault → ℕ × List ℕ
text_class_of texts.Memory = (1, codes "Memory")
text_class_of (texts.Limit text_limits.Text p) = (2, codes "Limit(Text)")
text_class_of (texts.Limit text_limits.Integer p) = (2, codes "Limit(Integer)")
text_class_of (texts.NotUtf8 p) = (10, codes "NotUtf8")
text_class_of (texts.BadCharacter p) = (11, codes "BadCharacter")
text_class_of (texts.OpenComment p) = (12, codes "OpenComment")
text_class_of (texts.OpenString p) = (13, codes "OpenString")
text_class_of (texts.BadNumber p) = (14, codes "BadNumber")
text_class_of (texts.BadName p) = (15, codes "BadName")

-- tokens that are no module (X.680, clause 13)
abbrev pub tree_class_of : SyntaxFault → ℕ × List ℕ
tree_class_of trees.Memory = (1, codes "Memory")
tree_class_of (trees.Limit tree_limits.Nesting p) = (2, codes "Limit(Nesting)")
tree_class_of (trees.Limit tree_limits.Integer p) = (2, codes "Limit(Integer)")
tree_class_of (trees.Limit tree_limits.TagNumber p) = (2, codes "Limit(TagNumber)")
tree_class_of (trees.Unexpected p) = (20, codes "Unexpected")
tree_class_of (trees.OutOfProfile p) = (21, codes "OutOfProfile")

-- names without meanings
abbrev pub name_class_of : NameFault → ℕ × List ℕ
name_class_of names.Memory = (1, codes "Memory")
name_class_of (names.Limit name_limits.Modules s) = (2, codes "Limit(Modules)")
name_class_of (names.Limit name_limits.Types s) = (2, codes "Limit(Types)")
name_class_of (names.Limit name_limits.Values s) = (2, codes "Limit(Values)")
name_class_of (names.Limit name_limits.Members s) = (2, codes "Limit(Members)")
name_class_of (names.Limit name_limits.Items s) = (2, codes "Limit(Items)")
name_class_of (names.Limit name_limits.NamedBit s) = (2, codes "Limit(NamedBit)")
name_class_of (names.Limit name_limits.Integer s) = (2, codes "Limit(Integer)")
name_class_of (names.Twice s) = (30, codes "Twice")
name_class_of (names.UnknownName s) = (31, codes "UnknownName")
name_class_of (names.NotExported s) = (32, codes "NotExported")
name_class_of (names.Circular s) = (33, codes "Circular")
name_class_of (names.UnknownModule s) = (34, codes "UnknownModule")

-- types without tags
abbrev pub tag_class_of : TagFault → ℕ × List ℕ
tag_class_of tags.Memory = (1, codes "Memory")
tag_class_of (tags.Limit tag_limits.Tags s) = (2, codes "Limit(Tags)")
tag_class_of (tags.Limit tag_limits.TagNumber s) = (2, codes "Limit(TagNumber)")
tag_class_of (tags.TagClash s) = (40, codes "TagClash")
tag_class_of (tags.ImplicitChoice s) = (41, codes "ImplicitChoice")
tag_class_of (tags.UntaggedChoice s) = (42, codes "UntaggedChoice")
tag_class_of (tags.MixedAutomatic s) = (43, codes "MixedAutomatic")

-- constraints without a meaning
abbrev pub bound_class_of : BoundFault → ℕ × List ℕ
bound_class_of bounds.Memory = (1, codes "Memory")
bound_class_of (bounds.Circular s) = (33, codes "Circular")
bound_class_of (bounds.Empty s) = (50, codes "Empty")
bound_class_of (bounds.WrongKind s) = (51, codes "WrongKind")
bound_class_of (bounds.Reconstrained s) = (52, codes "Reconstrained")
bound_class_of (bounds.LowerAboveUpper s) = (53, codes "LowerAboveUpper")
bound_class_of (bounds.MarkerPlace s) = (55, codes "MarkerPlace")

-- what follows extension markers
abbrev pub addition_class_of : ExtFault → ℕ × List ℕ
addition_class_of additions.Memory = (1, codes "Memory")
addition_class_of (additions.MarkerPlace s) = (55, codes "MarkerPlace")
addition_class_of (additions.AdditionOrder s) = (56, codes "AdditionOrder")
addition_class_of (additions.DefaultAddition s) = (57, codes "DefaultAddition")

-- notations of values
abbrev pub reason_class_of : Reason → ℕ × List ℕ
reason_class_of reasons.Depth = (2, codes "Limit(Depth)")
reason_class_of reasons.Nodes = (2, codes "Limit(Nodes)")
reason_class_of reasons.Oid = (2, codes "Limit(Oid)")
reason_class_of reasons.NoSuchName = (31, codes "UnknownName")
reason_class_of reasons.NoSuchItem = (62, codes "UnknownItem")
reason_class_of reasons.Circular = (33, codes "Circular")
reason_class_of reasons.NotOfType = (60, codes "NotOfType")
reason_class_of reasons.UnknownBit = (62, codes "UnknownItem")
reason_class_of reasons.UnknownAlternative = (62, codes "UnknownItem")
reason_class_of reasons.UnknownField = (62, codes "UnknownItem")
reason_class_of reasons.Repeated = (64, codes "Repeated")
reason_class_of reasons.Missing = (63, codes "Missing")
reason_class_of reasons.OutOfOrder = (60, codes "NotOfType")
reason_class_of reasons.Outside = (61, codes "OutsideConstraint")

-- the text of a notation in place of the name of a value: its octets, its tokens or its value
abbrev pub notation_class_of : NotationFault → ℕ × List ℕ
notation_class_of (notations.Octets f) = text_class_of f
notation_class_of (notations.Tokens f) = tree_class_of f
notation_class_of (notations.Value t) = reason_class_of t.reason

-- octets that can't be read (X.690, clause 8)
abbrev pub read_class_of : ReadFault → ℕ × List ℕ
read_class_of readings.Memory = (1, codes "Memory")
read_class_of readings.MessageLimit = (2, codes "Limit(Message)")
read_class_of readings.IntegerLimit = (2, codes "Limit(Integer)")
read_class_of readings.OidLimit = (2, codes "Limit(Oid)")
read_class_of readings.Truncated = (80, codes "Truncated")
read_class_of readings.Indefinite = (81, codes "Indefinite")
read_class_of readings.BadLength = (82, codes "BadLength")
read_class_of readings.BadTag = (83, codes "BadTag")
read_class_of readings.UnexpectedTag = (84, codes "UnexpectedTag")
read_class_of readings.Missing = (85, codes "Missing")
read_class_of readings.BadContents = (86, codes "BadContents")
read_class_of readings.EmptySegments = (87, codes "EmptySegments")
read_class_of readings.OutsideConstraint = (88, codes "OutsideConstraint")
read_class_of readings.Trailing = (89, codes "Trailing")
read_class_of readings.TooDeep = (95, codes "TooDeep")
read_class_of readings.NotDer = (96, codes "NotDer")

-- bits that can't be read (X.691, clauses 11 to 30)
abbrev pub bit_class_of : Refusal → ℕ × List ℕ
bit_class_of packed.IntegerLimit = (2, codes "Limit(Integer)")
bit_class_of packed.OidLimit = (2, codes "Limit(Oid)")
bit_class_of packed.NodesLimit = (2, codes "Limit(Nodes)")
bit_class_of packed.Truncated = (90, codes "Truncated")
bit_class_of packed.NotCanonical = (91, codes "NotCanonical")
bit_class_of packed.Outside = (92, codes "OutsideConstraint")
bit_class_of packed.UnknownAlternative = (93, codes "UnknownAlternative")
bit_class_of packed.UnknownEnumeration = (93, codes "UnknownEnumeration")
bit_class_of packed.Padding = (94, codes "Padding")
bit_class_of packed.TooDeep = (95, codes "TooDeep")
bit_class_of packed.TooManyAdditions = (97, codes "TooManyAdditions")

abbrev pub front_class_of : CompileError → ℕ × List ℕ
front_class_of fronts.Memory = (1, codes "Memory")
front_class_of (fronts.Text k f) = text_class_of f
front_class_of (fronts.Tree k f) = tree_class_of f
front_class_of (fronts.Name f) = name_class_of f
front_class_of (fronts.Tag f) = tag_class_of f
front_class_of (fronts.Bound f) = bound_class_of f
front_class_of (fronts.Additions f) = addition_class_of f
front_class_of (fronts.Default t) = reason_class_of t.reason
front_class_of (fronts.Assigned t) = reason_class_of t.reason

abbrev pub class_of : Fault → ℕ × List ℕ
class_of faults.Memory = (1, codes "Memory")
class_of (faults.File name) = (3, codes "File")
class_of (faults.NoFile name) = (3, codes "File")
class_of (faults.Folder name) = (3, codes "File")
class_of (faults.BadWords text) = (4, codes "BadWords")
class_of (faults.Help text) = (5, codes "Help")
class_of (faults.Front f) = front_class_of f
class_of (faults.Newer f) = front_class_of f
class_of (faults.NoType name) = (31, codes "UnknownName")
class_of (faults.NoNewerType name) = (31, codes "UnknownName")
class_of (faults.NoValue name) = (31, codes "UnknownName")
class_of (faults.Value t) = reason_class_of t.reason
class_of (faults.Notation f) = notation_class_of f
class_of faults.TooLong = (71, codes "TooLong")
class_of (faults.Device n) = (72, codes "Device")
class_of (faults.DecodeError u) = read_class_of u.fault
class_of (faults.BitDecodeError u) = bit_class_of u.refusal
class_of faults.MessageLimit = (2, codes "Limit(Message)")
class_of (faults.NotAccount s) = (100, codes "NotAccount")

abbrev pub number_of : Fault → ℕ
number_of f = (class_of f).0

abbrev pub name_of : Fault → List ℕ
name_of f = (class_of f).1

-- a class has this number and this name
pub record IsClass (c : Class) (is : ℕ × List ℕ) : Type 0 where
  pub number : c.number ≡ is.0
  pub name : c.name.now ≡ is.1
