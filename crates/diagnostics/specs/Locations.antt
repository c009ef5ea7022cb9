-- Where a fault is: in the older or the newer texts, at an octet of a text, at a token of one, or at an octet of the
-- text of a module that it names.
use Rattle.std.specs.Prelude.{ℕ, Bool, true, false, List, [], Option, None, Some, String, Vec, option_map, string_bytes}
use Rattle.std.specs.Prelude.{if◌then◌else◌}
use Rattle.std.specs.Str.{bytes_eq}
use Rattle.std.specs.declared.alloc.Global.{Global}
use Rattle.diagnostics.specs.Places.{module_in, or_first}
use Rattle.command_line.specs.declared.request.Job.{Job}
use Rattle.command_line.specs.declared.request.ValueWords.{ValueWords}
use Rattle.command_line.specs.declared.request.ValueWords.TheVariants as value_words
use Rattle.trees.specs.declared.location.SourceLocation.{SourceLocation}
use Rattle.text.specs.declared.lex_fault.LexFault.{LexFault}
use Rattle.text.specs.declared.lex_fault.LexFault.TheVariants as texts
use Rattle.notation.specs.declared.syntax_fault.SyntaxFault.{SyntaxFault}
use Rattle.notation.specs.declared.syntax_fault.SyntaxFault.TheVariants as trees
use Rattle.names.specs.declared.fault.NameFault.{NameFault}
use Rattle.names.specs.declared.fault.NameFault.TheVariants as names
use Rattle.tagging.specs.declared.fault.TagFault.{TagFault}
use Rattle.tagging.specs.declared.fault.TagFault.TheVariants as tags
use Rattle.constraints.specs.declared.fault.BoundFault.{BoundFault}
use Rattle.constraints.specs.declared.fault.BoundFault.TheVariants as bounds
use Rattle.additions.specs.declared.fault.ExtFault.{ExtFault}
use Rattle.additions.specs.declared.fault.ExtFault.TheVariants as additions
use Rattle.messages.specs.front_end.declared.fault.CompileError.{CompileError}
use Rattle.messages.specs.front_end.declared.fault.CompileError.TheVariants as fronts
use Rattle.messages.specs.declared.fault.NotationFault.{NotationFault}
use Rattle.messages.specs.declared.fault.NotationFault.TheVariants as notations
use Rattle.messages.specs.declared.fault.Fault.{Fault}
use Rattle.messages.specs.declared.fault.Fault.TheVariants as faults

-- ---- the module, the name and the place in a fault

abbrev pub name_location : NameFault → Option SourceLocation
name_location names.Memory = None
name_location (names.Limit l s) = Some s
name_location (names.Twice s) = Some s
name_location (names.UnknownName s) = Some s
name_location (names.NotExported s) = Some s
name_location (names.Circular s) = Some s
name_location (names.UnknownModule s) = Some s

abbrev pub tag_location : TagFault → Option SourceLocation
tag_location tags.Memory = None
tag_location (tags.Limit l s) = Some s
tag_location (tags.TagClash s) = Some s
tag_location (tags.ImplicitChoice s) = Some s
tag_location (tags.UntaggedChoice s) = Some s
tag_location (tags.MixedAutomatic s) = Some s

abbrev pub bound_location : BoundFault → Option SourceLocation
bound_location bounds.Memory = None
bound_location (bounds.Circular s) = Some s
bound_location (bounds.Empty s) = Some s
bound_location (bounds.WrongKind s) = Some s
bound_location (bounds.Reconstrained s) = Some s
bound_location (bounds.LowerAboveUpper s) = Some s
bound_location (bounds.MarkerPlace s) = Some s

abbrev pub addition_location : ExtFault → Option SourceLocation
addition_location additions.Memory = None
addition_location (additions.MarkerPlace s) = Some s
addition_location (additions.AdditionOrder s) = Some s
addition_location (additions.DefaultAddition s) = Some s

abbrev pub front_location : CompileError → Option SourceLocation
front_location fronts.Memory = None
front_location (fronts.Text k f) = None
front_location (fronts.Tree k f) = None
front_location (fronts.Name f) = name_location f
front_location (fronts.Tag f) = tag_location f
front_location (fronts.Bound f) = bound_location f
front_location (fronts.Additions f) = addition_location f
front_location (fronts.Default t) = Some t.source_location
front_location (fronts.Assigned t) = Some t.source_location

abbrev pub location_of : Fault → Option SourceLocation
location_of (faults.Front f) = front_location f
location_of (faults.Newer f) = front_location f
location_of (faults.Value t) = Some t.source_location
location_of fault = None

-- ---- the texts

-- whether a fault is one of the newer texts, where versions are compared
abbrev pub is_newer : Fault → Bool
is_newer (faults.Newer f) = true
is_newer (faults.NoNewerType name) = true
is_newer fault = false

-- the texts in which a fault may be: the newer ones, or the others
abbrev pub texts_of : (texts newer : List (Vec ℕ Global)) → Fault → List (Vec ℕ Global)
texts_of texts newer fault = if is_newer fault then newer else texts

-- the names of the files of these texts
abbrev pub files_of : Job → Fault → List (String Global)
files_of job fault = if is_newer fault then job.newer.items else job.files.items

-- the text of the notation that a job gives
abbrev pub notation_of : ValueWords → List ℕ
notation_of (value_words.Written text) = string_bytes text
notation_of value = []

-- ---- the text, the octet or the token

abbrev pub front_text : CompileError → Option ℕ
front_text (fronts.Text k f) = Some k
front_text (fronts.Tree k f) = Some k
front_text fault = None

-- the number of the text whose octets or tokens are at fault, among the texts of `is_newer`
abbrev pub text_of : Fault → Option ℕ
text_of (faults.Front f) = front_text f
text_of (faults.Newer f) = front_text f
text_of fault = None

abbrev pub lex_octet : LexFault → Option ℕ
lex_octet texts.Memory = None
lex_octet (texts.Limit l p) = Some p
lex_octet (texts.NotUtf8 p) = Some p
lex_octet (texts.BadCharacter p) = Some p
lex_octet (texts.OpenComment p) = Some p
lex_octet (texts.OpenString p) = Some p
lex_octet (texts.BadNumber p) = Some p
lex_octet (texts.BadName p) = Some p

abbrev pub place_in : Option SourceLocation → Option ℕ
place_in = option_map (λ s. s.at)

abbrev pub front_octet : CompileError → Option ℕ
front_octet (fronts.Text k f) = lex_octet f
front_octet fault = place_in (front_location fault)

-- the octet of its text at which a fault is, if it isn't a fault of tokens
abbrev pub octet_of : Fault → Option ℕ
octet_of (faults.Front f) = front_octet f
octet_of (faults.Newer f) = front_octet f
octet_of fault = place_in (location_of fault)

abbrev pub tree_token : SyntaxFault → Option ℕ
tree_token trees.Memory = None
tree_token (trees.Limit l p) = Some p
tree_token (trees.Unexpected p) = Some p
tree_token (trees.OutOfProfile p) = Some p

abbrev pub front_token : CompileError → Option ℕ
front_token (fronts.Tree k f) = tree_token f
front_token fault = None

-- the token of its text at which a fault of tokens is
abbrev pub token_of : Fault → Option ℕ
token_of (faults.Front f) = front_token f
token_of (faults.Newer f) = front_token f
token_of fault = None

-- ---- the module, where a fault doesn't have the number of its text

-- the module in whose text a fault is: the one in the fault, or the one that a name of the command line has
abbrev pub module_of : Fault → Option (List ℕ)
module_of (faults.NoType name) = Some (module_in (string_bytes name))
module_of (faults.NoNewerType name) = Some (module_in (string_bytes name))
module_of (faults.NoValue name) = Some (module_in (string_bytes name))
module_of fault = option_map (λ s. string_bytes s.module) (location_of fault)

abbrev pub is_name_again : NameFault → Bool
is_name_again (names.Twice s) = bytes_eq (string_bytes s.module) (string_bytes s.name)
is_name_again fault = false

abbrev pub is_module_again : CompileError → Bool
is_module_again (fronts.Name f) = is_name_again f
is_module_again fault = false

-- whether a fault is that the name of a module was given again: by a second module, or by an assignment in the module
abbrev pub is_second_module : Fault → Bool
is_second_module (faults.Front f) = is_module_again f
is_second_module (faults.Newer f) = is_module_again f
is_second_module fault = false

-- ---- constructs that this compiler leaves out

abbrev pub tree_left_out : SyntaxFault → Option ℕ
tree_left_out (trees.OutOfProfile p) = Some p
tree_left_out fault = None

abbrev pub front_left_out : CompileError → Option ℕ
front_left_out (fronts.Tree k f) = tree_left_out f
front_left_out fault = None

-- the token with which a construct begins that is left out
abbrev pub left_out_of : Fault → Option ℕ
left_out_of (faults.Front f) = front_left_out f
left_out_of (faults.Newer f) = front_left_out f
left_out_of fault = None

-- ---- the text of a notation

-- the octet, for a fault of the octets or of the value; a fault without a place is at octet 0
abbrev pub notation_octet : NotationFault → Option ℕ
notation_octet (notations.Octets f) = Some (or_first (lex_octet f))
notation_octet (notations.Tokens f) = None
notation_octet (notations.Value t) = Some t.source_location.at

-- the token, for a fault of the tokens; a fault without a place is at token 0
abbrev pub notation_token : NotationFault → Option ℕ
notation_token (notations.Octets f) = None
notation_token (notations.Tokens f) = Some (or_first (tree_token f))
notation_token (notations.Value t) = None

abbrev pub notation_left_out : NotationFault → Option ℕ
notation_left_out (notations.Octets f) = None
notation_left_out (notations.Tokens f) = tree_left_out f
notation_left_out (notations.Value t) = None
