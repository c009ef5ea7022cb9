-- The command lines that the programs asnc and octcheck accept, and what a job has of one.
use Rattle.std.specs.Prelude.{◌≡◌, ◌⊎◌, ⊤, ℕ, List, [], ◌∷◌, ◌++◌, codes, map, option_map, string_bytes}
use Rattle.std.specs.Prelude.{unwrap_or}
use Rattle.std.specs.Prelude.{true, false, Bool, Option, None, Some, IsSome, Ok}
use Rattle.std.specs.List.{list_any}
use Rattle.std.specs.Str.{bytes_eq}
use Rattle.clap.specs.Words.{App, Rule, new_app, new_rule, with_rule, with_subcommand}
use Rattle.clap.specs.Words.{Row, Text, IsAmong, all_of, fault_of, first_of, one_of, matches_of, subcommand_of}
use Rattle.clap.specs.declared.builder.ArgAction.TheVariants.{Append, Set, SetTrue}
use Rattle.clap.specs.declared.error.kind.ErrorKind.{ErrorKind}
use Rattle.clap.specs.declared.error.kind.ErrorKind.TheVariants as kinds
use Rattle.hex.specs.Hex.{decode_of}
use Rattle.source_text.specs.Shown.{shown}
use Rattle.command_line.specs.declared.fault.WordsFault.{WordsFault}
use Rattle.command_line.specs.declared.fault.WordsFault.TheVariants as faults
use Rattle.command_line.specs.declared.request.Command.{Command}
use Rattle.command_line.specs.declared.request.Command.TheVariants as commands
use Rattle.command_line.specs.declared.request.Job.{Job}
use Rattle.command_line.specs.declared.request.ModuleTexts.{ModuleTexts}
use Rattle.command_line.specs.declared.request.ValueWords.{ValueWords}
use Rattle.command_line.specs.declared.request.ValueWords.TheVariants as value_words
use Rattle.command_line.specs.declared.request.Given.{Given}
use Rattle.command_line.specs.declared.request.Given.TheVariants as given
use Rattle.command_line.specs.Commands.{face, face_of}

-- `--ID TEXT`, which is required
abbrev pub text_rule : Text → Rule
text_rule id = record (new_rule id) {
  long = Some id;
  value_names = 1;
  required = true;
  action = Some Set;
}

-- `--ID TEXT`, which is optional
abbrev pub choice_rule : Text → Rule
choice_rule id = record (new_rule id) { long = Some id; value_names = 1; action = Some Set }

-- `--ID`, which is optional
abbrev pub flag_rule : Text → Rule
flag_rule id = record (new_rule id) { long = Some id; action = Some SetTrue }

-- the words at the end, at least one
abbrev pub files_rule : Rule
files_rule = record (new_rule (codes "FILE")) { required = true; action = Some Append }

-- `--newer TEXT`, at least once
abbrev pub newer_rule : Rule
newer_rule = record (new_rule (codes "newer")) {
  long = Some (codes "newer");
  value_names = 1;
  required = true;
  action = Some Append;
}

-- `NAME --type TEXT [--value TEXT] [--notation TEXT]`
abbrev pub value_names_app : Text → App
value_names_app name =
    with_rule (with_rule (with_rule (new_app name) (text_rule (codes "type"))) (choice_rule (codes "value")))
    (choice_rule (codes "notation"))

-- `NAME --type TEXT [--value TEXT] [--notation TEXT] [--context] FILE..`
abbrev pub value_app : Text → App
value_app name = with_rule (with_rule (value_names_app name) (flag_rule (codes "context"))) files_rule

-- `NAME --type TEXT [--value TEXT] [--notation TEXT] [--lines]`
abbrev pub value_lines_app : Text → App
value_lines_app name = with_rule (value_names_app name) (flag_rule (codes "lines"))

-- `NAME --type TEXT [--value TEXT] [--notation TEXT] [--lines] [--raw] [--context]`
abbrev pub written_flags_app : Text → App
written_flags_app name =
    with_rule (with_rule (value_lines_app name) (flag_rule (codes "raw"))) (flag_rule (codes "context"))

-- `NAME --type TEXT [--value TEXT] [--notation TEXT] [--lines] [--raw] [--context] FILE..`, for `der` and `uper`
abbrev pub written_app : Text → App
written_app name = with_rule (written_flags_app name) files_rule

-- `NAME --type TEXT [--hex TEXT] [--lines]`
abbrev pub octets_lines_app : Text → App
octets_lines_app name =
    with_rule (with_rule (with_rule (new_app name) (text_rule (codes "type"))) (choice_rule (codes "hex")))
    (flag_rule (codes "lines"))

-- `ber --type TEXT [--hex TEXT] [--lines] [--strict] [--context]`
abbrev pub ber_flags_app : App
ber_flags_app =
    with_rule (with_rule (octets_lines_app (codes "ber")) (flag_rule (codes "strict"))) (flag_rule (codes "context"))

-- `ber --type TEXT [--hex TEXT] [--lines] [--strict] [--context] FILE..`
abbrev pub ber_app : App
ber_app = with_rule ber_flags_app files_rule

-- `unper --type TEXT [--hex TEXT] [--lines] [--context]`
abbrev pub unper_flags_app : App
unper_flags_app = with_rule (octets_lines_app (codes "unper")) (flag_rule (codes "context"))

-- `unper --type TEXT [--hex TEXT] [--lines] [--context] FILE..`
abbrev pub unper_app : App
unper_app = with_rule unper_flags_app files_rule

-- `list [--context] FILE..`
abbrev pub list_app : App
list_app = with_rule (with_rule (new_app (codes "list")) (flag_rule (codes "context"))) files_rule

-- `later --type TEXT --newer TEXT.. [--context]`
abbrev pub later_names_app : App
later_names_app =
    with_rule (with_rule (with_rule (new_app (codes "later")) (text_rule (codes "type"))) newer_rule)
    (flag_rule (codes "context"))

-- `later --type TEXT --newer TEXT.. [--context] FILE..`
abbrev pub later_app : App
later_app = with_rule later_names_app files_rule

-- `NAME --type TEXT --hex TEXT`
abbrev pub octets_names_app : Text → App
octets_names_app name = with_rule (with_rule (new_app name) (text_rule (codes "type"))) (text_rule (codes "hex"))

-- `show --type TEXT --hex TEXT [--context] FILE..`
abbrev pub show_app : App
show_app =
    with_rule (with_rule (octets_names_app (codes "show")) (flag_rule (codes "context"))) files_rule

-- the program asnc without its commands: a command is required, `help` isn't one, and there is a version
abbrev pub bare_app : App
bare_app = record (new_app (codes "asnc")) {
  top = record (new_app (codes "asnc")).top {
    subcommand_required = true;
    disable_help_subcommand = true;
    has_version = true;
  };
}

-- the commands `der` and `ber`
abbrev pub octets_app : App
octets_app = with_subcommand (with_subcommand bare_app (written_app (codes "der")).top) ber_app.top

-- the commands `der`, `ber`, `uper` and `unper`
abbrev pub packed_app : App
packed_app = with_subcommand (with_subcommand octets_app (written_app (codes "uper")).top) unper_app.top

-- the commands `der`, `ber`, `uper`, `unper`, `account` and `list`
abbrev pub listing_app : App
listing_app = with_subcommand (with_subcommand packed_app (value_app (codes "account")).top) list_app.top

-- the commands `der`, `ber`, `uper`, `unper`, `account`, `list` and `later`
abbrev pub comparing_app : App
comparing_app = with_subcommand listing_app later_app.top

-- the commands `der`, `ber`, `uper`, `unper`, `account`, `list`, `later` and `show`
abbrev pub asnc_app : App
asnc_app = with_subcommand comparing_app show_app.top

-- the program octcheck without its arguments: there is a version, and there are no commands
abbrev pub bare_check_app : App
bare_check_app = record (new_app (codes "octcheck")) {
  top = record (new_app (codes "octcheck")).top { has_version = true };
}

-- `octcheck --type TEXT [--value TEXT] [--notation TEXT]`
abbrev pub check_names_app : App
check_names_app =
    with_rule (with_rule (with_rule bare_check_app (text_rule (codes "type"))) (choice_rule (codes "value")))
    (choice_rule (codes "notation"))

-- `octcheck --type TEXT [--value TEXT] [--notation TEXT] --hex TEXT --account TEXT`
abbrev pub check_texts_app : App
check_texts_app = with_rule (with_rule check_names_app (text_rule (codes "hex"))) (text_rule (codes "account"))

-- `octcheck --type TEXT [--value TEXT] [--notation TEXT] --hex TEXT --account TEXT [--context] FILE..`
abbrev pub octcheck_app : App
octcheck_app = with_rule (with_rule check_texts_app (flag_rule (codes "context"))) files_rule

-- the first word, or the empty one if there are no words
abbrev pub first_word : List Text → Text
first_word [] = []
first_word (w ∷ ws) = w

-- the words are those of octcheck; otherwise they are those of asnc
abbrev pub AreOfChecker : List Text → Type 0
AreOfChecker words = first_word words ≡ codes "octcheck"

-- the text that was given for an argument, or the empty one
abbrev pub text_in : List Row → Text → Text
text_in rows id = unwrap_or (first_of id rows) []

-- the texts that were given for an argument
abbrev pub texts_in : List Row → Text → List Text
texts_in rows id = unwrap_or (all_of id rows) []

-- the value that is given by the text of `--value` or by that of `--notation`, if there is one of them alone
abbrev pub IsValueOf : (name notation : Option Text) → ValueWords → Type 0
IsValueOf (Some n) None (value_words.Named s) = string_bytes s ≡ n
IsValueOf None (Some t) (value_words.Written s) = string_bytes s ≡ t
IsValueOf name notation value = ⊥

-- the flag is given
abbrev pub IsSet : List Row → Text → Type 0
IsSet rows id = first_of id rows ≡ Some (codes "true")

-- a text is given for the argument
abbrev pub IsGivenFor : List Row → Text → Type 0
IsGivenFor rows id = IsSome (first_of id rows)

-- whether the name of standard input, `-`, is among names
abbrev pub has_input : List Text → Bool
has_input = list_any (λ name. bytes_eq name (codes "-"))

-- standard input is one of the files
abbrev pub NamesInput : List Row → Type 0
NamesInput rows = has_input (texts_in rows (codes "FILE")) ≡ true

-- there are words that exclude `--lines`: a value, octets, `--raw`, or standard input as a file, which would be read
-- twice
abbrev pub ExcludesLines : List Row → Type 0
ExcludesLines rows = IsGivenFor rows (codes "value")
    ⊎ (IsGivenFor rows (codes "notation")
    ⊎ (IsGivenFor rows (codes "hex")
    ⊎ (IsSet rows (codes "raw") ⊎ NamesInput rows)))

-- The first of the words that exclude `--lines`, as it is named by what is wrong: a value, octets, `--raw`, or standard
-- input.
abbrev pub IsExcluding : List Row → Text → Type 0
IsExcluding rows word = (IsGivenFor rows (codes "value") × (word ≡ codes "--value"))
    ⊎ ((IsGivenFor rows (codes "value") → ⊥)
    × ((IsGivenFor rows (codes "notation") × (word ≡ codes "--notation"))
    ⊎ ((IsGivenFor rows (codes "notation") → ⊥)
    × ((IsGivenFor rows (codes "hex") × (word ≡ codes "--hex"))
    ⊎ ((IsGivenFor rows (codes "hex") → ⊥)
    × ((IsSet rows (codes "raw") × (word ≡ codes "--raw"))
    ⊎ ((IsSet rows (codes "raw") → ⊥)
    × NamesInput rows
    × (word ≡ codes "the FILE -, which is standard input too"))))))))

-- whether the words ask for lines of standard input; nothing excludes them if they do
abbrev pub AsksLines : List Row → Bool → Type 0
AsksLines rows true = IsSet rows (codes "lines") × (ExcludesLines rows → ⊥)
AsksLines rows false = IsSet rows (codes "lines") → ⊥

-- The words ask for lines of standard input beside words that exclude them. The text t says which is the first of
-- these.
pub record MixesLines (rows : List Row) (t : Text) : Type 0 where
  pub lines : IsSet rows (codes "lines")
  pub excludes : ExcludesLines rows
  pub word : Text
  pub excluding : IsExcluding rows word
  pub said : t ≡ codes "found --lines and "
      ++ (word ++ codes ", expected one of them (asnc COMMAND --help shows the words)")

-- the same as a fault; `Memory` says nothing of the words
abbrev pub IsMixed : List Row → WordsFault → Type 0
IsMixed rows faults.Memory = ⊤
IsMixed rows (faults.BadWords t) = MixesLines rows (string_bytes t)
IsMixed rows (faults.Help t) = ⊥

-- There is neither a text of `--value` nor one of `--notation`, or there are both. The text t says which, and what was
-- expected.
abbrev pub AreNoValue : (expected : Text) → (name notation : Option Text) → (t : Text) → Type 0
AreNoValue expected (Some n) (Some m) t = t ≡ codes "found " ++ (codes "both" ++ (codes ", expected " ++ expected))
AreNoValue expected None None t = t ≡ codes "found " ++ (codes "neither" ++ (codes ", expected " ++ expected))
AreNoValue expected name notation t = ⊥

-- the fault of words that give no value, or give it twice; `Memory` says nothing of them
abbrev pub IsNoValueOf : (expected : Text) → (name notation : Option Text) → WordsFault → Type 0
IsNoValueOf expected name notation faults.Memory = ⊤
IsNoValueOf expected name notation (faults.BadWords t) = AreNoValue expected name notation (string_bytes t)
IsNoValueOf expected name notation (faults.Help t) = ⊥

-- the same of what was found in the words
abbrev pub IsNoValueIn : (expected : Text) → List Row → WordsFault → Type 0
IsNoValueIn expected rows fault =
    IsNoValueOf expected (first_of (codes "value") rows) (first_of (codes "notation") rows) fault

-- the words give no value, or give it twice; the text t says which
abbrev pub GivesNoValue : (expected : Text) → List Row → (t : Text) → Type 0
GivesNoValue expected rows t = AreNoValue expected (first_of (codes "value") rows) (first_of (codes "notation") rows) t

-- what a command that takes lines expects, one that takes a value alone, and octcheck
abbrev pub value_or_lines : Text
value_or_lines = codes "one of --value, --notation and --lines (asnc COMMAND --help shows the words)"

abbrev pub value_alone : Text
value_alone = codes "one of --value and --notation (asnc COMMAND --help shows the words)"

abbrev pub checked_value : Text
checked_value = codes "one of --value and --notation (octcheck --help shows the words)"

-- The value of a command that takes lines. With `--lines` it is that of each line of standard input, and no words
-- exclude this; without it the text of `--value` or of `--notation` gives it.
pub record IsValueOrLines (rows : List Row) (value : ValueWords) : Type 0 where
  pub lines : IsSet rows (codes "lines") → value ≡ value_words.Lines
  pub not_mixed : IsSet rows (codes "lines") → ExcludesLines rows → ⊥
  pub one : (IsSet rows (codes "lines") → ⊥)
      → IsValueOf (first_of (codes "value") rows) (first_of (codes "notation") rows) value

-- the words of a command that takes lines give no value: `--lines` is mixed with words that exclude it, or it isn't
-- given and the words give no value, or give it twice
abbrev pub LacksValueOrLines : List Row → (t : Text) → Type 0
LacksValueOrLines rows t =
    MixesLines rows t ⊎ ((IsSet rows (codes "lines") → ⊥) × GivesNoValue value_or_lines rows t)

-- the same as a fault; `Memory` says nothing of the words
abbrev pub IsNoValueOrLines : List Row → WordsFault → Type 0
IsNoValueOrLines rows faults.Memory = ⊤
IsNoValueOrLines rows (faults.BadWords t) = LacksValueOrLines rows (string_bytes t)
IsNoValueOrLines rows (faults.Help t) = ⊥

-- a flag is true if it was given, and false if it wasn't
pub record IsFlag (rows : List Row) (id : Text) (flag : Bool) : Type 0 where
  pub set : (one_of id rows ≡ Some (codes "true")) → flag ≡ true
  pub not_set : (one_of id rows ≡ Some (codes "false")) → flag ≡ false

-- the text that was given as the name of a type
abbrev pub IsTypeName : List Row → Text → Type 0
IsTypeName rows name = name ≡ text_in rows (codes "type")

-- the files that were named at the end of the words, and the flag `--context`
pub record AreTexts (rows : List Row) (texts : ModuleTexts) : Type 0 where
  pub files : map string_bytes texts.files.items ≡ texts_in rows (codes "FILE")
  pub context : IsFlag rows (codes "context") texts.context

-- the command is `der`, with what was found for its arguments
abbrev pub IsDer : List Row → Command → Type 0
IsDer rows (commands.Der ty value raw texts) = IsTypeName rows (string_bytes ty)
    × IsValueOrLines rows value
    × IsFlag rows (codes "raw") raw
    × AreTexts rows texts
IsDer rows command = ⊥

-- the command is `uper`, with what was found for its arguments
abbrev pub IsUper : List Row → Command → Type 0
IsUper rows (commands.Uper ty value raw texts) = IsTypeName rows (string_bytes ty)
    × IsValueOrLines rows value
    × IsFlag rows (codes "raw") raw
    × AreTexts rows texts
IsUper rows command = ⊥

-- the command is `account`, with what was found for its arguments
abbrev pub IsAccount : List Row → Command → Type 0
IsAccount rows (commands.Account ty value texts) = IsTypeName rows (string_bytes ty)
    × IsValueOf (first_of (codes "value") rows) (first_of (codes "notation") rows) value
    × AreTexts rows texts
IsAccount rows command = ⊥

-- The octets that a text gives. After an `@` the text is the name of the file that has the octets; otherwise its digits
-- are the octets, two for each.
abbrev pub IsGiven : Text → Given → Type 0
IsGiven text (given.Path name) = text ≡ 64 ∷ string_bytes name
IsGiven text (given.Octets o) = decode_of text ≡ Ok o.items
IsGiven text given.Nothing = ⊥
IsGiven text given.Lines = ⊥

-- The text gives no octets. The text t says so, with this text in it as messages show names.
-- `help` are the words that ask for help, but for `--help`.
pub record IsNoOctets (help text t : Text) : Type 0 where
  pub no_file : (name : List ℕ) → text ≡ 64 ∷ name → ⊥
  pub no_digits : (o : List ℕ) → decode_of text ≡ Ok o → ⊥
  pub quoted : Text
  pub shown_so : quoted ≡ shown text
  pub said : t ≡ codes "found " ++ (quoted ++ (codes " after --hex, expected "
      ++ (codes "two hexadecimal digits for each octet, or @ and the name of a file"
      ++ (codes " (" ++ (help ++ codes " --help shows the words)")))))

-- the octets that a text gives, if there is a text
abbrev pub IsGivenBy : Option Text → Given → Type 0
IsGivenBy (Some text) octets = IsGiven text octets
IsGivenBy None octets = ⊥

-- there is no text, or it gives no octets; the text t says which
abbrev pub AreNoOctets : Option Text → (t : Text) → Type 0
AreNoOctets (Some text) t = IsNoOctets (codes "asnc COMMAND") text t
AreNoOctets None t = t ≡ codes "found neither, expected one of --hex and --lines (asnc COMMAND --help shows the words)"

-- the same as a fault; `Memory` says nothing of the text
abbrev pub GivesNoOctets : Option Text → WordsFault → Type 0
GivesNoOctets text faults.Memory = ⊤
GivesNoOctets text (faults.BadWords t) = AreNoOctets text (string_bytes t)
GivesNoOctets text (faults.Help t) = ⊥

-- The octets of a command that takes lines. With `--lines` they are those of each line of standard input, and no words
-- exclude this; without it the text of `--hex` gives them.
pub record IsOctetsOrLines (rows : List Row) (octets : Given) : Type 0 where
  pub lines : IsSet rows (codes "lines") → octets ≡ given.Lines
  pub not_mixed : IsSet rows (codes "lines") → ExcludesLines rows → ⊥
  pub one : (IsSet rows (codes "lines") → ⊥) → IsGivenBy (first_of (codes "hex") rows) octets

-- the words of a command that takes lines give no octets: `--lines` is mixed with words that exclude it, or it isn't
-- given and there is no text of `--hex` that gives octets
abbrev pub LacksOctetsOrLines : List Row → (t : Text) → Type 0
LacksOctetsOrLines rows t =
    MixesLines rows t ⊎ ((IsSet rows (codes "lines") → ⊥) × AreNoOctets (first_of (codes "hex") rows) t)

-- the same as a fault; `Memory` says nothing of the words
abbrev pub IsNoOctetsOrLines : List Row → WordsFault → Type 0
IsNoOctetsOrLines rows faults.Memory = ⊤
IsNoOctetsOrLines rows (faults.BadWords t) = LacksOctetsOrLines rows (string_bytes t)
IsNoOctetsOrLines rows (faults.Help t) = ⊥

-- the command is `ber`, with what was found for its arguments, and the octets of its words or of lines
abbrev pub IsBer : List Row → Command → Type 0
IsBer rows (commands.Ber ty octets strict texts) = IsTypeName rows (string_bytes ty)
    × IsOctetsOrLines rows octets
    × IsFlag rows (codes "strict") strict
    × AreTexts rows texts
IsBer rows command = ⊥

-- the command is `unper`, with what was found for its arguments, and the octets of its words or of lines
abbrev pub IsUnper : List Row → Command → Type 0
IsUnper rows (commands.Unper ty octets texts) = IsTypeName rows (string_bytes ty)
    × IsOctetsOrLines rows octets
    × AreTexts rows texts
IsUnper rows command = ⊥

-- the command is `list`, with what was found for its arguments
abbrev pub IsList : List Row → Command → Type 0
IsList rows (commands.List texts) = AreTexts rows texts
IsList rows command = ⊥

-- the command is `later`, with what was found for its arguments
abbrev pub IsLater : List Row → Command → Type 0
IsLater rows (commands.Later ty newer texts) = IsTypeName rows (string_bytes ty)
    × (map string_bytes newer.items ≡ texts_in rows (codes "newer"))
    × AreTexts rows texts
IsLater rows command = ⊥

-- the command is `show`, with what was found for its arguments, and the octets that the text of `--hex` gives
abbrev pub IsShow : List Row → Command → Type 0
IsShow rows (commands.Show ty octets texts) = IsTypeName rows (string_bytes ty)
    × IsGiven (text_in rows (codes "hex")) octets
    × AreTexts rows texts
IsShow rows command = ⊥

-- the command is that of `octcheck`, with what was found for its arguments, and the octets that the text of `--hex`
-- gives
abbrev pub IsCheck : List Row → Command → Type 0
IsCheck rows (commands.Check ty value octets account texts) = IsTypeName rows (string_bytes ty)
    × IsValueOf (first_of (codes "value") rows) (first_of (codes "notation") rows) value
    × IsGiven (text_in rows (codes "hex")) octets
    × (string_bytes account ≡ text_in rows (codes "account"))
    × AreTexts rows texts
IsCheck rows command = ⊥

-- The command is the one with this name: `list`, `ber`, `uper`, `unper`, `account`, `later`, `show`, or otherwise
-- `der`.
pub record IsCommandOf (name : Text) (rows : List Row) (command : Command) : Type 0 where
  pub list : name ≡ codes "list" → IsList rows command
  pub ber : name ≡ codes "ber" → IsBer rows command
  pub uper : name ≡ codes "uper" → IsUper rows command
  pub unper : name ≡ codes "unper" → IsUnper rows command
  pub account : name ≡ codes "account" → IsAccount rows command
  pub later : name ≡ codes "later" → IsLater rows command
  pub show : name ≡ codes "show" → IsShow rows command
  pub der : (name ≡ codes "list" → ⊥)
      → (name ≡ codes "ber" → ⊥)
      → (name ≡ codes "uper" → ⊥)
      → (name ≡ codes "unper" → ⊥)
      → (name ≡ codes "account" → ⊥)
      → (name ≡ codes "later" → ⊥)
      → (name ≡ codes "show" → ⊥)
      → IsDer rows command

-- the fault of a text that gives no octets; `Memory` says nothing of the text
abbrev pub IsNotGiven : (help text : Text) → WordsFault → Type 0
IsNotGiven help text faults.Memory = ⊤
IsNotGiven help text (faults.BadWords t) = IsNoOctets help text (string_bytes t)
IsNotGiven help text (faults.Help t) = ⊥

-- the command takes octets or lines of them
abbrev pub TakesOctets : Text → Type 0
TakesOctets command = (command ≡ codes "ber") ⊎ (command ≡ codes "unper")

-- the command takes a value or lines of values: it isn't one of the others
abbrev pub TakesValue : Text → Type 0
TakesValue command = (command ≡ codes "list" → ⊥)
    × (command ≡ codes "ber" → ⊥)
    × (command ≡ codes "unper" → ⊥)
    × (command ≡ codes "account" → ⊥)
    × (command ≡ codes "later" → ⊥)
    × (command ≡ codes "show" → ⊥)

-- The command takes octets or lines of them, and the words give neither or mix them. Or it takes a value or lines of
-- values, and the words give none, or two, or mix them. Or it is `account`, and the words give no value or give it
-- twice. Or it is `show`, and the text of `--hex` gives no octets. The text t says which it is.
abbrev pub LacksInput : Text → List Row → (t : Text) → Type 0
LacksInput command rows t = (TakesOctets command × LacksOctetsOrLines rows t)
    ⊎ ((TakesValue command × LacksValueOrLines rows t)
    ⊎ (((command ≡ codes "account") × GivesNoValue value_alone rows t)
    ⊎ ((command ≡ codes "show") × IsNoOctets (codes "asnc COMMAND") (text_in rows (codes "hex")) t)))

-- the fault of a command without a job; `Memory` says nothing of the words
abbrev pub IsNoJobOf : Text → List Row → WordsFault → Type 0
IsNoJobOf command rows faults.Memory = ⊤
IsNoJobOf command rows (faults.BadWords t) = LacksInput command rows (string_bytes t)
IsNoJobOf command rows (faults.Help t) = ⊥

-- the words of octcheck give no value or give it twice, or the text of `--hex` gives no octets
abbrev pub LacksCheckInput : List Row → (t : Text) → Type 0
LacksCheckInput rows t =
    GivesNoValue checked_value rows t ⊎ IsNoOctets (codes "octcheck") (text_in rows (codes "hex")) t

-- the fault of words of octcheck without a job; `Memory` says nothing of them
abbrev pub IsNoCheckOf : List Row → WordsFault → Type 0
IsNoCheckOf rows faults.Memory = ⊤
IsNoCheckOf rows (faults.BadWords t) = LacksCheckInput rows (string_bytes t)
IsNoCheckOf rows (faults.Help t) = ⊥

-- the words of asnc have no fault, and the command is the one that they name, with what they give for it
pub record IsAsncCommand (words : List Text) (command : Command) : Type 0 where
  pub taken : fault_of asnc_app words ≡ []
  pub name : Text
  pub called : option_map (λ p. p.0) (subcommand_of asnc_app words) ≡ Some name
  pub rows : List Row
  pub found : option_map (λ p. p.1) (subcommand_of asnc_app words) ≡ Some rows
  pub holds : IsCommandOf name rows command

-- the words of octcheck have no fault, and the command has what they give
pub record IsCheckCommand (words : List Text) (command : Command) : Type 0 where
  pub taken : fault_of octcheck_app words ≡ []
  pub holds : IsCheck (matches_of octcheck_app words) command

-- the command is the one that the words of asnc or of octcheck ask for
pub record IsAsked (words : List Text) (command : Command) : Type 0 where
  pub check : AreOfChecker words → IsCheckCommand words command
  pub asnc : (AreOfChecker words → ⊥) → IsAsncCommand words command

-- the job is the one that the words of asnc or of octcheck ask for: it has what their command takes, and nothing else
pub record IsRequested (words : List Text) (job : Job) : Type 0 where
  pub command : Command
  pub asked : IsAsked words command
  pub has : face job ≡ face_of command

-- the fault that a failure of this kind to read the words becomes
abbrev pub IsFaultOf : ErrorKind → WordsFault → Type 0
IsFaultOf k faults.Memory = k ≡ kinds.OutOfMemory
IsFaultOf k (faults.Help t) = (k ≡ kinds.DisplayHelp) ⊎ (k ≡ kinds.DisplayVersion)
IsFaultOf k (faults.BadWords t) =
    (k ≡ kinds.OutOfMemory → ⊥) × (k ≡ kinds.DisplayHelp → ⊥) × (k ≡ kinds.DisplayVersion → ⊥)

-- The words have no other fault than this: they lack the octets or the value that their command takes, as the text t
-- says.
pub record HasNoJob (words : List Text) (t : Text) : Type 0 where
  pub taken : fault_of asnc_app words ≡ []
  pub command : Text
  pub called : option_map (λ p. p.0) (subcommand_of asnc_app words) ≡ Some command
  pub rows : List Row
  pub found : option_map (λ p. p.1) (subcommand_of asnc_app words) ≡ Some rows
  pub lacks : LacksInput command rows t

-- the words of octcheck have no other fault than this: they lack the value or the octets, as the text t says
pub record HasNoCheck (words : List Text) (t : Text) : Type 0 where
  pub taken : fault_of octcheck_app words ≡ []
  pub lacks : LacksCheckInput (matches_of octcheck_app words) t

-- the words of a program have a fault that isn't a request for help or for the version
pub record IsUsageError (a : App) (words : List Text) : Type 0 where
  pub kind : ErrorKind
  pub among : IsAmong kind (fault_of a words)
  pub no_help : kind ≡ kinds.DisplayHelp → ⊥
  pub no_version : kind ≡ kinds.DisplayVersion → ⊥

-- The words of a program are refused. They ask for help or for the version, they have another fault, or they lack
-- octets or a value where these are required. `Memory` says nothing of the words.
abbrev pub IsRefusedBy : App → (Lacks : Text → Type 0) → List Text → WordsFault → Type 0
IsRefusedBy a Lacks words faults.Memory = ⊤
IsRefusedBy a Lacks words (faults.Help t) =
    IsAmong kinds.DisplayHelp (fault_of a words) ⊎ IsAmong kinds.DisplayVersion (fault_of a words)
IsRefusedBy a Lacks words (faults.BadWords t) = IsUsageError a words ⊎ Lacks (string_bytes t)

-- the words of asnc or of octcheck are refused
pub record IsRefused (words : List Text) (fault : WordsFault) : Type 0 where
  pub check : AreOfChecker words → IsRefusedBy octcheck_app (HasNoCheck words) words fault
  pub command : (AreOfChecker words → ⊥) → IsRefusedBy asnc_app (HasNoJob words) words fault
