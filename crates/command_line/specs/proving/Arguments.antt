-- What commands take, as folds over lists of arguments and of commands.
use Rattle.std.specs.Prelude.{List, codes, fold}
use Rattle.clap.specs.Words.{App, Rule, with_rule, with_subcommand}
use Rattle.command_line.specs.CommandLine.{ber_app, choice_rule, files_rule, flag_rule, later_app, list_app, newer_rule}
use Rattle.command_line.specs.CommandLine.{octcheck_app, show_app, text_rule, unper_app, value_app, written_app}
use Rattle.command_line.specs.declared.commands.Argument.{Argument}
use Rattle.command_line.specs.declared.commands.Argument.TheVariants as arguments
use Rattle.command_line.specs.declared.request.Verb.{Verb}
use Rattle.command_line.specs.declared.request.Verb.TheVariants as verbs

-- what a parse reads of an argument
abbrev pub rule_for : Argument → Rule
rule_for arguments.Type = text_rule (codes "type")
rule_for arguments.TypeOfBoth = text_rule (codes "type")
rule_for arguments.Value = choice_rule (codes "value")
rule_for arguments.Notation = choice_rule (codes "notation")
rule_for arguments.Octets = text_rule (codes "hex")
rule_for arguments.OctetsOrLines = choice_rule (codes "hex")
rule_for arguments.Account = text_rule (codes "account")
rule_for arguments.Newer = newer_rule
rule_for arguments.ValueLines = flag_rule (codes "lines")
rule_for arguments.OctetLines = flag_rule (codes "lines")
rule_for arguments.Raw = flag_rule (codes "raw")
rule_for arguments.Strict = flag_rule (codes "strict")
rule_for arguments.Context = flag_rule (codes "context")
rule_for arguments.Files = files_rule

-- a command with one more argument
abbrev pub with_argument : App → Argument → App
with_argument a x = with_rule a (rule_for x)

-- a command with these arguments more, in order
abbrev pub with_arguments : App → List Argument → App
with_arguments = fold with_argument

-- the command of a verb
abbrev pub app_for : Verb → App
app_for verbs.Der = written_app (codes "der")
app_for verbs.Ber = ber_app
app_for verbs.Uper = written_app (codes "uper")
app_for verbs.Unper = unper_app
app_for verbs.Account = value_app (codes "account")
app_for verbs.List = list_app
app_for verbs.Later = later_app
app_for verbs.Show = show_app
app_for verbs.Check = octcheck_app

-- a program with the command of one more verb
abbrev pub with_command_of : App → Verb → App
with_command_of a v = with_subcommand a (app_for v).top

-- a program with the commands of these verbs more, in order
abbrev pub with_commands_of : App → List Verb → App
with_commands_of = fold with_command_of
