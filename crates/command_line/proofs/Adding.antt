-- One more argument of a command, and one more command of a program.
use Rattle.std.proofs.Common.{◌≡◌, ◌∙◌, ◌+◌, ◌<◌, ◌||◌, ℕ, Bool, false, true, List, ap, get_or, length, sym, take}
use Rattle.std.proofs.lemmas.List.Sums.{fold_more}
use Rattle.clap.specs.Words.{App, Rule, Shape, with_rule, with_subcommand}
use Rattle.command_line.specs.declared.commands.Argument.{Argument}
use Rattle.command_line.specs.declared.request.Verb.{Verb}
use Rattle.command_line.specs.proving.Arguments.{app_for, rule_for, with_argument, with_arguments, with_command_of}
use Rattle.command_line.specs.proving.Arguments.{with_commands_of}

pub one_argument_more : (a w n : App) (xs : List Argument) (i : ℕ) (d : Argument) (r : Rule)
    → i < length xs
    → r ≡ rule_for (get_or xs i d)
    → w ≡ with_arguments a (take i xs)
    → n ≡ with_rule w r
    → n ≡ with_arguments a (take (i + 1) xs)
one_argument_more a w n xs i d r h rule here next = next ∙ ap (with_rule w) rule
    ∙ ap (λ (x : App). with_rule x (rule_for (get_or xs i d))) here ∙ sym (fold_more with_argument a xs i d h)

pub one_command_more : (a w n : App) (vs : List Verb) (i : ℕ) (d : Verb) (s : Shape)
    → i < length vs
    → s ≡ (app_for (get_or vs i d)).top
    → w ≡ with_commands_of a (take i vs)
    → n ≡ with_subcommand w s
    → n ≡ with_commands_of a (take (i + 1) vs)
one_command_more a w n vs i d s h shape here next = next ∙ ap (with_subcommand w) shape
    ∙ ap (λ (x : App). with_subcommand x (app_for (get_or vs i d)).top) here
    ∙ sym (fold_more with_command_of a vs i d h)

pub no_more_globals : (old more new : Bool) → new ≡ (old || more) → more ≡ false → new ≡ old
no_more_globals true more new e m = e
no_more_globals false more new e m = e ∙ m
