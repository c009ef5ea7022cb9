use Rattle.std.proofs.Common.{◌≡◌, take}
use Rattle.clap.specs.Words.{app_of}
use Rattle.clap.specs.declared.builder.command.Command.TheViews.{out-Command}
use Rattle.command_line.specs.proving.Arguments.{with_commands_of}
use Rattle.command_line.proofs.commands.with_commands.Given as goal

abbrev pub invariant-loop-verb : goal.invariant-loop-verb
invariant-loop-verb l = record {
  shape : app_of l.whole ≡ with_commands_of (app_of l.fn.program) (take l.verb-index l.verbs);
  local : (out-Command l.whole).has_globals ≡ (out-Command l.fn.program).has_globals;
}
