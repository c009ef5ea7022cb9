use Rattle.std.proofs.Common.{◌≡◌, take}
use Rattle.clap.specs.Words.{app_of}
use Rattle.clap.specs.declared.builder.command.Command.TheViews.{out-Command}
use Rattle.command_line.specs.proving.Arguments.{with_arguments}
use Rattle.command_line.proofs.commands.with_all.Given as goal

abbrev pub invariant-loop-argument : goal.invariant-loop-argument
invariant-loop-argument l = record {
  shape : app_of l.whole ≡ with_arguments (app_of l.fn.command) (take l.argument-index l.arguments);
  local : (out-Command l.whole).has_globals ≡ (out-Command l.fn.command).has_globals;
}
