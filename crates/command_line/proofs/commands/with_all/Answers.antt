use Rattle.std.proofs.Common.{◌∙◌}
use Rattle.command_line.proofs.Adding.{no_more_globals, one_argument_more}
use Rattle.command_line.proofs.commands.with_all.Goals as goal

pub loop-argument-preserved : goal.loop-argument-preserved
loop-argument-preserved c = record {
  shape = one_argument_more _ _ _ _ _ _ _ c.loop-argument-test.true c.arg_of.ensures.rule c.loop-argument.invariant.shape
      (c.in_ok-whole.ensures.shape c.arg_of.ensures.local);
  local = no_more_globals _ _ _ c.in_ok-whole.ensures.globals c.arg_of.ensures.local ∙ c.loop-argument.invariant.local;
}
