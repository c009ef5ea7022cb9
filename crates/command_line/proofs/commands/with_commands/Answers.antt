use Rattle.std.proofs.Common.{◌∙◌, ap}
use Rattle.clap.specs.Words.{App}
use Rattle.command_line.proofs.Adding.{no_more_globals, one_command_more}
use Rattle.command_line.proofs.commands.with_commands.Goals as goal

pub loop-verb-preserved : goal.loop-verb-preserved
loop-verb-preserved c = record {
  shape = one_command_more _ _ _ _ _ _ _ c.loop-verb-test.true
      (ap (λ (a : App). a.top) c.in_ok-command_for.ensures.shape) c.loop-verb.invariant.shape
      (c.in_ok-whole.ensures.shape c.in_ok-command_for.ensures.local);
  local = no_more_globals _ _ _ c.in_ok-whole.ensures.globals c.in_ok-command_for.ensures.local
      ∙ c.loop-verb.invariant.local;
}
