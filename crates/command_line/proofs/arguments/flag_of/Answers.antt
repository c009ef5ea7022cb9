use Rattle.std.proofs.Common.{arith}
use Rattle.clap.proofs.WalkLemmas.{one_text-rows}
use Rattle.command_line.proofs.arguments.flag_of.Goals as goal

pub returns : goal.returns
returns c = record {
  set = grind (arith, c.get_flag.ensures.value, one_text-rows);
  not_set = grind (arith, c.get_flag.ensures.other, one_text-rows);
}
