use Rattle.std.proofs.Common.{arith}
use Rattle.std.proofs.lemmas.Grind.{common_steps}
use Rattle.clap.proofs.WalkLemmas.{first_value-rows}
use Rattle.command_line.proofs.Found.{text_or}
use Rattle.command_line.proofs.arguments.word_of.Goals as goal

pub returns : goal.returns
returns c = grind (arith, common_steps, c.unwrap_or.ensures, c.get_str.ensures, text_or c.get_str.result, first_value-rows)
