use Rattle.std.proofs.Common.{◌∙◌, sym}
use Rattle.command_line.proofs.Found.{input_among}
use Rattle.command_line.proofs.lines.have_input.Goals as goal

pub returns : goal.returns
returns c = c.contains.ensures.value ∙ sym (input_among c.args.names.now)
