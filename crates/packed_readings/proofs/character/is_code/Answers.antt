use Rattle.packed_readings.proofs.Items.{code_same}
use Rattle.packed_readings.proofs.character.is_code.Goals as goal

pub returns : goal.returns
returns c = code_same c.is_among.result c.args.alphabet.now c.args.code c.is_among.ensures
