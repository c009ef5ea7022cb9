use Rattle.packed_leaves.proofs.Groups.{low_word}
use Rattle.packed_leaves.proofs.text.low_bits.Goals as goal

pub returns-clause-bits : goal.returns-clause-bits
returns-clause-bits c = low_word c.args.width c.args.number c.requires
