use Rattle.codec_source.specs.proving.Wholes.{no_link}
use Rattle.codec_source.proofs.machine.rows_of.Goals as goal

pub returns-in-Leaf : goal.returns-in-Leaf
returns-in-Leaf g c = record { ok = no_link; err = tt }

pub returns-then-not-are_plain-clause-ok : goal.returns-then-not-are_plain-clause-ok
returns-then-not-are_plain-clause-ok g c = no_link
