use Rattle.primitive_reader.proofs.Decoding.{read_enumerated, no_enumerated}
use Rattle.primitive_reader.proofs.leaf.as_enumerated.Goals as goal

pub returns-in-Ok-clause-ok : goal.returns-in-Ok-clause-ok
returns-in-Ok-clause-ok c = read_enumerated c.args.contents.now c.in-Ok.number c.in-Ok.ensures.ok

pub returns-in-Err-clause-err : goal.returns-in-Err-clause-err
returns-in-Err-clause-err c = no_enumerated c.in-Err.fault c.args.contents.now c.in-Err.ensures.err
