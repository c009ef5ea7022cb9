use Rattle.primitive_reader.proofs.Decoding.{read_null, no_null}
use Rattle.primitive_reader.proofs.leaf.as_null.Goals as goal

pub returns-then-contents-eq0-clause-ok : goal.returns-then-contents-eq0-clause-ok
returns-then-contents-eq0-clause-ok c = read_null c.args.contents.now c.if-contents-eq0.true

pub returns-else-contents-eq0-clause-err : goal.returns-else-contents-eq0-clause-err
returns-else-contents-eq0-clause-err c = no_null c.args.contents.now c.if-contents-eq0.false
