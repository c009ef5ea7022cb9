use Rattle.primitive_reader.proofs.Exact.{is_ok, is_err}
use Rattle.primitive_reader.proofs.leaf.read_leaf.Goals as goal

pub returns-clause-only : goal.returns-clause-only
returns-clause-only c = is_ok c.args.kind c.args.contents.now c.read_kind.result c.read_kind.ensures.err

pub returns-clause-refused_if : goal.returns-clause-refused_if
returns-clause-refused_if c = is_err c.args.kind c.args.contents.now c.read_kind.result c.read_kind.ensures.ok c.read_kind.ensures.err
