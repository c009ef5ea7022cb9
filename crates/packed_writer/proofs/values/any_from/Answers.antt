use Rattle.std.proofs.Common.{sym}
use Rattle.asn_base.specs.Abstract.{abstract}
use Rattle.packed_writer.proofs.Rows.{no_mark}
use Rattle.packed_writer.proofs.values.any_from.Goals as goal

pub returns-in-None : goal.returns-in-None
returns-in-None c = sym (no_mark (abstract c.args.value.now) c.args.from c.in-None.ensures)
