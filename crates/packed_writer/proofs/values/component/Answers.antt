use Rattle.asn_base.specs.Abstract.{abstract}
use Rattle.packed_writer.proofs.Rows.{no_fields}
use Rattle.packed_writer.proofs.values.component.Goals as goal

pub returns-in-None : goal.returns-in-None
returns-in-None c = no_fields (abstract c.args.value.now) c.args.place c.in-None.ensures
