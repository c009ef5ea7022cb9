use Rattle.asn_base.proofs.Ready.{ready}
use Rattle.asn_base.proofs.schema.Schema.kept.Goals as goal

pub returns-clause-ready : goal.returns-clause-ready
returns-clause-ready c = λ table. ready c.self.invariant table
