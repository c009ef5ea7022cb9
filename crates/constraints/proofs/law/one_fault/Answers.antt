use Rattle.constraints.proofs.OneFault as one
use Rattle.constraints.proofs.law.one_fault.Goals as goal

pub returns : goal.returns
returns c = λ p ws gs e f single whole written.
    one.one_fault p single c.one_fault.ensures c.no_fault.ensures whole ws gs written e f
