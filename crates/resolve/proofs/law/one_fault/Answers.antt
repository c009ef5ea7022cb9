use Rattle.resolve.proofs.OneFault as faults
use Rattle.resolve.proofs.law.one_fault.Goals as goal

pub returns : goal.returns
returns c = λ p ws vs e f written first second.
    faults.one_fault p ws vs written c.lemma_one_first_in_list.ensures e f first second
