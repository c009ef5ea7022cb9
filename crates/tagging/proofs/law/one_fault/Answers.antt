use Rattle.std.proofs.Common.{refl}
use Rattle.tagging.proofs.OneFirst.{one_fault, one_spot}
use Rattle.tagging.proofs.law.one_fault.Goals as goal

pub returns-clause-types : goal.returns-clause-types
returns-clause-types c = λ ts ws r q i j m n e a b.
    let h = one_fault ts ws ws e e r q i j m n a b in
    (h.0, h.1, h.2 refl)

pub returns-clause-spot : goal.returns-clause-spot
returns-clause-spot c = one_spot
