use Rattle.std.proofs.Common.{subst, sym}
use Rattle.names.specs.Faults.{fault_module}
use Rattle.tagging.specs.Faults.{IsWrittenIn}
use Rattle.tagging.specs.FirstFault.{IsFirstBreach}
use Rattle.tagging.proofs.fault.fault_at.Goals as goal

pub returns-in-Ok-clause-first : goal.returns-in-Ok-clause-first
returns-in-Ok-clause-first c = λ p ws i f w.
    c.fault_of.ensures.first p ws i
    (subst (IsFirstBreach p.types ws c.args.rule i) (sym c.in-Ok.ensures.at) f)
    (subst (IsWrittenIn p i (fault_module c.in-Ok.source_location)) (sym c.in-Ok.ensures.name)
    (subst (λ M. IsWrittenIn p i M c.args.name.now) (sym c.in-Ok.ensures.within) w))
