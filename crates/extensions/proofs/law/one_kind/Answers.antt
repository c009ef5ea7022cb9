use Rattle.std.proofs.Common.{subst}
use Rattle.resolve.specs.Program.{Program}
use Rattle.settled.specs.Settled.{AreTypedDefaults}
use Rattle.settled.specs.additions.Additions.{KeepAdditions}
use Rattle.extensions.proofs.Faults.{no_wrong_default}
use Rattle.extensions.proofs.law.one_kind.Goals as goal

pub returns-clause-default_after_markers : goal.returns-clause-default_after_markers
returns-clause-default_after_markers c v w e f q s t =
    c.lemma_fault_excludes.ensures w e s.0 s.1 (subst (λ (p : Program). KeepAdditions p.types) q t.0)

pub returns-clause-assigned_after_markers : goal.returns-clause-assigned_after_markers
returns-clause-assigned_after_markers c v w e f q s t =
    c.lemma_fault_excludes.ensures w e s.0 s.1 (subst (λ (p : Program). KeepAdditions p.types) q t.0)

pub returns-clause-assigned_after_defaults : goal.returns-clause-assigned_after_defaults
returns-clause-assigned_after_defaults c v w e f q r s t =
    no_wrong_default c.lemma_faults_exclude.ensures w e r (subst AreTypedDefaults q t.1) s.1
