use Rattle.version_laws.specs.Lifted.{lifted}
use Rattle.version_laws.proofs.Alikes.{laws_of}
use Rattle.version_laws.proofs.Wide.{wide_same, wide_says, wide_stands, wide_basic, wide_der}
use Rattle.version_laws.proofs.law.lemma_later_reads.Goals as goal

pub returns-clause-encodes : goal.returns-clause-encodes
returns-clause-encodes c s s' r t t' v o schema l h e =
    let laws = laws_of c.lemma_alike_values.ensures.groups c.lemma_alike_values.ensures.levels c.lemma_sameness.ensures.alike_joined c.lemma_sameness.ensures.alike_turned in
    (lifted s' t' e.0, wide_same laws s s' t t' schema l h e.1, (wide_says laws s s' t t' schema l h e.1.second e.2).says_it)

pub returns-clause-is_so : goal.returns-clause-is_so
returns-clause-is_so c s s' r t t' w o schema l h e =
    let laws = laws_of c.lemma_alike_values.ensures.groups c.lemma_alike_values.ensures.levels c.lemma_sameness.ensures.alike_joined c.lemma_sameness.ensures.alike_turned in
    wide_stands laws s s' t t' schema l h e

pub returns-clause-basic : goal.returns-clause-basic
returns-clause-basic c s s' t t' v o schema l h r =
    let laws = laws_of c.lemma_alike_values.ensures.groups c.lemma_alike_values.ensures.levels c.lemma_sameness.ensures.alike_joined c.lemma_sameness.ensures.alike_turned in
    wide_basic laws s s' t t' schema l h r

pub returns-clause-distinguished : goal.returns-clause-distinguished
returns-clause-distinguished c s s' t t' v o schema l h e =
    let laws = laws_of c.lemma_alike_values.ensures.groups c.lemma_alike_values.ensures.levels c.lemma_sameness.ensures.alike_joined c.lemma_sameness.ensures.alike_turned in
    wide_der laws s s' t t' schema l h (λ w p d x. c.schema_laws.ensures.levels s' t' w p d schema x) e
