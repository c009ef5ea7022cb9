use Rattle.version_laws.proofs.Alikes.{laws_of}
use Rattle.version_laws.proofs.Apart.{type_there}
use Rattle.version_laws.proofs.Back.{back}
use Rattle.version_laws.proofs.Wide.{wide_value, wide_nodes, wide_same}
use Rattle.version_laws.proofs.law.lemma_lifting.Goals as goal

pub returns-clause-value : goal.returns-clause-value
returns-clause-value c s s' t t' v schema l h a =
    let laws = laws_of c.lemma_alike_values.ensures.groups c.lemma_alike_values.ensures.levels c.lemma_sameness.ensures.alike_joined c.lemma_sameness.ensures.alike_turned in
    wide_value laws s s' t t' schema l h v a

pub returns-clause-few_nodes : goal.returns-clause-few_nodes
returns-clause-few_nodes c s s' t t' v schema l h a =
    let laws = laws_of c.lemma_alike_values.ensures.groups c.lemma_alike_values.ensures.levels c.lemma_sameness.ensures.alike_joined c.lemma_sameness.ensures.alike_turned in
    wide_nodes laws s s' t t' schema l h v a

pub returns-clause-same : goal.returns-clause-same
returns-clause-same c s s' t t' v w schema l h a =
    let laws = laws_of c.lemma_alike_values.ensures.groups c.lemma_alike_values.ensures.levels c.lemma_sameness.ensures.alike_joined c.lemma_sameness.ensures.alike_turned in
    wide_same laws s s' t t' schema l h a

pub returns-clause-back : goal.returns-clause-back
returns-clause-back c s s' t t' v schema l h a =
    let b = back s s' schema l (type_there s' t' h) a in
    (b.same, b.none_out)
