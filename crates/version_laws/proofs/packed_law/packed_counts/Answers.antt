use Rattle.version_laws.proofs.Apart.{type_there}
use Rattle.version_laws.proofs.Alikes.{laws_of}
use Rattle.version_laws.proofs.Back.{back}
use Rattle.version_laws.proofs.Wide.{wide_value}
use Rattle.version_laws.proofs.PackedCounts.{same_count, zero_both}
use Rattle.version_laws.proofs.packed_law.packed_counts.Goals as goal

pub returns-clause-same : goal.returns-clause-same
returns-clause-same c s s' t t' v w l known a =
    let laws = laws_of c.lemma_alike_values.ensures.groups c.lemma_alike_values.ensures.levels c.lemma_sameness.ensures.alike_joined c.lemma_sameness.ensures.alike_turned in
    same_count laws s s' l a.are_alike known a.first a.second

pub returns-clause-none : goal.returns-clause-none
returns-clause-none c s s' t t' v a e = (zero_both s s' t a).forth e

pub returns-clause-whole : goal.returns-clause-whole
returns-clause-whole c s s' t t' v a e = (zero_both s s' t a).back e

pub returns-clause-back : goal.returns-clause-back
returns-clause-back c s s' t t' v schema' l h a =
    let laws = laws_of c.lemma_alike_values.ensures.groups c.lemma_alike_values.ensures.levels c.lemma_sameness.ensures.alike_joined c.lemma_sameness.ensures.alike_turned in
    (zero_both s s' t (wide_value laws s s' t t' schema' l h v a)).forth (back s s' schema' l (type_there s' t' h) a).none_out
