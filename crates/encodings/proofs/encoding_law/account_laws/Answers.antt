use Rattle.encodings.proofs.Accounting.{has_account}
use Rattle.encodings.proofs.AccountEncodes.{listed, one_list}
use Rattle.encodings.proofs.encoding_law.account_laws.Goals as goal

pub returns-clause-one : goal.returns-clause-one
returns-clause-one c = λ s. one_list s (c.lemma_sameness.ensures.alike_turned s) (c.lemma_sameness.ensures.alike_joined s)

pub returns-clause-unsorted : goal.returns-clause-unsorted
returns-clause-unsorted c = λ s t v o a i b d.
    let l = c.lemma_alike_values.ensures in
    listed s i (c.lemma_sameness.ensures.alike_joined s) (l.groups s) (l.levels s) t v o a b d

pub returns-clause-shortest : goal.returns-clause-shortest
returns-clause-shortest c = λ s t v o a i b d.
    let l = c.lemma_alike_values.ensures in
    c.unsorted_laws.ensures.shortest s t v o (listed s i (c.lemma_sameness.ensures.alike_joined s) (l.groups s) (l.levels s) t v o a b d)

pub returns-clause-exists : goal.returns-clause-exists
returns-clause-exists c = λ s t v o i d. has_account s (c.lemma_sameness.ensures.alike_turned s) (c.lemma_sameness.ensures.alike_joined s) i.tagged t v d.0 o d.1.are_alike d.2
