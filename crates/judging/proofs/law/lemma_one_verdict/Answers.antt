use Rattle.judging.proofs.Refused.{not_refused, texts_judged}
use Rattle.judging.proofs.Verdicts.{lemma_one_verdict}
use Rattle.judging.proofs.law.lemma_one_verdict.Goals as goal

pub returns-clause-one : goal.returns-clause-one
returns-clause-one c = lemma_one_verdict c.lemma_one_reason.ensures.one c.lemma_one_reason.ensures.none c.lemma_one_account_of_a_text.ensures c.one_meaning.ensures.one

pub returns-clause-not_refused : goal.returns-clause-not_refused
returns-clause-not_refused c = not_refused c.one_meaning.ensures.refused

pub returns-clause-texts : goal.returns-clause-texts
returns-clause-texts c = λ xs first second o account r e j.
    texts_judged c.one_meaning.ensures.refused c.one_program.ensures c.lemma_faults_exclude.ensures xs j.program j.types first second o account r e
    (c.lemma_accepted_checked.ensures xs j.program j.accepted.accepted) j.accepted.accepted j.on
