use Rattle.asnc.proofs.Answered.{opened, packed, read, written}
use Rattle.asnc.proofs.ReadBack.{unpacked_refused}
use Rattle.asnc.proofs.law.one_answer.Goals as goal

pub returns-clause-opened : goal.returns-clause-opened
returns-clause-opened c = opened c.lemma_faults_exclude.ensures

pub returns-clause-written : goal.returns-clause-written
returns-clause-written c = λ xs p s first second o a e ok.
    written c.one_meaning.ensures.one c.one_meaning.ensures.refused p s first second o a e (c.lemma_accepted_checked.ensures xs p ok.accepted)

pub returns-clause-packed : goal.returns-clause-packed
returns-clause-packed c = λ xs p s first second o e ok.
    packed c.one_meaning.ensures.one c.one_meaning.ensures.refused p s first second o e (c.lemma_accepted_checked.ensures xs p ok.accepted)

pub returns-clause-unpacked : goal.returns-clause-unpacked
returns-clause-unpacked c = unpacked_refused

pub returns-clause-read : goal.returns-clause-read
returns-clause-read c = read
