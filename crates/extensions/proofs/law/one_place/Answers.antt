use Rattle.extensions.proofs.Places.{alike_assigned, alike_default, one_assigned, one_default}
use Rattle.extensions.proofs.law.one_place.Goals as goal

pub returns-clause-default : goal.returns-clause-default
returns-clause-default c = one_default c.lemma_faults_exclude.ensures

pub returns-clause-assigned : goal.returns-clause-assigned
returns-clause-assigned c = one_assigned c.lemma_faults_exclude.ensures

pub returns-clause-in_default : goal.returns-clause-in_default
returns-clause-in_default c = alike_default c.lemma_faults_exclude.ensures c.one_place.ensures

pub returns-clause-in_assigned : goal.returns-clause-in_assigned
returns-clause-in_assigned c = alike_assigned c.lemma_faults_exclude.ensures c.one_place.ensures
