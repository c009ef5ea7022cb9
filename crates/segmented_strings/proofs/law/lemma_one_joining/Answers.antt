use Rattle.segmented_strings.proofs.OneJoining as proof
use Rattle.segmented_strings.proofs.law.lemma_one_joining.Goals as goal

pub returns-clause-value : goal.returns-clause-value
returns-clause-value c = proof.one_value c.header_laws.ensures.none_begins_another c.lemma_one_front.ensures.header c.lemma_one_front.ensures.fault c.lemma_one_front.ensures.either

pub returns-clause-fault : goal.returns-clause-fault
returns-clause-fault c = proof.one_fault c.header_laws.ensures.none_begins_another c.lemma_one_front.ensures.header c.lemma_one_front.ensures.fault c.lemma_one_front.ensures.either

pub returns-clause-either : goal.returns-clause-either
returns-clause-either c = proof.either c.header_laws.ensures.none_begins_another c.lemma_one_front.ensures.header c.lemma_one_front.ensures.fault c.lemma_one_front.ensures.either
