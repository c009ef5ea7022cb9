use Rattle.octet_answers.proofs.OneRefusal.{refused_once, refused_or_not}
use Rattle.octet_answers.proofs.law.lemma_one_refusal.Goals as goal

pub returns-clause-once : goal.returns-clause-once
returns-clause-once c = refused_once c.header_laws.ensures.none_begins_another c.lemma_one_front.ensures.fault c.lemma_one_front.ensures.either c.lemma_one_reading.ensures.fault c.lemma_one_joining.ensures.fault

pub returns-clause-either : goal.returns-clause-either
returns-clause-either c = refused_or_not c.header_laws.ensures.none_begins_another c.lemma_one_front.ensures.fault c.lemma_one_front.ensures.either c.lemma_one_reading.ensures.either c.lemma_one_joining.ensures.either
