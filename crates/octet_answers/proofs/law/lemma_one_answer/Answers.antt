use Rattle.octet_answers.proofs.OneAnswer as proof
use Rattle.octet_answers.proofs.law.lemma_one_answer.Goals as goal

pub returns : goal.returns
returns c = record { once = proof.lemma_one_answer c.header_laws.ensures.none_begins_another; takes = proof.takes c.header_laws.ensures.none_begins_another }
