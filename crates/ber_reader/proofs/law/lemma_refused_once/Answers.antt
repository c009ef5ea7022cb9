use Rattle.ber_reader.proofs.Refused.{lemma_refused_once, message_or_read}
use Rattle.ber_reader.proofs.law.lemma_refused_once.Goals as goal

pub returns-clause-once : goal.returns-clause-once
returns-clause-once c s t o e f schema below =
    lemma_refused_once c.lemma_one_refusal.ensures.once c.lemma_one_refusal.ensures.either s t o e f schema below (λ u k m w v p. c.schema_laws.ensures.says_one s u k m w v p schema)

pub returns-clause-either : goal.returns-clause-either
returns-clause-either c s t o e x schema below =
    message_or_read c.lemma_one_refusal.ensures.either s t o e x schema below (λ u k m w v p. c.schema_laws.ensures.says_one s u k m w v p schema)
