use Rattle.packed_reader.proofs.Whole.{answer_reads, reads_answer, front_truncated, not_filled, fault_stays, place_within}
use Rattle.packed_reader.proofs.law.message_laws_of_reading.Goals as goal

pub returns-clause-answered : goal.returns-clause-answered
returns-clause-answered c = λ s t k w o i h e. answer_reads s t c.part_laws.ensures.octets_front (c.value_laws.ensures s 64 t 16777216 i) c.weight_laws.ensures o w k h e

pub returns-clause-read : goal.returns-clause-read
returns-clause-read c = λ s t k w o i a l. reads_answer s t c.part_laws.ensures.octets_front (c.value_laws.ensures s 64 t 16777216 i) o w k a l

pub returns-clause-truncated : goal.returns-clause-truncated
returns-clause-truncated c = λ s t k w o m i a l e. front_truncated s t c.part_laws.ensures.octets_front (c.value_laws.ensures s 64 t 16777216 i) (λ j k v w x p o a e b. c.message_laws.ensures.only_filled s t j k v w x p o i a e b) o m w k a l e

pub returns-clause-padding : goal.returns-clause-padding
returns-clause-padding c = λ s t k w x p o i h some l a v light e n. not_filled s t c.part_laws.ensures.octets_front (c.value_laws.ensures s 64 t 16777216 i) o w k x p h some l a v light e n

pub returns-clause-stays : goal.returns-clause-stays
returns-clause-stays c = λ s t j e o m i h n l. fault_stays s t c.part_laws.ensures.octets_front (c.value_laws.ensures s 64 t 16777216 i) o m e j h n l

pub returns-clause-within : goal.returns-clause-within
returns-clause-within c = λ s t j e o i h. place_within s t c.part_laws.ensures.octets_front (c.value_laws.ensures s 64 t 16777216 i) o e j h

pub returns-clause-written : goal.returns-clause-written
returns-clause-written c = λ s t v x o i h light p f l.
    (let w = c.writing_laws.ensures.message s t v x o h light p f in
    (w.0, w.1, reads_answer s t c.part_laws.ensures.octets_front (c.value_laws.ensures s 64 t 16777216 i) o w.0 0 w.2 l))
