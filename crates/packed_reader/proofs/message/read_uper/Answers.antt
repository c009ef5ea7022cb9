use Rattle.packed_reader.proofs.MessageRun.{only_of, read_of, ends_of, begins}
use Rattle.packed_reader.proofs.message.read_uper.Goals as goal

pub returns-clause-only : goal.returns-clause-only
returns-clause-only c =
    let s = c.args.code.now in
    let t = c.args.id.index in
    let o = c.args.octets.now in
    only_of s t o (λ k w m. c.message_laws_of_reading.ensures.answered s t k w o c.lemma_invariant.ensures c.are_octets.ensures m) (λ k w h l. c.message_laws_of_reading.ensures.read s t k w o c.lemma_invariant.ensures h l) c.decode.result c.decode.ensures.ok

pub returns-clause-read : goal.returns-clause-read
returns-clause-read c = λ w k h l.
    let s = c.args.code.now in
    let t = c.args.id.index in
    let o = c.args.octets.now in
    read_of s t o (λ k' w' m. c.message_laws_of_reading.ensures.answered s t k' w' o c.lemma_invariant.ensures c.are_octets.ensures m) (λ k' w' h' l'. c.message_laws_of_reading.ensures.read s t k' w' o c.lemma_invariant.ensures h' l') c.decode.result c.decode.ensures.err w k h l

pub returns-clause-truncated : goal.returns-clause-truncated
returns-clause-truncated c = λ b.
    let s = c.args.code.now in
    let t = c.args.id.index in
    let o = c.args.octets.now in
    ends_of s t o c.decode.result (begins s t o (λ k w m h l some. c.message_laws_of_reading.ensures.truncated s t k w o m c.lemma_invariant.ensures h l some) b) c.decode.ensures.ok c.decode.ensures.err
