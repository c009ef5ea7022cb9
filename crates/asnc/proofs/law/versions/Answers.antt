use Rattle.std.proofs.Common.{refl}
use Rattle.asnc.proofs.Versions.{der_of_named, newer_answer, newer_refused, older_answer, older_refused}
use Rattle.asnc.proofs.law.versions.Goals as goal

pub returns-clause-older : goal.returns-clause-older
returns-clause-older c = λ xs ys p q s r name second o printed a k ok fine b w small known.
    older_answer b (c.lemma_earlier_reads.ensures s r b.older b.newer w.value o fine.types.accepted (b.is.0 refl) known small
    (der_of_named b.newer_named w))

pub returns-clause-older_reads : goal.returns-clause-older_reads
returns-clause-older_reads c = λ xs ys p q s r name second o a e ok fine b w small known.
    older_refused w.value b (c.lemma_earlier_reads.ensures s r b.older b.newer w.value o fine.types.accepted (b.is.0 refl) known small
    (der_of_named b.newer_named w)) w.encoding.not_too_long

pub returns-clause-newer : goal.returns-clause-newer
returns-clause-newer c = λ xs ys p q s r name second o printed a k l ok fine b w.
    newer_answer b (c.lemma_later_reads.ensures.distinguished s r b.older b.newer w.value o fine.types.accepted (b.is.0 refl)
    b.newer_there (der_of_named b.older_named w)).is

pub returns-clause-newer_reads : goal.returns-clause-newer_reads
returns-clause-newer_reads c = λ xs ys p q s r name second o a e l ok fine b w.
    newer_refused w.value l b (c.lemma_later_reads.ensures.distinguished s r b.older b.newer w.value o fine.types.accepted (b.is.0 refl)
    b.newer_there (der_of_named b.older_named w)) w.encoding.not_too_long
