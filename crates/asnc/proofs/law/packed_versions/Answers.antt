use Rattle.std.proofs.Common.{refl}
use Rattle.later_versions.specs.Projected.{projected}
use Rattle.version_laws.specs.LeftOut.{left_out_packed}
use Rattle.version_laws.specs.Lifted.{lifted}
use Rattle.asnc.proofs.PackedVersions.{message_of_named, newer_packed, older_packed, refused_packed}
use Rattle.asnc.proofs.law.packed_versions.Goals as goal

pub returns-clause-older : goal.returns-clause-older
returns-clause-older c = λ xs ys p q s r name second o printed k ok fine b w known.
    let m = message_of_named b.newer_named w in
    older_packed b (c.lemma_earlier_reads_packed.ensures.message s r b.older b.newer w.value m.bits o ok.types.accepted
    fine.types.accepted (b.is.0 refl) known m.value m.light m.packed m.filled)

pub returns-clause-older_reads : goal.returns-clause-older_reads
returns-clause-older_reads c = λ xs ys p q s r name second o e ok fine b w known.
    let m = message_of_named b.newer_named w in
    refused_packed p s name o b.older (left_out_packed s b.older r b.newer w.value) (projected s b.older w.value) e b.older_named
    (c.lemma_earlier_reads_packed.ensures.message s r b.older b.newer w.value m.bits o ok.types.accepted fine.types.accepted
    (b.is.0 refl) known m.value m.light m.packed m.filled) m.not_too_long

pub returns-clause-newer : goal.returns-clause-newer
returns-clause-newer c = λ xs ys p q s r name second o printed k ok fine b w.
    let m = message_of_named b.older_named w in
    newer_packed b (c.lemma_later_reads_packed.ensures.message s r b.older b.newer w.value m.bits o ok.types.accepted
    fine.types.accepted (b.is.0 refl) b.newer_there m.value m.light m.packed m.filled)

pub returns-clause-newer_reads : goal.returns-clause-newer_reads
returns-clause-newer_reads c = λ xs ys p q s r name second o e ok fine b w.
    let m = message_of_named b.older_named w in
    refused_packed q r name o b.newer 0 (lifted r b.newer w.value) e b.newer_named
    (c.lemma_later_reads_packed.ensures.message s r b.older b.newer w.value m.bits o ok.types.accepted fine.types.accepted
    (b.is.0 refl) b.newer_there m.value m.light m.packed m.filled) m.not_too_long
