use Rattle.version_laws.specs.Lifted.{lifted}
use Rattle.version_laws.proofs.Alikes.{laws_of}
use Rattle.version_laws.proofs.Wide.{wide_same}
use Rattle.version_laws.proofs.PackedWhole.{newer_bits, newer_message}
use Rattle.version_laws.proofs.packed_law.lemma_later_reads_packed.Goals as goal

pub returns-clause-exactly : goal.returns-clause-exactly
returns-clause-exactly c s s' t t' w b schema schema' l h v a =
    let laws = laws_of c.lemma_alike_values.ensures.groups c.lemma_alike_values.ensures.levels c.lemma_sameness.ensures.alike_joined c.lemma_sameness.ensures.alike_turned in
    newer_bits laws s s' t t' schema schema' l h v a

pub returns-clause-packed : goal.returns-clause-packed
returns-clause-packed c s s' t t' v b schema schema' l h p =
    let laws = laws_of c.lemma_alike_values.ensures.groups c.lemma_alike_values.ensures.levels c.lemma_sameness.ensures.alike_joined c.lemma_sameness.ensures.alike_turned in
    let a = c.reading_laws.ensures.written_is_read s t 0 p.0 b p.2 in
    (lifted s' t' p.0, wide_same laws s s' t t' schema' l h p.1, newer_bits laws s s' t t' schema schema' l h p.1.second a)

pub returns-clause-reads : goal.returns-clause-reads
returns-clause-reads c s s' t t' w o schema schema' l h r =
    let laws = laws_of c.lemma_alike_values.ensures.groups c.lemma_alike_values.ensures.levels c.lemma_sameness.ensures.alike_joined c.lemma_sameness.ensures.alike_turned in
    newer_message laws s s' t t' schema schema' l h r

pub returns-clause-message : goal.returns-clause-message
returns-clause-message c s s' t t' v b o schema schema' l h x light p f =
    let laws = laws_of c.lemma_alike_values.ensures.groups c.lemma_alike_values.ensures.levels c.lemma_sameness.ensures.alike_joined c.lemma_sameness.ensures.alike_turned in
    let m = c.writing_laws.ensures.message s t v b o x light p f in
    (lifted s' t' m.0, wide_same laws s s' t t' schema' l h m.1, newer_message laws s s' t t' schema schema' l h m.2)
