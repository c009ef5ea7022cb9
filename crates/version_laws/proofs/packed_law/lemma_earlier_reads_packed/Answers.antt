use Rattle.later_versions.specs.Projected.{projected}
use Rattle.version_laws.proofs.Alikes.{laws_of}
use Rattle.version_laws.proofs.PackedWhole.{older_bits, kept_same, older_same, older_message, older_message_same}
use Rattle.version_laws.proofs.packed_law.lemma_earlier_reads_packed.Goals as goal

pub returns-clause-exactly : goal.returns-clause-exactly
returns-clause-exactly c s s' t t' w b schema schema' l known v a =
    let laws = laws_of c.lemma_alike_values.ensures.groups c.lemma_alike_values.ensures.levels c.lemma_sameness.ensures.alike_joined c.lemma_sameness.ensures.alike_turned in
    older_bits laws s s' t t' schema schema' l known v a

pub returns-clause-packed : goal.returns-clause-packed
returns-clause-packed c s s' t t' v b schema schema' l known p =
    let laws = laws_of c.lemma_alike_values.ensures.groups c.lemma_alike_values.ensures.levels c.lemma_sameness.ensures.alike_joined c.lemma_sameness.ensures.alike_turned in
    let a = c.reading_laws.ensures.written_is_read s' t' 0 p.0 b p.2 in
    (projected s t p.0, kept_same laws s s' t t' schema schema' l known p.1, older_same laws s s' t t' schema schema' l known p.1 a)

pub returns-clause-reads : goal.returns-clause-reads
returns-clause-reads c s s' t t' w o schema schema' l known r =
    let laws = laws_of c.lemma_alike_values.ensures.groups c.lemma_alike_values.ensures.levels c.lemma_sameness.ensures.alike_joined c.lemma_sameness.ensures.alike_turned in
    older_message laws s s' t t' schema schema' l known r

pub returns-clause-message : goal.returns-clause-message
returns-clause-message c s s' t t' v b o schema schema' l known x light p f =
    let laws = laws_of c.lemma_alike_values.ensures.groups c.lemma_alike_values.ensures.levels c.lemma_sameness.ensures.alike_joined c.lemma_sameness.ensures.alike_turned in
    let m = c.writing_laws.ensures.message s' t' v b o x light p f in
    (projected s t m.0, kept_same laws s s' t t' schema schema' l known m.1, older_message_same laws s s' t t' schema schema' l known m.1 m.2)
