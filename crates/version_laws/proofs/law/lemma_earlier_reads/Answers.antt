use Rattle.std.proofs.Common.{arith, refl, sym, subst}
use Rattle.encodings.specs.Levels.{levels}
use Rattle.later_versions.specs.Projected.{projected}
use Rattle.version_laws.proofs.Alikes.{laws_of, alike_kept}
use Rattle.version_laws.proofs.Older.{SaysWithin, older}
use Rattle.version_laws.proofs.law.lemma_earlier_reads.Goals as goal

pub returns : goal.returns
returns c s s' t t' v o schema l known below d =
    let laws = laws_of c.lemma_alike_values.ensures.groups c.lemma_alike_values.ensures.levels c.lemma_sameness.ensures.alike_joined c.lemma_sameness.ensures.alike_turned in
    let k = alike_kept laws s s' l d.1.are_alike known in
    let few = c.schema_laws.ensures.levels s' t' d.0 o d.2 schema d.1.second in
    let r = subst (λ n. SaysWithin s t (projected s t d.0) n o (levels d.2)) (sym k.out) (older s s' schema l d.2 k.value refl below) in
    let m = r.few in
    record {
      value = projected s t d.0;
      same = record { first = known; second = k.value; are_alike = k.are_alike };
      encodes = record { value = k.value; says_it = r.says_it };
      few = omega (arith, few, m);
    }
