use Rattle.std.proofs.Common.{◌≤◌, sym, subst}
use Rattle.encodings.specs.Rules.{Basic, Distinguished}
use Rattle.ber_reader.proofs.law.written_is_read.Goals as goal

pub returns-clause-read : goal.returns-clause-read
returns-clause-read c s t v o schema d l =
    let b = c.der_laws.ensures.ber s t 0 v o d in
    let one = c.level_laws.ensures.one s Basic Distinguished t 0 0 b.0 d.0 o b.2 d.2 schema.tagged schema.distinct_tags in
    let few = c.level_laws.ensures.within_limit s t d.0 o d.2 schema.few_tags d.1.second in
    record { value = b.0; count = 0; is_value = b.1.second; is_encoded = b.2; few = subst (λ q. q ≤ 400) (sym one) few; short = l }

pub returns-clause-same : goal.returns-clause-same
returns-clause-same c s t k v w o schema d e =
    let b = c.der_laws.ensures.ber s t 0 v o d in
    let x = c.der_laws.ensures.as_it_stands s t k w o e in
    let q = c.reading_laws.ensures.ber s t 0 k v w o schema.tagged schema.distinct_tags b x in
    (q.0, sym q.1)
