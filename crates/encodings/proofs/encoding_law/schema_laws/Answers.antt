use Rattle.encodings.specs.Rules.{Basic}
use Rattle.encodings.proofs.Theorems.{nothing_after}
use Rattle.encodings.proofs.encoding_law.schema_laws.Goals as goal

pub returns : goal.returns
returns c =
    let d = c.der_laws.ensures in
    let q = c.reading_laws.ensures in
    let l = c.level_laws.ensures in
    record {
      one_der = λ s t v w o p i. d.one s t v w o p i.tagged;
      one_value = λ s t j k v w o i. q.der s t j k v w o i.tagged i.distinct_tags;
      shortest = λ s t v o i. d.shortest s t v o;
      says_one = λ s t j k v w o i. q.one_value s Basic t j k v w o i.tagged i.distinct_tags;
      none_begins_another = λ s t j k v w o p x i a b e. nothing_after o p x e (λ y. q.none_begins_another s Basic Basic t t j k v w o p x y i.tagged a b);
      levels = λ s t v o e i. l.within_limit s t v o e i.few_tags;
    }
