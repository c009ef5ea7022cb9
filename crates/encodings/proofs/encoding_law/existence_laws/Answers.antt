use Rattle.encodings.proofs.Encodable.{encodable, few_digits}
use Rattle.encodings.proofs.encoding_law.existence_laws.Goals as goal

pub returns : goal.returns
returns c = λ s t v i a h.
    let q = c.lemma_sameness.ensures in
    let l = c.lemma_alike_values.ensures in
    encodable s i (q.alike_turned s) (q.alike_joined s) (l.groups s) (l.levels s) (l.decided s) _ few_digits t v a h
