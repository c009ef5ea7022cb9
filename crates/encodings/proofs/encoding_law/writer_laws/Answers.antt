use Rattle.encodings.proofs.encoding_law.writer_laws.Goals as goal

pub returns : goal.returns
returns c =
    let q = c.der_laws.ensures in
    record {
      der = q.der;
      only = λ s t v o a b i p d. q.one s t v v o p (c.lemma_simple_types_have_distinct_tags.ensures.tagged s a) (c.lemma_sameness.ensures.itself s t v b) (q.der s t v o b i) d;
      shortest = λ s t v o b i. q.shortest s t v o (q.der s t v o b i);
      one_value = λ s t v w o a d e. (c.reading_laws.ensures.der s t 0 0 v w o (c.lemma_simple_types_have_distinct_tags.ensures.tagged s a) (c.lemma_simple_types_have_distinct_tags.ensures.distinct_tags s a) d e).0;
    }
