use Rattle.der_writer.proofs.law.lemma_encodings_of_values.Goals as goal

pub returns : goal.returns
returns c = λ s t v o i is d few.
    let l = c.schema_laws.ensures in
    record {
      value = is;
      der = d;
      only = λ p q. l.one_der s t v v o p i (c.lemma_sameness.ensures.itself s t v is.shaped) d q;
      shortest = l.shortest s t v o i d;
      not_too_long = few;
      few_levels = λ w e f. l.levels s t w o e i f;
    }
