use Rattle.encodings.proofs.Theorems.{is_der, one_der}
use Rattle.encodings.specs.proving.Weaker.{basic_of, unsorted_of}
use Rattle.encodings.proofs.encoding_law.der_laws.Goals as goal

pub returns : goal.returns
returns c =
    let q = c.lemma_sameness.ensures in
    let u = c.unsorted_laws.ensures in
    record {
      der = is_der q.itself;
      ber = λ s t v k o a. (a.0, a.1, basic_of a.2);
      as_it_stands = λ s t k w o e. (w, q.itself s t w e.value, e.says_it);
      one = one_der q.alike_turned q.alike_joined;
      unsorted = λ s t k v o a. (a.0, a.1, unsorted_of a.2);
      shortest = λ s t v o a. u.shortest s t v o (a.0, a.1, unsorted_of a.2);
    }
