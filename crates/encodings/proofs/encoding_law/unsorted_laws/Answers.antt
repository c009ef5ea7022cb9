use Rattle.encodings.proofs.Theorems.{none_shorter, is_shortest}
use Rattle.encodings.specs.proving.Weaker.{basic_of}
use Rattle.encodings.proofs.encoding_law.unsorted_laws.Goals as goal

pub returns : goal.returns
returns c =
    let q = c.lemma_sameness.ensures in
    record {
      ber = λ s t k v o a. (a.0, a.1, basic_of a.2);
      none_shorter = none_shorter q.alike_turned q.alike_joined;
      shortest = is_shortest q.alike_turned q.alike_joined q.itself;
    }
