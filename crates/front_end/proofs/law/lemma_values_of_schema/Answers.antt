use Rattle.front_end.proofs.law.lemma_values_of_schema.Goals as goal

pub returns : goal.returns
returns c = λ p s M i n v r h t.
    (c.same_values.ensures.whole p s i v r.read.apart r.read.sound.lists h.accepted h.settled.types).1 t.value
