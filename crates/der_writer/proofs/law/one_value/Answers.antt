use Rattle.der_writer.proofs.law.one_value.Goals as goal

pub returns : goal.returns
returns c = λ s t v w o i a b. (c.schema_laws.ensures.one_value s t 0 0 v w o i a b).0
