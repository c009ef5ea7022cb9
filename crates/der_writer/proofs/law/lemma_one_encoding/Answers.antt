use Rattle.std.proofs.Common.{sym}
use Rattle.der_writer.proofs.law.lemma_one_encoding.Goals as goal

pub returns : goal.returns
returns c = λ s t v w o p i same a b. sym (c.schema_laws.ensures.one_der s t v w o p i same a b)
