use Rattle.primitive_reader.proofs.Exact.{one_value, one_fault, never_both}
use Rattle.primitive_reader.proofs.law.lemma_one_reading.Goals as goal

pub returns : goal.returns
returns c = record { value = one_value; fault = one_fault; either = never_both }
