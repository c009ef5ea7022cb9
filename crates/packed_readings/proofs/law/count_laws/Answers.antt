use Rattle.packed_readings.proofs.Parts.{count, to_parts, from_parts}
use Rattle.packed_readings.proofs.Sizes.{size, in_size, of_size}
use Rattle.packed_readings.proofs.law.count_laws.Goals as goal

pub returns : goal.returns
returns c = record {
  count = count;
  in_parts = λ xs b d. to_parts d;
  counted = λ xs b d. from_parts d;
  size = size;
  in_size = λ c xs b d a. in_size c d a;
  sized = λ c xs b d. of_size c d;
}
