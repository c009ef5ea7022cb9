use Rattle.std.proofs.Common.{refl}
use Rattle.encodings.proofs.Theorems.{one_depth}
use Rattle.encodings.proofs.FewLevels.{few_levels, within_limit}
use Rattle.encodings.proofs.encoding_law.level_laws.Goals as goal

pub returns : goal.returns
returns c = record { one = one_depth; few = λ s n t v o d few a. few_levels s few d refl a; within_limit = within_limit }
