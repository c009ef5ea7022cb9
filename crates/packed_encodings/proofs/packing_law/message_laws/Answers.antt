use Rattle.std.proofs.Common.{refl}
use Rattle.packed_encodings.proofs.Single.{padded_only}
use Rattle.packed_encodings.proofs.Theorems.{one_message, no_message_begins, only_filled}
use Rattle.packed_encodings.proofs.packing_law.message_laws.Goals as goal

pub returns : goal.returns
returns c = record { one_value = one_message; none_begins_another = no_message_begins; only_filled = only_filled; one_filling = λ x o r a b. padded_only a b refl }
