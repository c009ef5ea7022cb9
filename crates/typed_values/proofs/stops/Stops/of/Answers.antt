use Rattle.std.proofs.Common.{rules}
use Rattle.typed_values.proofs.Branches.{empty_has}
use Rattle.typed_values.proofs.stops.Stops.of.Goals as goal

pub returns : goal.returns
returns c = empty_has c.in_ok-vec.field-0.items (search rules) c.bits_of.result
