use Rattle.std.proofs.Common.{[], ◌∷◌}
use Rattle.primitive_writer.proofs.Signed.{negative_number}
use Rattle.primitive_writer.proofs.number.one_octet.Goals as goal

pub returns-in-Some : goal.returns-in-Some
returns-in-Some c = negative_number c.args.number (c.in-Some.octet ∷ []) c.ranges.number c.if-number-lt0.true c.in-Some.ensures
