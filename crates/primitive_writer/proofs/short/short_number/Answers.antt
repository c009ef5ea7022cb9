use Rattle.std.proofs.Common.{subst, sym}
use Rattle.encodings.specs.Contents.{Number}
use Rattle.primitive_writer.specs.Pieces.{short_octets}
use Rattle.primitive_writer.proofs.Signed.{negative_number}
use Rattle.primitive_writer.proofs.short.short_number.Goals as goal

pub returns-in-Some : goal.returns-in-Some
returns-in-Some c =
    subst (λ o. Number c.args.number o) (sym c.turned_short.ensures)
    (negative_number c.args.number (short_octets c.in-Some.octets) c.ranges.number c.if-number-lt0.true c.in-Some.ensures)
