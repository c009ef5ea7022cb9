use Rattle.std.proofs.Common.{map, sym, subst, ap, ◌∙◌}
use Rattle.encodings.specs.Contents.{Number}
use Rattle.encodings.specs.proving.TwosComplement.{complement}
use Rattle.primitive_writer.proofs.Signed.{negative_number}
use Rattle.primitive_writer.proofs.number.number_octets.Goals as goal

pub returns-then-number-lt0 : goal.returns-then-number-lt0
returns-then-number-lt0 c =
    subst (λ o. Number c.args.number o) (sym (c.turned.ensures ∙ ap (map complement) c.as_slice.ensures.value))
    (negative_number c.args.number c.unsigned_octets-octets.result.items c.ranges.number c.if-number-lt0.true c.unsigned_octets-octets.ensures.number)
