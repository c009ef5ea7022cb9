use Rattle.std.proofs.Common.{◌∙◌, ap, length, sym}
use Rattle.primitive_writer.proofs.BitPieces.{cleared_bits, fewer_after, none_ended, no_bits_left}
use Rattle.primitive_writer.proofs.bits.trimmed.Goals as goal

pub returns-in-Some : goal.returns-in-Some
returns-in-Some c =
    fewer_after _ _ _ c.args.bits.now.unused
    (cleared_bits c.args.bits.now.octets.items c.in-Some.front.now c.in-Some.last.now c.cleared.result c.args.bits.now.unused (sym c.as_slice.ensures.value ∙ c.in-Some.ensures.cases.0) c.args.bits.now.few_unused c.cleared.ensures)
    c.trimmed_octets.ensures

pub returns-in-None : goal.returns-in-None
returns-in-None c = none_ended _ _ 0 (no_bits_left c.args.bits.now.octets.items c.args.bits.now.unused (ap length (sym c.as_slice.ensures.value) ∙ c.in-None.ensures.cases)) c.no_bits.ensures
