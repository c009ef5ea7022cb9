use Rattle.std.proofs.Common.{rules, ◌<◌, refl, sym, ◌∙◌}
use Rattle.primitive_writer.proofs.BitPieces.{filled_pieces}
use Rattle.primitive_writer.proofs.bits.filled.Goals as goal

pub returns-in-Some : goal.returns-in-Some
returns-in-Some c =
    let small : c.cleared.result < 256 = search rules in
    filled_pieces c.args.bits.now.octets.items c.in-Some.front.now _ c.in-Some.last.now c.cleared.result c.args.bits.now.unused (sym c.as_slice.ensures.value ∙ c.in-Some.ensures.cases.0) c.args.bits.now.few_unused c.cleared.ensures c.are_octets.ensures small refl
