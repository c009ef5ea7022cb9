use Rattle.std.proofs.Common.{rules, ◌<◌, refl}
use Rattle.primitive_writer.proofs.BitPieces.{ended_pieces}
use Rattle.primitive_writer.proofs.bits.ended.Goals as goal

pub returns : goal.returns
returns c =
    let small : c.args.last < 256 = search rules in
    ended_pieces c.args.front.now _ c.args.last c.zeros_after.result c.zeros_after.ensures c.are_octets.ensures small refl
