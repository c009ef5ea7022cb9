use Rattle.std.proofs.Common.{arith, ◌≡◌}
use Rattle.primitive_writer.proofs.BitPieces.{kept_ended, none_kept}
use Rattle.primitive_writer.proofs.bits.trimmed_octets.Goals as goal

pub returns-in-Some : goal.returns-in-Some
returns-in-Some c =
    let zero : c.args.last ≡ 0 = omega arith in
    kept_ended c.args.front.now c.without_zeros-kept.result.now c.in-Some.front.now _ c.args.last c.in-Some.last.now c.without_zeros-kept.ensures zero c.in-Some.ensures.cases.0 c.ended-in-Some.ensures

pub returns-in-None : goal.returns-in-None
returns-in-None c =
    let zero : c.args.last ≡ 0 = omega arith in
    none_kept c.args.front.now c.without_zeros-kept.result.now _ c.args.last c.without_zeros-kept.ensures zero c.in-None.ensures.cases c.no_bits.ensures
