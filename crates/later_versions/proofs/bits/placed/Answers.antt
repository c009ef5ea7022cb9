use Rattle.std.proofs.Common.{arith, map}
use Rattle.std.proofs.lemmas.List.{length-map}
use Rattle.asn_base.specs.Seen.{named_bit_of}
use Rattle.later_versions.proofs.Fronts.{mapped_got}
use Rattle.later_versions.proofs.Placing.{placed_all, placed_next}
use Rattle.later_versions.proofs.bits.placed.Goals as goal

pub loop-i-preserved : goal.loop-i-preserved
loop-i-preserved c =
    placed_next (map named_bit_of c.args.bits.now) c.loop-i.places c.insert.new.self c.loop-i.i _
    (mapped_got named_bit_of c.args.bits.now c.loop-i.i c.index-bits-i.result c.loop-i-test.true c.index-bits-i.is)
    c.in-Ok.ensures.updates.0 c.loop-i.invariant

pub returns : goal.returns
returns c =
    let n = length-map c.args.bits.now named_bit_of in
    let l = c.loop-i-test.false in
    placed_all (map named_bit_of c.args.bits.now) c.loop-i.places c.loop-i.i (omega (arith, n, l)) c.loop-i.invariant
