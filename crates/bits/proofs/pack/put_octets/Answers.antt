use Rattle.std.proofs.Common.{arith, ◌∙◌}
use Rattle.bits.specs.Packed.{first_bits}
use Rattle.bits.specs.Words.{octet_bits, low_bits}
use Rattle.bits.proofs.OctetLaws.{more_held, first_octets}
use Rattle.bits.proofs.pack.put_octets.Goals as goal

pub loop-front-preserved : goal.loop-front-preserved
loop-front-preserved c =
    let e = first_octets 8 c.loop-front.rest.now c.in-Some.front.now c.in-Some.after.now (low_bits 64 c.word_of.result) c.in-Some.ensures.cases.0 c.in-Some.ensures.cases.1 c.word_of.ensures in
    let m = more_held c.put.new.words.items c.loop-front.at 64 (first_bits c.loop-front.words.items c.loop-front.at) (low_bits 64 c.word_of.result) (octet_bits c.loop-front.rest.now) (octet_bits c.in-Some.after.now) _ c.put.ensures.held e c.loop-front.invariant.all in
    record { held = m.0; all = m.1; count = omega (arith, c.loop-front.invariant.count, c.in-Some.ensures.cases.2); room = c.put.ensures.room ∙ c.loop-front.invariant.room }
