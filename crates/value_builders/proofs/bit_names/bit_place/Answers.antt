use Rattle.std.proofs.Common.{rules, arith, map, sym, ◌∙◌}
use Rattle.asn_base.specs.Seen.{named_bit_of}
use Rattle.value_builders.proofs.SetBits.{bit_at, bit_past, no_bit}
use Rattle.value_builders.proofs.bit_names.bit_place.Goals as goal
use Rattle.asn_base.specs.proving.Lists.{seen_here, length_mapped}

pub returns-then-is_bit : goal.returns-then-is_bit
returns-then-is_bit c =
    let here = seen_here named_bit_of c.args.bits.now c.loop-bit.bit-index c.bit-item.result (omega (arith, c.loop-bit-test.true, c.loop-bit.auto.bit-index-end)) c.bit-item.is in
    let e = bit_at c.args.name.now (map named_bit_of c.args.bits.now) c.loop-bit.bit-index (named_bit_of c.bit-item.result) c.loop-bit.invariant here (sym c.is_bit.ensures ∙ c.if-is_bit.true) in
    search rules

pub loop-bit-preserved : goal.loop-bit-preserved
loop-bit-preserved c =
    let here = seen_here named_bit_of c.args.bits.now c.loop-bit.bit-index c.bit-item.result (omega (arith, c.loop-bit-test.true, c.loop-bit.auto.bit-index-end)) c.bit-item.is in
    bit_past c.args.name.now (map named_bit_of c.args.bits.now) c.loop-bit.bit-index (named_bit_of c.bit-item.result) c.loop-bit.invariant here (sym c.is_bit.ensures ∙ c.if-is_bit.false)

pub returns : goal.returns
returns c =
    let long = length_mapped named_bit_of c.args.bits.now in
    let l = c.loop-bit-test.false in let m = c.loop-bit.auto.bit-index-end in
    sym (no_bit c.args.name.now (map named_bit_of c.args.bits.now) c.loop-bit.bit-index c.loop-bit.invariant (omega (arith, long, l, m)))
