use Rattle.std.proofs.Common.{arith, ◌≤◌}
use Rattle.std.specs.List.{AllByRecursion}
use Rattle.asn_base.specs.Seen.{named_bit_of}
use Rattle.asn_base.proofs.Leaves.{no}
use Rattle.asn_base.proofs.numbers.are_low.Goals as goal
use Rattle.asn_base.specs.proving.Lists.{drop_at, left_at, onward}

pub returns-then-bits-i-gt65535 : goal.returns-then-bits-i-gt65535
returns-then-bits-i-gt65535 c =
    let a = left_at (AllByRecursion (λ b. b.place ≤ 65535)) _ _ c.loop-i.i (drop_at named_bit_of c.args.bits.now c.loop-i.i c.index-bits-i.result c.loop-i-test.true) c.loop-i.invariant in
    no (λ h. let l = (a.0 h).0 in let g = c.if-bits-i-gt65535.true in omega (arith, l, g))

pub loop-i-preserved : goal.loop-i-preserved
loop-i-preserved c =
    let a = left_at (AllByRecursion (λ b. b.place ≤ 65535)) _ _ c.loop-i.i (drop_at named_bit_of c.args.bits.now c.loop-i.i c.index-bits-i.result c.loop-i-test.true) c.loop-i.invariant in
    onward a (λ h. h.1) (λ h. (let g = c.if-bits-i-gt65535.false in omega (arith, g), h))
