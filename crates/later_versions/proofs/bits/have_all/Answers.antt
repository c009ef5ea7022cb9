use Rattle.std.proofs.Common.{arith, map}
use Rattle.std.proofs.lemmas.List.{length-map}
use Rattle.asn_base.specs.Seen.{named_bit_of}
use Rattle.later_versions.proofs.Fronts.{mapped_at, no, yes}
use Rattle.later_versions.proofs.Placing.{at_place, has_all, has_next}
use Rattle.later_versions.proofs.bits.have_all.Goals as goal

pub returns-then-not-has : goal.returns-then-not-has
returns-then-not-has c =
    no (λ h. let m = h (named_bit_of c.index-others-i.result) (at_place (map named_bit_of c.args.others.now) c.loop-i.i (named_bit_of c.index-others-i.result)
    (mapped_at named_bit_of c.args.others.now c.loop-i.i c.index-others-i.result c.loop-i-test.true c.index-others-i.is)) in
    absurd (let e = c.has.ensures.1 m in let f = c.if-not-has.true in cc))

pub loop-i-preserved : goal.loop-i-preserved
loop-i-preserved c =
    has_next (map named_bit_of c.args.bits.now) (map named_bit_of c.args.others.now) c.loop-i.i (named_bit_of c.index-others-i.result)
    (mapped_at named_bit_of c.args.others.now c.loop-i.i c.index-others-i.result c.loop-i-test.true c.index-others-i.is)
    (c.has.ensures.0 c.if-not-has.false) c.loop-i.invariant

pub returns : goal.returns
returns c =
    let n = length-map c.args.others.now named_bit_of in
    let l = c.loop-i-test.false in
    yes (has_all (map named_bit_of c.args.bits.now) (map named_bit_of c.args.others.now) c.loop-i.i (omega (arith, n, l)) c.loop-i.invariant)
