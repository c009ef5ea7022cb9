use Rattle.std.proofs.Common.{◌<◌, length, sym, ◌∙◌, true≢false}
use Rattle.std.specs.List.{AllByRecursion}
use Rattle.asn_base.proofs.Leaves.{yes, no}
use Rattle.asn_base.proofs.members.are_there.Goals as goal
use Rattle.asn_base.specs.proving.Lists.{drop_here, drop_past, left_at, onward}

pub returns-then-not-has : goal.returns-then-not-has
returns-then-not-has c =
    let a = left_at (AllByRecursion (λ u. u < length c.args.types.now)) _ _ c.loop-i.i (drop_here c.args.row.now c.loop-i.i 0 c.loop-i-test.true) c.loop-i.invariant in
    no (λ h. true≢false (sym (c.has.ensures.1 (a.0 h).0) ∙ c.if-not-has.true))

pub loop-i-preserved : goal.loop-i-preserved
loop-i-preserved c =
    let a = left_at (AllByRecursion (λ u. u < length c.args.types.now)) _ _ c.loop-i.i (drop_here c.args.row.now c.loop-i.i 0 c.loop-i-test.true) c.loop-i.invariant in
    onward a (λ p. p.1) (λ p. (c.has.ensures.0 c.if-not-has.false, p))

pub returns : goal.returns
returns c = yes ((left_at (AllByRecursion (λ u. u < length c.args.types.now)) _ _ c.loop-i.i (drop_past c.args.row.now c.loop-i.i c.loop-i-test.false) c.loop-i.invariant).1 tt)
