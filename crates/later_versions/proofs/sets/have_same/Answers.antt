use Rattle.std.proofs.Common.{map}
use Rattle.asn_base.specs.Seen.{range_of}
use Rattle.later_versions.proofs.Agree.{same_below, sets_same}
use Rattle.later_versions.proofs.Fronts.{beq_false, beq_true, no, onward}
use Rattle.later_versions.proofs.sets.have_same.Goals as goal

pub returns-then-down-other_down : goal.returns-then-down-other_down
returns-then-down-other_down c =
    no (λ h. beq_false c.reach_down-down.result c.reach_down-other_down.result c.if-down-other_down.true c.reach_down-down.ensures c.reach_down-other_down.ensures
    (same_below c.args.one.now c.args.other.now (map range_of c.ranges-listed.result.now) (map range_of c.ranges-others.result.now) c.ranges-listed.ensures.is c.ranges-others.ensures.is h))

pub returns : goal.returns
returns c =
    onward c.agree_at_all-2.ensures
    (λ p. sets_same c.args.one.now c.args.other.now (map range_of c.ranges-listed.result.now) (map range_of c.ranges-others.result.now) c.ranges-listed.ensures.is c.ranges-others.ensures.is
    (beq_true c.reach_down-down.result c.reach_down-other_down.result c.if-down-other_down.false c.reach_down-down.ensures c.reach_down-other_down.ensures)
    (c.agree_at_all.ensures.0 c.if-not-agree_at_all.false) p)
    (λ h z e. h z)

pub returns-then-not-agree_at_all : goal.returns-then-not-agree_at_all
returns-then-not-agree_at_all c =
    no (λ h. absurd (let e = c.agree_at_all.ensures.1 (λ z e. h z) in let f = c.if-not-agree_at_all.true in cc))
