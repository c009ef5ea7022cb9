use Rattle.std.proofs.Common.{arith, ◌≡◌, ◌<◌, inl, inr, length, map, subst}
use Rattle.asn_base.specs.Seen.{item_of}
use Rattle.later_versions.specs.Differences.{AreSameTo}
use Rattle.later_versions.proofs.Fronts.{front_next, same_to_end, same_to_other}
use Rattle.later_versions.proofs.lists.same_items.Goals as goal

pub returns-then-i-others : goal.returns-then-i-others
returns-then-i-others c =
    same_to_end item_of (λ i j. i ≡ j) c.args.items.now c.args.others.now c.loop-i.i (omega arith) c.loop-i.invariant.0 (inr c.if-i-others.true) c.loop-i.invariant.1

pub returns-then-not-is_same_item : goal.returns-then-not-is_same_item
returns-then-not-is_same_item c =
    same_to_other item_of (λ i j. i ≡ j) c.args.items.now c.args.others.now c.loop-i.i c.index-items-i.result c.index-others-i.result c.loop-i-test.true c.if-i-others.false c.index-items-i.is c.index-others-i.is
    (λ h. absurd (let e = c.is_same_item.ensures.1 h in let f = c.if-not-is_same_item.true in cc)) c.loop-i.invariant.1

pub loop-i-preserved : goal.loop-i-preserved
loop-i-preserved c =
    let m : c.loop-i.i < length c.args.others.now = c.if-i-others.false in (
      omega (arith, m),
      front_next item_of (λ i j. i ≡ j) c.args.items.now c.args.others.now c.loop-i.i c.index-items-i.result c.index-others-i.result c.loop-i-test.true m c.index-items-i.is c.index-others-i.is
          (c.is_same_item.ensures.0 c.if-not-is_same_item.false) c.loop-i.invariant.1,
    )

pub returns : goal.returns
returns c =
    let e : c.loop-i.i ≡ length c.args.items.now = omega arith in
    subst (AreSameTo (λ i j. i ≡ j) (map item_of c.args.items.now) (map item_of c.args.others.now)) e
    (same_to_end item_of (λ i j. i ≡ j) c.args.items.now c.args.others.now c.loop-i.i (omega arith) c.loop-i.invariant.0 (inl c.loop-i-test.false) c.loop-i.invariant.1)
