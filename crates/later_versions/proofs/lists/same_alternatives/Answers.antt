use Rattle.std.proofs.Common.{arith, ◌≡◌, ◌<◌, inl, inr, length, map, subst}
use Rattle.asn_base.specs.Seen.{alternative_of}
use Rattle.later_versions.specs.Differences.{AreSameTo}
use Rattle.later_versions.proofs.Fronts.{front_next, same_to_end, same_to_other}
use Rattle.later_versions.proofs.lists.same_alternatives.Goals as goal

pub returns-then-i-others : goal.returns-then-i-others
returns-then-i-others c =
    same_to_end alternative_of (λ a b. a.name ≡ b.name) c.args.alternatives.now c.args.others.now c.loop-i.i (omega arith) c.loop-i.invariant.0 (inr c.if-i-others.true) c.loop-i.invariant.1

pub returns-then-not-is_same_alternative : goal.returns-then-not-is_same_alternative
returns-then-not-is_same_alternative c =
    same_to_other alternative_of (λ a b. a.name ≡ b.name) c.args.alternatives.now c.args.others.now c.loop-i.i c.index-alternatives-i.result c.index-others-i.result c.loop-i-test.true c.if-i-others.false c.index-alternatives-i.is c.index-others-i.is
    (λ h. absurd (let e = c.is_same_alternative.ensures.1 h in let f = c.if-not-is_same_alternative.true in cc)) c.loop-i.invariant.1

pub loop-i-preserved : goal.loop-i-preserved
loop-i-preserved c =
    let m : c.loop-i.i < length c.args.others.now = c.if-i-others.false in (
      omega (arith, m),
      front_next alternative_of (λ a b. a.name ≡ b.name) c.args.alternatives.now c.args.others.now c.loop-i.i c.index-alternatives-i.result c.index-others-i.result c.loop-i-test.true m c.index-alternatives-i.is c.index-others-i.is
          (c.is_same_alternative.ensures.0 c.if-not-is_same_alternative.false) c.loop-i.invariant.1,
    )

pub returns : goal.returns
returns c =
    let e : c.loop-i.i ≡ length c.args.alternatives.now = omega arith in
    subst (AreSameTo (λ a b. a.name ≡ b.name) (map alternative_of c.args.alternatives.now) (map alternative_of c.args.others.now)) e
    (same_to_end alternative_of (λ a b. a.name ≡ b.name) c.args.alternatives.now c.args.others.now c.loop-i.i (omega arith) c.loop-i.invariant.0 (inl c.loop-i-test.false) c.loop-i.invariant.1)
