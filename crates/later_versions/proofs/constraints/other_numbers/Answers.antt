use Rattle.later_versions.specs.Differences.{other_allowed, other_bounds}
use Rattle.later_versions.proofs.constraints.other_numbers.Goals as goal

pub returns-then-not-branch : goal.returns-then-not-branch
returns-then-not-branch c =
    other_allowed (λ h. absurd (let e = c.in_ok-allow_same_numbers.ensures.1 h in let f = c.if-not-branch.true in cc))

pub returns-then-not-are_same_bounds : goal.returns-then-not-are_same_bounds
returns-then-not-are_same_bounds c =
    other_bounds (c.in_ok-allow_same_numbers.ensures.0 c.if-not-branch.false)
    (λ h. absurd (let e = c.are_same_bounds.ensures.1 h in let f = c.if-not-are_same_bounds.true in cc))

pub returns : goal.returns
returns c = record {
  allowed = c.in_ok-allow_same_numbers.ensures.0 c.if-not-branch.false;
  visible = c.are_same_bounds.ensures.0 c.if-not-are_same_bounds.false;
}
