use Rattle.std.proofs.Common.{sym, ◌∙◌}
use Rattle.std.specs.Prelude.{is_none}
use Rattle.asn_base.proofs.Bounding.{any_found, any_none, any_passed, from_not}
use Rattle.asn_base.proofs.bounds.are_open_above.Goals as goal

pub returns-then-is_none : goal.returns-then-is_none
returns-then-is_none c =
    any_found (λ r. is_none r.greatest) c.args.ranges.now c.loop-i.i _ c.loop-i-test.true (from_not _ c.is_none.result (sym c.is_none.ensures) ∙ c.if-is_none.true) c.loop-i.invariant

pub loop-i-preserved : goal.loop-i-preserved
loop-i-preserved c =
    any_passed (λ r. is_none r.greatest) c.args.ranges.now c.loop-i.i _ c.loop-i-test.true (from_not _ c.is_none.result (sym c.is_none.ensures) ∙ c.if-is_none.false) c.loop-i.invariant

pub returns : goal.returns
returns c = any_none (λ r. is_none r.greatest) c.args.ranges.now c.loop-i.i c.loop-i-test.false c.loop-i.invariant
