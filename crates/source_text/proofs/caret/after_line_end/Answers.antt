use Rattle.std.proofs.Common.{arith, sym}
use Rattle.source_text.proofs.Ends.{after_end, no_end, no_end_at_all, one_before}
use Rattle.source_text.proofs.caret.after_line_end.Goals as goal

pub loop-place-init : goal.loop-place-init
loop-place-init c = record { within = omega arith; after = no_end_at_all c.args.octets.now }

pub returns-then-is_line_end : goal.returns-then-is_line_end
returns-then-is_line_end c =
    after_end c.args.octets.now c.loop-place.place c.loop-place-test.true c.loop-place.invariant.within
    (sym c.if-is_line_end.ensures) c.loop-place.invariant.after

pub loop-place-preserved : goal.loop-place-preserved
loop-place-preserved c = record {
  within = omega (arith, c.loop-place.invariant.within);
  after = one_before c.args.octets.now c.loop-place.place c.loop-place-test.true (sym c.if-is_line_end.ensures)
      c.loop-place.invariant.after;
}

pub returns : goal.returns
returns c =
    no_end c.args.octets.now c.loop-place.place (omega (arith, c.loop-place-test.false)) c.loop-place.invariant.after
