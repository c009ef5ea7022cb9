use Rattle.std.proofs.Common.{arith, refl, get_or}
use Rattle.account_checker.specs.Follows.{sizes}
use Rattle.account_checker.proofs.Skipping.{place_next, places_end, places_here}
use Rattle.account_checker.proofs.order.octets_before.Goals as goal

pub loop-j-init : goal.loop-j-init
loop-j-init c = (omega arith, omega arith, λ rs rest e f. refl)

pub returns-then-j-place : goal.returns-then-j-place
returns-then-j-place c = λ rs rest e f. places_here (sizes rs) c.args.inverse.now c.loop-j.j c.args.place c.loop-j.invariant.1 c.if-j-place.true (c.loop-j.invariant.2 rs rest e f)

pub loop-j-preserved : goal.loop-j-preserved
loop-j-preserved c = (
  (let b = c.loop-j.invariant.0 in omega (arith, b, c.size_at.ensures.few)),
  (omega (arith, c.if-j-place.false)),
  λ rs rest e f. place_next (sizes rs) c.args.inverse.now c.loop-j.j (get_or c.args.inverse.now c.loop-j.j 0) c.loop-j-test.true refl (c.loop-j.invariant.2 rs rest e f) (c.size_at.ensures.is rs rest e f) refl,
)

pub returns : goal.returns
returns c = λ rs rest e f. places_end (sizes rs) c.args.inverse.now c.loop-j.j c.args.place c.loop-j-test.false c.loop-j.invariant.1 (c.loop-j.invariant.2 rs rest e f)
