use Rattle.std.proofs.Common.{arith, sym, ap, ◌∙◌, ◌+◌, ◌-◌, drop}
use Rattle.octet_account.specs.Seen.{flat, flat_row}
use Rattle.account_checker.specs.Parts.{members_in}
use Rattle.account_checker.proofs.Lists.{drop_is, drop_end}
use Rattle.account_checker.proofs.Skipping.{pending_one, pending_next, pending_none, pending_end, drop_whole, drop_map}
use Rattle.account_checker.proofs.skipped.after_member.Goals as goal

pub loop-i-init : goal.loop-i-init
loop-i-init c = (omega arith, λ m rest e. pending_one m e)

pub returns-then-left-eq0 : goal.returns-then-left-eq0
returns-then-left-eq0 c = λ m rest e. ap flat (drop_whole c.args.rows.now c.loop-i.i) ∙ drop_map (λ r. flat_row r.listed) c.args.rows.now c.loop-i.i ∙ pending_none (c.loop-i.invariant.1 m rest e) c.if-left-eq0.true

pub loop-i-preserved : goal.loop-i-preserved
loop-i-preserved c = (
  (let b = c.loop-i.invariant.0 in omega (arith, b, c.rows_below.ensures.few)),
  λ m rest e. pending_next (flat_row c.index-rows-i.result.listed) (drop (c.loop-i.i + 1) (flat c.args.rows.now)) (c.loop-i.invariant.1 m rest e) c.if-left-eq0.false (drop_is (λ r. flat_row r.listed) c.args.rows.now c.loop-i.i c.index-rows-i.result c.loop-i-test.true c.index-rows-i.is) (ap (λ n. c.loop-i.left - 1 + n) (c.rows_below.ensures.is ∙ ap (λ r. members_in (flat_row r.listed)) (sym c.index-rows-i.is))),
)

pub returns : goal.returns
returns c = λ m rest e. pending_end (c.loop-i.invariant.1 m rest e) (drop_end (λ r. flat_row r.listed) c.args.rows.now c.loop-i.i c.loop-i-test.false)
