use Rattle.std.proofs.Common.{arith, ◌<◌, length, sym, subst, ap, ◌∙◌, true≢false, below_more}
use Rattle.asn_base.specs.Depths.{rows_of}
use Rattle.asn_base.specs.Names.{IsMember}
use Rattle.asn_base.specs.proving.Reaching.{RowReaches}
use Rattle.asn_base.proofs.DepthLaws.{row_here}
use Rattle.asn_base.proofs.Reaching.{none_reach}
use Rattle.asn_base.proofs.circle.first_back.Goals as goal
use Rattle.asn_base.specs.proving.Lists.{length_mapped}

pub leads_back-requires-clause-inside : goal.leads_back-requires-clause-inside
leads_back-requires-clause-inside c =
    let inside : c.loop-i.i < length c.args.defaults.now = omega (arith, c.loop-i-test.true, c.requires.long) in
    let row = row_here c.args.defaults.now c.loop-i.i c.index-defaults-i.result inside ∙ ap (λ v. v.items) (sym c.index-defaults-i.is) ∙ sym c.as_slice.ensures.value in
    λ j m. c.requires.inside c.loop-i.i j (subst (IsMember j) (sym row) m)

pub returns-then-branch : goal.returns-then-branch
returns-then-branch c =
    let inside : c.loop-i.i < length c.args.defaults.now = omega (arith, c.loop-i-test.true, c.requires.long) in
    let row = row_here c.args.defaults.now c.loop-i.i c.index-defaults-i.result inside ∙ ap (λ v. v.items) (sym c.index-defaults-i.is) ∙ sym c.as_slice.ensures.value in
    (subst (λ q. RowReaches (rows_of c.args.rows.now) q c.loop-i.i) (sym row) (c.in_ok-leads_back.ensures.0 c.if-branch.true), c.loop-i.invariant)

pub loop-i-preserved : goal.loop-i-preserved
loop-i-preserved c =
    let inside : c.loop-i.i < length c.args.defaults.now = omega (arith, c.loop-i-test.true, c.requires.long) in
    let row = row_here c.args.defaults.now c.loop-i.i c.index-defaults-i.result inside ∙ ap (λ v. v.items) (sym c.index-defaults-i.is) ∙ sym c.as_slice.ensures.value in
    below_more _ _ c.loop-i.invariant (λ r. true≢false (sym (c.in_ok-leads_back.ensures.1 (subst (λ q. RowReaches (rows_of c.args.rows.now) q c.loop-i.i) row r)) ∙ c.if-branch.false))

pub returns : goal.returns
returns c = λ k r.
    none_reach (rows_of c.args.rows.now) (rows_of c.args.defaults.now) c.loop-i.i k (let h = length_mapped (λ v. v.items) c.args.defaults.now in omega (arith, h, c.requires.long, c.loop-i-test.false)) c.loop-i.invariant r
