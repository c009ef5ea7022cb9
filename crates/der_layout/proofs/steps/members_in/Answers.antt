use Rattle.std.proofs.Common.{◌≡◌, ◌-◌, suc, ap, ◌∙◌, arith}
use Rattle.der_layout.specs.Rows.{listed}
use Rattle.der_layout.proofs.steps.members_in.Goals as goal

pub returns-then-row-rows : goal.returns-then-row-rows
returns-then-row-rows c = c.sum.ensures ∙ ap listed (omega arith)

pub returns-else-row-rows : goal.returns-else-row-rows
returns-else-row-rows c =
    let no = c.if-row-rows.false in
    let none : 0 ≡ c.args.rows - suc c.args.row.row = omega (arith, no) in
    ap listed none
