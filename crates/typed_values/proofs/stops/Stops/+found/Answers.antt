use Rattle.std.proofs.Common.{ℕ, arith, subst}
use Rattle.std.specs.Prelude.{◌-◌, ◌%◌, MatchOption}
use Rattle.typed_values.specs.Chains.{Has}
use Rattle.typed_values.proofs.Branches.{is_zero, no_zero, on_even, on_odd, one_up}
use Rattle.typed_values.proofs.Tables.{got_here}
use Rattle.typed_values.proofs.stops.Stops.+found.Goals as goal

pub returns-then-number-eq0 : goal.returns-then-number-eq0
returns-then-number-eq0 g c =
    let bs = c.args.self.now.branches.items in
    let b = c.index-branch.result.now in
    let same = c.len.ensures in
    let many = c.args.self.now.branches.ok.0 in
    let test = c.if-tree-len.false in
    let there = got_here bs c.args.tree b b (omega (arith, same, many, test)) c.index-branch.ensures in
    subst (λ h. MatchOption c.found.result ((y : ℕ) → Has bs h c.args.tree c.args.number y → ⊥) (Has bs h c.args.tree c.args.number))
    (one_up c.args.height c.if-height-eq0.false)
    (on_even bs (c.args.height - 1) c.args.tree c.args.number b there c.found.result (is_zero (c.args.number % 2) c.if-number-eq0.true) c.found.ensures)

pub returns-else-number-eq0 : goal.returns-else-number-eq0
returns-else-number-eq0 g c =
    let bs = c.args.self.now.branches.items in
    let b = c.index-branch.result.now in
    let same = c.len.ensures in
    let many = c.args.self.now.branches.ok.0 in
    let test = c.if-tree-len.false in
    let there = got_here bs c.args.tree b b (omega (arith, same, many, test)) c.index-branch.ensures in
    subst (λ h. MatchOption c.found-else-number-eq0.result ((y : ℕ) → Has bs h c.args.tree c.args.number y → ⊥) (Has bs h c.args.tree c.args.number))
    (one_up c.args.height c.if-height-eq0.false)
    (on_odd bs (c.args.height - 1) c.args.tree c.args.number b there c.found-else-number-eq0.result (no_zero (c.args.number % 2) c.if-number-eq0.false) c.found-else-number-eq0.ensures)
