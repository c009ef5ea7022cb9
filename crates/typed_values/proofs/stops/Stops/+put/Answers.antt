use Rattle.std.proofs.Common.{arith, refl, subst}
use Rattle.std.specs.Prelude.{◌-◌, ◌%◌}
use Rattle.typed_values.specs.declared.stops.Branch.{Branch}
use Rattle.typed_values.specs.proving.Stopping.{IsPut}
use Rattle.typed_values.proofs.Branches.{is_zero, no_zero, one_up, put_even, put_odd}
use Rattle.typed_values.proofs.ChainedNames.{some_has}
use Rattle.typed_values.proofs.Tables.{got_here}
use Rattle.typed_values.proofs.stops.Stops.+put.Goals as goal

pub returns-in-Some-clause-it : goal.returns-in-Some-clause-it
returns-in-Some-clause-it g c =
    let bs = c.args.self.now.branches.items in
    let b = c.index-branch.result.now in
    let one : Branch = record { even = c.in-Some.even; odd = b.odd } in
    let same = c.len.ensures in
    let many = c.args.self.now.branches.ok.0 in
    let test = c.if-tree-len.false in
    let there_before = got_here bs c.args.tree b b (omega (arith, same, many, test)) c.index-branch.ensures in
    some_has c.add.result c.add.ensures.there
    (λ at there. subst (λ h. IsPut bs c.add.new.self.branches.items h c.args.tree c.args.number c.args.value at)
    (one_up c.args.height c.if-height-eq0.false)
    (put_even bs c.put.new.self.branches.items c.add.new.self.branches.items (c.args.height - 1) c.args.tree
    c.args.value c.in-Some.even at b one there_before c.in-Some.ensures.more c.add.ensures.more there c.args.number
    (is_zero (c.args.number % 2) c.if-number-eq0.true) refl refl c.in-Some.ensures.it))

pub returns-in-Some-put-clause-it : goal.returns-in-Some-put-clause-it
returns-in-Some-put-clause-it g c =
    let bs = c.args.self.now.branches.items in
    let b = c.index-branch.result.now in
    let one : Branch = record { even = b.even; odd = c.in-Some-put.odd } in
    let same = c.len.ensures in
    let many = c.args.self.now.branches.ok.0 in
    let test = c.if-tree-len.false in
    let there_before = got_here bs c.args.tree b b (omega (arith, same, many, test)) c.index-branch.ensures in
    some_has c.add-else-number-eq0.result c.add-else-number-eq0.ensures.there
    (λ at there. subst (λ h. IsPut bs c.add-else-number-eq0.new.self.branches.items h c.args.tree c.args.number c.args.value at)
    (one_up c.args.height c.if-height-eq0.false)
    (put_odd bs c.put-else-number-eq0.new.self.branches.items c.add-else-number-eq0.new.self.branches.items (c.args.height - 1) c.args.tree
    c.args.value c.in-Some-put.odd at b one there_before c.in-Some-put.ensures.more c.add-else-number-eq0.ensures.more there c.args.number
    (no_zero (c.args.number % 2) c.if-number-eq0.false) refl refl c.in-Some-put.ensures.it))
