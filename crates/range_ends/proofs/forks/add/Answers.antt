use Rattle.std.proofs.Common.{◌≡◌, length, Some, subst, arith}
use Rattle.std.specs.Prelude.{slice_get}
use Rattle.range_ends.proofs.Leaves.{keep_below, push_keeps, push_there}
use Rattle.range_ends.proofs.forks.add.Goals as goal

pub returns-clause-kept : goal.returns-clause-kept
returns-clause-kept c =
    let old = c.args.forks.now.items in
    let new = c.push.new.self.items in
    keep_below old new (push_keeps old new c.args.fork c.in_ok-push.ensures.items)

pub returns-clause-there : goal.returns-clause-there
returns-clause-there c =
    let old = c.args.forks.now.items in
    let new = c.push.new.self.items in
    let same = c.len-place.ensures in
    let many = c.args.forks.now.ok.0 in
    let q : length old ≡ c.len-place.result = omega (arith, same, many) in
    subst (λ i. slice_get new i ≡ Some c.args.fork) q (push_there old new c.args.fork c.in_ok-push.ensures.items)
