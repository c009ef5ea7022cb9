use Rattle.ranges.proofs.Joins.{joined_from, joined_into, joined_apart}
use Rattle.ranges.proofs.join.join_all.Goals as goal

pub returns-in-Ok-clause-members : goal.returns-in-Ok-clause-members
returns-in-Ok-clause-members c z =
    let is = c.in-Some.ensures.cases.0 in
    let order = rw is at c.requires.order in
    rw is (λ i. joined_from z c.in-Ok.ensures order i, λ i. joined_into z c.in-Ok.ensures order i)

pub returns-in-Ok-clause-apart : goal.returns-in-Ok-clause-apart
returns-in-Ok-clause-apart c =
    let is = c.in-Some.ensures.cases.0 in
    joined_apart c.in-Ok.ensures (rw is at c.requires.order) (rw is at c.requires.some)
