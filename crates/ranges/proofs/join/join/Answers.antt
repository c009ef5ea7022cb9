use Rattle.ranges.proofs.join.join.Goals as goal

pub returns-in-Ok-clause-members : goal.returns-in-Ok-clause-members
returns-in-Ok-clause-members c z =
    let e = c.deref.ensures.value in
    let m = rw e at c.in-Ok.ensures.members z in
    let s = c.in_ok-sorted.ensures.members z in
    (λ i. s.0 (m.0 i), λ i. m.1 (s.1 i))
