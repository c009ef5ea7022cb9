use Rattle.ranges.proofs.set.Ranges.union_of.Goals as goal

pub returns : goal.returns
returns c = record { members = λ z. rw c.in_ok-new.ensures.ok (c.in_ok-items.ensures.members z) }
