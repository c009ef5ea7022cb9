use Rattle.later_versions.proofs.Marks.{is_size}
use Rattle.later_versions.proofs.Tracking.{if_ok}
use Rattle.later_versions.proofs.constraints.allowed_sizes.Goals as goal

pub returns : goal.returns
returns c = if_ok c.meet.result c.meet.ensures.members (λ both m z.
    let h = m z in
    let a = c.in_ok-numbers.ensures z in
    let b = c.in_ok-sizes.ensures z in
    let s = is_size z in (
      λ p. (let q = h.0 p in (a.0 q.0, s.0 (b.0 q.1))),
      λ p. h.1 (a.1 p.0, b.1 (s.1 p.1)),
    ))
