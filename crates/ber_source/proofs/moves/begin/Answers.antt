use Rattle.std.proofs.Common.{arith, inl, inr, ◌≡◌, ◌≤◌, length}
use Rattle.octet_answers.specs.Unanswered.{no_budget}
use Rattle.ber_source.proofs.moves.begin.Goals as goal

pub returns-then-place-eq0-clause-left : goal.returns-then-place-eq0-clause-left
returns-then-place-eq0-clause-left g c = λ other.
    let none : c.args.place.now.budget ≡ 0 = (let t = c.if-place-eq0.true in omega (arith, t)) in
    no_budget (inl none)

pub returns-then-len-ge-MAX_OPEN-clause-left : goal.returns-then-len-ge-MAX_OPEN-clause-left
returns-then-len-ge-MAX_OPEN-clause-left g c = λ other.
    let many : 64 ≤ length c.args.place.now.values.items = omega (arith, c.len.ensures, c.args.place.now.values.ok.0, c.if-len-ge-MAX_OPEN.true) in
    no_budget (inr many)
