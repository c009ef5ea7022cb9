use Rattle.std.proofs.Common.{arith, ◌≡◌, ◌-◌, true, false, drop, length, length-drop, subst, sym}
use Rattle.std.proofs.lemmas.List.{take_all}
use Rattle.octets.specs.Fronts.{HeaderAt}
use Rattle.octet_findings.proofs.Fronts.{none_past}
use Rattle.octet_findings.proofs.headers.header_at.Goals as goal

pub returns-then-at-octets-clause-none : goal.returns-then-at-octets-clause-none
returns-then-at-octets-clause-none c = none_past c.args.octets.now c.args.at (omega arith)

pub returns-in-Err-clause-none : goal.returns-in-Err-clause-none
returns-in-Err-clause-none c t d n k h =
    let all = take_all (length c.args.octets.now - c.args.at) (drop c.args.at c.args.octets.now)
    (omega (arith, length-drop c.args.at c.args.octets.now)) in
    let e : false ≡ true = c.in-Err.ensures.only t d n k (subst (λ y. HeaderAt t d n k y) (sym all) h) in
    cc
