use Rattle.std.proofs.Common.{arith, sym, ap, ◌∙◌, ◌≡◌, ◌<◌, ◌++◌, ◌-◌}
use Rattle.octet_account.specs.Flat.{member_rows}
use Rattle.account_checker.proofs.Skipping.{sizes_all, next_is, next_rows, size_found, size_further, size_passed, sizes_end}
use Rattle.octet_account.specs.Seen.{flat}
use Rattle.account_checker.proofs.skipped.size_at.Goals as goal
use Rattle.account_checker.proofs.skipped.size_at.Goals.{in-Some+else-wanted-eq0, in-None}

pub loop-i-init : goal.loop-i-init
loop-i-init c = λ rs rest e f. sizes_all rs c.args.number e (f ∙ (let g : c.args.members ≡ c.args.members - 0 = omega arith in g))

pub returns-then-wanted-eq0-clause-is : goal.returns-then-wanted-eq0-clause-is
returns-then-wanted-eq0-clause-is c = λ rs rest e f.
    let h = c.loop-i.invariant rs rest e f in
    let some : 0 < c.args.members - c.loop-i.i = omega (arith, c.loop-i-test.true) in
    size_found h some (c.in-Some.ensures (next_is h some).member (member_rows (next_is h some).following ++ rest) (next_rows h some)) c.if-wanted-eq0.true

pub loop-i-preserved : goal.loop-i-preserved
loop-i-preserved c = λ rs rest e f.
    let h = c.loop-i.invariant rs rest e f in
    let some : 0 < c.args.members - c.loop-i.i = omega (arith, c.loop-i-test.true) in
    let n = next_is h some in
    elim c.match-first_size.branch [
      | in-Some+else-wanted-eq0 w ↦ size_further h some (w.in-Some.ensures n.member (member_rows n.following ++ rest) (next_rows h some)) w.if-wanted-eq0.false (ap (λ l. flat l.now) w.left-is ∙ w.after_member-left.ensures n.member (member_rows n.following ++ rest) (next_rows h some)) (omega (arith, c.loop-i-test.true)) w.wanted-is
      | in-None w ↦ size_passed h some (w.in-None.ensures n.member (member_rows n.following ++ rest) (next_rows h some)) (ap (λ l. flat l.now) w.left-is ∙ w.after_member-left-in-None.ensures n.member (member_rows n.following ++ rest) (next_rows h some)) (omega (arith, c.loop-i-test.true)) w.wanted-is
    ]

pub returns-clause-is : goal.returns-clause-is
returns-clause-is c = λ rs rest e f. sym (sizes_end (c.loop-i.invariant rs rest e f) (omega (arith, c.loop-i-test.false)))
