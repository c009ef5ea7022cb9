use Rattle.std.proofs.Common.{refl, ◌++◌, ◌∷◌, [], drop, ap, sym, ◌∙◌, subst}
use Rattle.octet_account.specs.Seen.{flat_row, flat}
use Rattle.account_text.specs.proving.Stack.{AgreesWithStack, root}
use Rattle.account_text.proofs.Leaving.{from_account}
use Rattle.account_text.proofs.Standing.{start, none_expected, row_is, small_row, none_after, all_rows, too_few}
use Rattle.account_text.proofs.stack.are_rows.Goals as goal

pub loop-row-init : goal.loop-row-init
loop-row-init c =
    let all = flat c.args.rows.now in
    let new = c.in_ok-push.ensures.items in
    let none = c.new-stack.ensures.items in
    subst (λ gs. AgreesWithStack all gs all) (sym (new ∙ ap (λ gs. gs ++ root ∷ []) none)) (start all)

pub returns-in_default-clause-no : goal.returns-in_default-clause-no
returns-in_default-clause-no c = λ _ a h.
    let all = flat c.args.rows.now in
    let e = row_is c.args.rows.now c.loop-row.row-index c.row-item.result c.loop-row-test.true c.row-item.is in
    let none = c.in_default.ensures.none refl in
    none_expected all (flat_row c.row-item.result.listed) _
    (subst (AgreesWithStack all []) e (subst (λ gs. AgreesWithStack all (gs ++ []) (flat (drop c.loop-row.row-index c.args.rows.now))) none (c.in_default.ensures.kept all _ c.loop-row.invariant))) a h

pub enter-requires-clause-small : goal.enter-requires-clause-small
enter-requires-clause-small c = small_row c.args.rows.now c.loop-row.row-index c.row-item.result c.requires c.loop-row-test.true c.row-item.is

pub returns-then-not-branch-clause-no : goal.returns-then-not-branch-clause-no
returns-then-not-branch-clause-no c = λ _ a h.
    let all = flat c.args.rows.now in
    let e = row_is c.args.rows.now c.loop-row.row-index c.row-item.result c.loop-row-test.true c.row-item.is in
    c.in_ok-enter.ensures.refused (cc (c.if-not-branch.true)) all _
    (subst (AgreesWithStack all (c.next.new.stack.items ++ c.in-Some.top ∷ [])) e (c.in-Some.ensures.kept all _ c.loop-row.invariant)) (from_account a all h)

pub loop-row-preserved : goal.loop-row-preserved
loop-row-preserved c =
    let all = flat c.args.rows.now in
    let e = row_is c.args.rows.now c.loop-row.row-index c.row-item.result c.loop-row-test.true c.row-item.is in
    c.in_ok-enter.ensures.taken (cc (c.if-not-branch.false)) all _
    (subst (AgreesWithStack all (c.next.new.stack.items ++ c.in-Some.top ∷ [])) e (c.in-Some.ensures.kept all _ c.loop-row.invariant))

pub returns-clause-yes : goal.returns-clause-yes
returns-clause-yes c = λ e.
    all_rows (flat c.args.rows.now) c.next-2.new.stack.items _ (none_after c.args.rows.now c.loop-row.row-index c.loop-row-test.false)
    c.next-2.result c.next-2.ensures.none (cc (c.is_none.ensures, e)) (c.next-2.ensures.kept _ _ c.loop-row.invariant)

pub returns-clause-no : goal.returns-clause-no
returns-clause-no c = λ e.
    too_few (flat c.args.rows.now) c.next-2.new.stack.items _ (none_after c.args.rows.now c.loop-row.row-index c.loop-row-test.false)
    c.next-2.result c.next-2.ensures.some (cc (c.is_none.ensures, e)) (c.next-2.ensures.kept _ _ c.loop-row.invariant)
