use Rattle.std.proofs.Common.{◌++◌, ◌∷◌, ◌<◌, [], append-nil, ap, sym, ◌∙◌, subst, length, arith}
use Rattle.octet_account.specs.Seen.{flat_row}
use Rattle.account_text.specs.proving.Stack.{AgreesWithStack}
use Rattle.account_text.proofs.Leaving.{MayStand}
use Rattle.account_text.proofs.Standing.{entered, one_fewer}
use Rattle.account_text.proofs.stack.enter.Goals as goal
use Rattle.account_text.proofs.stack.enter.Goals.{else-is_left_out-via-then-is_left_out+else-top, else-is_left_out-via-else-is_left_out}

pub returns-in_ok-push-2-clause-taken : goal.returns-in_ok-push-2-clause-taken
returns-in_ok-push-2-clause-taken c = λ _ all rs h.
    let may : MayStand c.args.top.all_written (flat_row c.args.row.now.listed) = elim c.else-is_left_out.branch [
      | else-is_left_out-via-then-is_left_out+else-top w ↦ (λ out. w.if-top.false)
      | else-is_left_out-via-else-is_left_out w ↦ (λ out. absurd (cc (c.is_left_out.ensures, w.if-is_left_out.false)))
    ] in
    let room : length c.args.stack.now.items < 400 = omega (arith, c.as_slice.ensures.value) in
    let first = c.in_ok-push.ensures.items in
    let second = c.in_ok-push-2.ensures.items in
    let inside = c.in-Some.ensures in
    subst (λ gs. AgreesWithStack all gs rs)
    (cc (first, second, inside))
    (entered all c.args.stack.now.items rs c.args.top (flat_row c.args.row.now.listed) c.requires.some h c.requires.small room may)

pub returns-in_default-clause-taken : goal.returns-in_default-clause-taken
returns-in_default-clause-taken c = λ _ all rs h.
    let may : MayStand c.args.top.all_written (flat_row c.args.row.now.listed) = elim c.else-is_left_out.branch [
      | else-is_left_out-via-then-is_left_out+else-top w ↦ (λ out. w.if-top.false)
      | else-is_left_out-via-else-is_left_out w ↦ (λ out. absurd (cc (c.is_left_out.ensures, w.if-is_left_out.false)))
    ] in
    let room : length c.args.stack.now.items < 400 = omega (arith, c.as_slice.ensures.value) in
    let first = c.in_ok-push.ensures.items in
    let inside = c.in_default.ensures in
    subst (λ gs. AgreesWithStack all gs rs)
    (ap (λ xs. (c.args.stack.now.items ++ one_fewer c.args.top ∷ []) ++ xs) (sym inside)
    ∙ append-nil _ ∙ sym first)
    (entered all c.args.stack.now.items rs c.args.top (flat_row c.args.row.now.listed) c.requires.some h c.requires.small room may)
