use Rattle.std.proofs.Common.{◌≡◌, ◌-◌, ◌++◌, arith, ap, sym, ◌∙◌, true, false}
use Rattle.std.proofs.lemmas.List.{append-nil}
use Rattle.ranges.specs.Codes.{codes_from}
use Rattle.ranges.proofs.Bits.{list_step, of_is, from_none}
use Rattle.ranges.proofs.codes.list_set.Goals as goal
use Rattle.ranges.proofs.codes.list_set.Goals.{then-is_set+in_ok-push, else-is_set}

pub loop-code-init : goal.loop-code-init
loop-code-init c = rw c.new-all.ensures.items (sym (of_is c.args.bits))

pub loop-code-preserved : goal.loop-code-preserved
loop-code-preserved c =
    let i = c.loop-code.code in
    let all = c.loop-code.all.items in
    let set = rw c.from.ensures at c.is_set.ensures in
    elim c.if-is_set.branch [
      | then-is_set+in_ok-push w ↦
          rw (w.all-is, w.in_ok-push.ensures.items)
          (list_step c.args.bits i all true c.loop-code-test.true (sym w.if-is_set.true ∙ set) c.loop-code.invariant)
      | else-is_set w ↦
          rw w.all-is
          (list_step c.args.bits i all false c.loop-code-test.true (sym w.if-is_set.false ∙ set) c.loop-code.invariant)
    ]

pub returns : goal.returns
returns c =
    let e : 128 - c.loop-code.code ≡ 0 = (let a = c.loop-code-test.false in omega arith) in
    let all = c.loop-code.all.items in
    sym (append-nil all)
    ∙ ap (λ cs. all ++ cs) (sym (from_none c.args.bits))
    ∙ ap (λ n. all ++ codes_from n c.args.bits) (sym e)
    ∙ c.loop-code.invariant
