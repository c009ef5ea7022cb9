use Rattle.std.proofs.Common.{◌≡◌, ◌-◌, length, arith, ap, sym, ◌∙◌, true, false}
use Rattle.ranges.proofs.Bits.{count_step, of_is, from_none}
use Rattle.ranges.proofs.codes.count_set.Goals as goal
use Rattle.ranges.proofs.codes.count_set.Goals.{then-is_set, else-is_set}

pub loop-code-init : goal.loop-code-init
loop-code-init c = (let e = ap length (of_is c.args.bits) in omega arith, omega arith)

pub loop-code-preserved : goal.loop-code-preserved
loop-code-preserved c =
    let i = c.loop-code.code in
    let n = c.loop-code.count in
    elim c.if-is_set.branch [
      | then-is_set w ↦ (
        rw w.count-is (count_step c.args.bits i n true c.loop-code-test.true (sym w.if-is_set.true ∙ c.is_set.ensures) c.loop-code.invariant.0),
        let a = w.count-is in let b = c.loop-code.invariant.1 in omega arith,
      )
      | else-is_set w ↦ (
        rw w.count-is (count_step c.args.bits i n false c.loop-code-test.true (sym w.if-is_set.false ∙ c.is_set.ensures) c.loop-code.invariant.0),
        let a = w.count-is in let b = c.loop-code.invariant.1 in omega arith,
      )
    ]

pub returns : goal.returns
returns c =
    let none = ap length (from_none c.args.bits) in
    let e : 128 - c.loop-code.code ≡ 0 = (let a = c.loop-code-test.false in omega arith) in
    let inv = rw e at c.loop-code.invariant.0 in
    omega arith
