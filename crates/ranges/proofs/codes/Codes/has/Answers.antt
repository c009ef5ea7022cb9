use Rattle.std.proofs.Common.{◌∙◌, sym, arith}
use Rattle.ranges.proofs.Bits.{member_is, set_is, is_set}
use Rattle.ranges.proofs.codes.Codes.has.Goals as goal

pub returns-then-code-lt128 : goal.returns-then-code-lt128
returns-then-code-lt128 c =
    let m = member_is c.self.inside.bits c.args.code in
    rw (← c.self.view_is)
    (λ e. m.1 (c.if-code-lt128.true, set_is _ (sym c.is_set.ensures ∙ e)), λ k. c.is_set.ensures ∙ is_set _ (m.0 k).1)

pub returns : goal.returns
returns c =
    let m = member_is c.self.inside.bits c.args.code in
    rw (← c.self.view_is)
    (λ e. absurd (grind arith), λ k. absurd (let a = (m.0 k).0 in let b = c.if-code-lt128.false in omega arith))
