use Rattle.std.proofs.Common.{◌≡◌, arith, decimal, Ok, true, false, not, nat_eq, subst, sym, ◌∙◌, ap}
use Rattle.std.proofs.lemmas.Fmt.{parse-decimal}
use Rattle.std.proofs.lemmas.Cmp.{nat_list_eq_equiv}
use lib.Pointwise.{pointwise}
use Rattle.account_text.proofs.read.number_of.Goals as goal
use Rattle.account_text.proofs.read.number_of.Goals.{then-number-gt-MAX_MESSAGE-via-then-number-gt-MAX_MESSAGE, then-number-gt-MAX_MESSAGE-via-else-number-gt-MAX_MESSAGE+then-ne}

never : true ≡ false → ⊥
never e = absurd (cc)

pub returns-in_default : goal.returns-in_default
returns-in_default c = λ n small e.
    c.in_default.not-Ok n (parse-decimal 32 n c.args.text.now c.parse.result (omega arith) (omega arith) e c.parse.ensures.value.0)

pub returns-then-number-gt-MAX_MESSAGE : goal.returns-then-number-gt-MAX_MESSAGE
returns-then-number-gt-MAX_MESSAGE c = λ n small e.
    let read : c.parse.result ≡ Ok n = parse-decimal 32 n c.args.text.now c.parse.result (omega arith) (omega arith) e c.parse.ensures.value.0 in
    let same : c.in-Ok.number ≡ n = cc (read, c.in-Ok.is) in
    elim c.then-number-gt-MAX_MESSAGE.branch [
      | then-number-gt-MAX_MESSAGE-via-then-number-gt-MAX_MESSAGE w ↦ omega (arith, same, w.if-number-gt-MAX_MESSAGE.true)
      | then-number-gt-MAX_MESSAGE-via-else-number-gt-MAX_MESSAGE+then-ne w ↦
          (let text : w.format.result.now ≡ c.args.text.now = w.format.ensures.text ∙ ap decimal same ∙ sym e in
          let equal : pointwise nat_eq w.format.result.now c.args.text.now ≡ true = subst (λ y. pointwise nat_eq w.format.result.now y ≡ true) text (nat_list_eq_equiv.refl w.format.result.now) in
          never (sym w.if-ne.true ∙ w.ne.ensures ∙ ap not equal))
    ]
