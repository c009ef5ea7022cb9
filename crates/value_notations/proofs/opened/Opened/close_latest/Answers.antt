use Rattle.std.proofs.Common.{◌≡◌, ◌-◌, [], ◌∷◌, ap, sym, ◌∙◌, suc, length, arith}
use Rattle.std.specs.Prelude.{reverse}
use Rattle.value_notations.proofs.Opening.{none_closed, one_closed}
use Rattle.value_notations.proofs.opened.Opened.close_latest.Goals as goal

pub returns-then-count-eq0 : goal.returns-then-count-eq0
returns-then-count-eq0 c =
    let e : c.args.self.now ≡ [] =
    sym c.self.view_is ∙ none_closed c.self.inside.numbers.keys (sym c.len-count.ensures.len ∙ c.if-count-eq0.true) in
    (e, e)

pub returns-in-Some : goal.returns-in-Some
returns-in-Some c =
    let ns = c.self.inside.numbers.keys in
    let many = c.len-count.ensures.len in
    let some = c.if-count-eq0.false in
    let long : length ns ≡ suc (c.len-count.result - 1) = omega (arith, many, some) in
    sym c.self.view_is ∙ one_closed ns c.in-Some.number.now (c.len-count.result - 1) long (sym c.in-Some.ensures.key)
    ∙ ap (λ z. c.in-Some.number.now ∷ reverse z) (sym c.truncate.ensures.keys)
