use Rattle.named_values.proofs.Once.{place_in_text}
use Rattle.named_values.proofs.meaning.placed.Goals as goal

pub returns-in-Ok-true : goal.returns-in-Ok-true
returns-in-Ok-true c = λ first w n.
    (let is = c.in-Ok-true.field-0-test in
    place_in_text c.args.typed.modules.now first c.args.typed.text.now c.args.typed.within.now c.args.diagnostic (c.in-Ok-true.ensures.within cc) (c.in-Ok-true.ensures.at cc) w n)
