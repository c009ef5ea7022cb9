use Rattle.std.proofs.Common.{sym, ◌∙◌}
use Rattle.tagging.proofs.Clashes.{meets_next, meets_none}
use Rattle.tagging.proofs.lists.seen_after.Goals as goal

pub returns-then-passes : goal.returns-then-passes
returns-then-passes c = λ cs vs q d e f. meets_next c.args.kind cs vs q _ c.args.tags.now c.args.seen.keys c.put_all.new.seen.keys d e (c.passes.ensures.0 c.if-passes.true) f c.in_ok-put_all.ensures

pub returns : goal.returns
returns c = λ cs vs q d e f. meets_none c.args.kind cs vs q _ c.new.result.keys d (λ h. let x = sym c.if-passes.false ∙ c.passes.ensures.1 h in absurd cc) c.new.ensures.empty
