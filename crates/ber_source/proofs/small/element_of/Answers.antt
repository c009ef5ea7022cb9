use Rattle.std.proofs.Common.{sym, subst}
use Rattle.codec_source.specs.Small.{TakesElement}
use Rattle.octet_answers.specs.Answers.{Takes}
use Rattle.ber_source.specs.Seen.{state_of}
use Rattle.ber_source.proofs.Shorts.{element_taken}
use Rattle.ber_source.proofs.small.element_of.Goals as goal

pub returns-in-Ok-clause-taken : goal.returns-in-Ok-clause-taken
returns-in-Ok-clause-taken g c =
    let a = state_of g.T.TokenSink.tokens c.args.place.now in
    λ yes. subst (λ q. TakesElement Takes c.args.id c.args.sorted c.args.head c.args.kind a q) (sym c.in-Ok.ensures.ok) (element_taken c.lemma_one_answer.ensures.takes a c.args.head c.args.kind c.in-Some.short c.args.id c.args.sorted c.in-Some.ensures)
