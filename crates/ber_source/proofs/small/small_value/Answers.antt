use Rattle.std.proofs.Common.{sym, subst}
use Rattle.codec_source.specs.Small.{TakesValue}
use Rattle.octet_answers.specs.Answers.{Takes}
use Rattle.ber_source.specs.Seen.{state_of}
use Rattle.ber_source.proofs.Shorts.{value_taken}
use Rattle.ber_source.proofs.small.small_value.Goals as goal

pub returns-in-Ok-clause-taken : goal.returns-in-Ok-clause-taken
returns-in-Ok-clause-taken g c =
    let a = state_of g.T.TokenSink.tokens c.args.place.now in
    λ yes. subst (λ q. TakesValue Takes c.args.id c.args.head c.args.kind a q) (sym c.in-Ok.ensures.ok) (value_taken c.lemma_one_answer.ensures.takes a c.args.head c.args.kind c.in-Some.short c.args.id c.in-Some.ensures)
