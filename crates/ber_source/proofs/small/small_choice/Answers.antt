use Rattle.std.proofs.Common.{arith, ◌<◌, length}
use Rattle.codec_code.specs.Routines.{routine_at}
use Rattle.ber_source.specs.Seen.{state_of}
use Rattle.ber_source.proofs.Shorts.{choice_taken}
use Rattle.ber_source.proofs.small.small_choice.Goals as goal

pub returns-in-Ok-clause-taken : goal.returns-in-Ok-clause-taken
returns-in-Ok-clause-taken g c =
    let a = state_of g.T.TokenSink.tokens c.args.place.now in
    let b = state_of g.T.TokenSink.tokens c.pass_choice.new.place in
    let many : 1 < a.budget = (let t = c.if-place-lt2.false in omega (arith, t)) in
    let deep : length a.values < 63 = (let t = c.len.ensures in let u = c.if-len.false in omega (arith, t, u)) in
    λ yes. choice_taken c.lemma_one_answer.ensures.takes (routine_at c.args.code.now) a b c.args.id c.args.calls.now c.in-Some.alternative c.in-Some-short_next.short c.in-Some.ensures.routine many deep c.in-Some.ensures.next c.in-Some-short_next.ensures c.in-Ok.ensures.ok
