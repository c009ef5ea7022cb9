use Rattle.std.proofs.Common.{arith, ◌<◌, length}
use Rattle.codec_code.specs.Routines.{routine_at}
use Rattle.ber_source.specs.Seen.{state_of}
use Rattle.ber_source.proofs.Shorts.{choice_component_taken}
use Rattle.ber_source.proofs.small.choice_of.Goals as goal

pub returns-in-Ok-pass_choice-clause-taken : goal.returns-in-Ok-pass_choice-clause-taken
returns-in-Ok-pass_choice-clause-taken g c =
    let a = state_of g.T.TokenSink.tokens c.args.place.now in
    let b = state_of g.T.TokenSink.tokens c.emit.new.place in
    let z = state_of g.T.TokenSink.tokens c.pass_choice.new.place in
    let many : 1 < a.budget = (let t = c.if-place-le1.false in omega (arith, t)) in
    let deep : length a.values < 63 = (let t = c.len.ensures in let u = c.if-len-ge-MAX_OPEN.false in omega (arith, t, u)) in
    λ yes. choice_component_taken c.lemma_one_answer.ensures.takes (routine_at c.args.code.now) a b z c.args.field c.args.calls.now c.args.alternative c.in-Some.short c.requires.routine many deep c.requires.next (c.can_begin_by.ensures c.if-not-can_begin_by.false) c.in-Some.ensures c.in-Ok.ensures.ok c.in-Ok-pass_choice.ensures.ok
