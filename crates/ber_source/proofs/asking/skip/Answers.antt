use Rattle.std.proofs.Common.{sym, ◌∙◌}
use Rattle.octet_answers.specs.Unanswered.{nothing_to_skip_in}
use Rattle.ber_source.specs.Seen.{state_of}
use Rattle.ber_source.proofs.Skipping.{skip_steps, left_by_skip, left_out_of_order}
use Rattle.ber_source.proofs.asking.skip.Goals as goal

pub returns-in-None-clause-left : goal.returns-in-None-clause-left
returns-in-None-clause-left g c = λ other. nothing_to_skip_in (sym c.as_slice.ensures.value ∙ c.in-None.ensures.none)

pub returns-in-Err-clause-left : goal.returns-in-Err-clause-left
returns-in-Err-clause-left g c = λ other.
    let a = state_of g.T.TokenSink.tokens c.args.place.now in
    left_by_skip a (state_of g.T.TokenSink.tokens c.pass.new.place) c.last_steps-steps.result.now c.in-Some.id c.in-Err.fault (c.in-Some.ensures.some.0, sym c.as_slice.ensures.value ∙ c.in-Some.ensures.some.1)
    (skip_steps a c.last_steps-steps.result.now c.steps.result.now c.in-Some.id c.last_steps-steps.ensures c.steps.ensures) (c.in-Err.ensures.left other)

pub returns-in-Ok-Some-clause-left : goal.returns-in-Ok-Some-clause-left
returns-in-Ok-Some-clause-left g c = λ other.
    let a = state_of g.T.TokenSink.tokens c.args.place.now in
    left_out_of_order a (state_of g.T.TokenSink.tokens c.pass.new.place) c.last_steps-steps.result.now c.in-Some.id c.in-Ok-Some.field-0 _ (c.in-Some.ensures.some.0, sym c.as_slice.ensures.value ∙ c.in-Some.ensures.some.1)
    (skip_steps a c.last_steps-steps.result.now c.steps.result.now c.in-Some.id c.last_steps-steps.ensures c.steps.ensures) c.in-Ok-Some.field-0-is c.in-Ok-Some.ensures.ok
