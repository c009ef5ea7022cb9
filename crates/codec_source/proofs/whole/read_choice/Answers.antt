use Rattle.std.proofs.Common.{arith, ◌≤◌, ◌∷◌, length, ap, sym, ◌∙◌}
use Rattle.codec_code.specs.Routines.{routine_at}
use Rattle.codec_source.proofs.Smalls.{choice_read}
use Rattle.codec_source.proofs.whole.read_choice.Goals as goal

pub returns-else-count-calls-clause-taken : goal.returns-else-count-calls-clause-taken
returns-else-count-calls-clause-taken g c =
    let e = sym c.steps.ensures ∙ c.in-Some-Pick-default.ensures.cases.0 ∙ ap (λ q. q ∷ c.in-Some-Pick-default.calls.now) c.in-Some-Pick-default.field-0-0-is in
    let few : length c.in-Some-Pick-default.calls.now ≤ c.in-Some-Pick-default.count = omega (arith, c.if-count-calls.false) in
    choice_read (routine_at c.args.code.now) g.S.Source.takes c.args.id c.in-Some-Pick-default.count c.in-Some-Pick-default.calls.now c.args.source.now c.small_choice.new.self c.small_choice.result e few c.small_choice.ensures.taken
