use Rattle.std.proofs.Common.{◌∷◌, sym, subst}
use Rattle.std.specs.Prelude.{Some}
use Rattle.codec_code.specs.declared.step.Step.TheVariants.{Pick}
use Rattle.codec_source.specs.Events.{picks, which_picked}
use Rattle.codec_source.specs.Reading.{Asks, pick}
use Rattle.codec_source.proofs.Asking.{no_pick}
use Rattle.codec_source.proofs.ask.ask_pick.Goals as goal

pub returns-in-Ok-clause-ok : goal.returns-in-Ok-clause-ok
returns-in-Ok-clause-ok g c =
    subst (λ q. Asks g.S.Source.takes (Pick c.args.count ∷ c.args.rest.now) c.args.source.now q (Some c.in-Ok.id) c.alternative.new.self) (sym c.later_steps.ensures)
    (pick (subst (λ q. g.S.Source.takes c.args.source.now (picks q c.in-Ok.id) c.alternative.new.self) c.first_steps-calls.ensures c.in-Ok.ensures.ok))

pub returns-in-Err-clause-err : goal.returns-in-Err-clause-err
returns-in-Err-clause-err g c = λ other.
    no_pick g.S.Source.takes c.args.count c.args.rest.now c.args.source.now
    (λ t y a. c.in-Err.ensures.err other t y (subst (λ q. g.S.Source.takes c.args.source.now (picks q t) y) (sym c.first_steps-calls.ensures) a))

pub returns-in-Err-clause-left : goal.returns-in-Err-clause-left
returns-in-Err-clause-left g c = λ other. subst (λ q. g.S.Source.refuses c.args.source.now (which_picked q) c.alternative.new.self c.in-Err.fault) c.first_steps-calls.ensures (c.in-Err.ensures.left other)
