use Rattle.std.proofs.Common.{sym, subst, ◌∷◌, false}
use Rattle.codec_source.specs.Events.{more}
use Rattle.std.specs.Prelude.{Some}
use Rattle.codec_code.specs.declared.step.Step.TheVariants.{Each}
use Rattle.codec_source.specs.Reading.{Asks, element, no_element}
use Rattle.codec_source.proofs.Asking.{no_each}
use Rattle.codec_source.proofs.ask.ask_each.Goals as goal

pub returns-in-Ok-true-clause-ok : goal.returns-in-Ok-true-clause-ok
returns-in-Ok-true-clause-ok g c = subst (λ q. Asks g.S.Source.takes (Each c.args.id ∷ c.args.rest.now) c.args.source.now q (Some c.args.id) c.has_element.new.self) (sym c.requires) (element (subst (λ q. g.S.Source.takes c.args.source.now (more c.args.id false q) c.has_element.new.self) c.in-Ok-true.field-0-test c.in-Ok-true.ensures.ok))

pub returns-in-Ok-false-clause-ok : goal.returns-in-Ok-false-clause-ok
returns-in-Ok-false-clause-ok g c = no_element (subst (λ q. g.S.Source.takes c.args.source.now (more c.args.id false q) c.has_element.new.self) c.in-Ok-false.field-0-test c.in-Ok-false.ensures.ok)

pub returns-in-Err-clause-err : goal.returns-in-Err-clause-err
returns-in-Err-clause-err g c = λ other. no_each g.S.Source.takes c.args.id c.args.rest.now c.args.source.now (c.in-Err.ensures.err other)
