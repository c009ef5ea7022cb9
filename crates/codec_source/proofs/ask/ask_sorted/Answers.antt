use Rattle.std.proofs.Common.{sym, subst, ◌∷◌, true}
use Rattle.codec_source.specs.Events.{more}
use Rattle.std.specs.Prelude.{Some}
use Rattle.codec_code.specs.declared.step.Step.TheVariants.{EachSorted}
use Rattle.codec_source.specs.Reading.{Asks, sorted_element, no_sorted_element}
use Rattle.codec_source.proofs.Asking.{no_sorted}
use Rattle.codec_source.proofs.ask.ask_sorted.Goals as goal

pub returns-in-Ok-true-clause-ok : goal.returns-in-Ok-true-clause-ok
returns-in-Ok-true-clause-ok g c = subst (λ q. Asks g.S.Source.takes (EachSorted c.args.id ∷ c.args.rest.now) c.args.source.now q (Some c.args.id) c.has_element.new.self) (sym c.requires) (sorted_element (subst (λ q. g.S.Source.takes c.args.source.now (more c.args.id true q) c.has_element.new.self) c.in-Ok-true.field-0-test c.in-Ok-true.ensures.ok))

pub returns-in-Ok-false-clause-ok : goal.returns-in-Ok-false-clause-ok
returns-in-Ok-false-clause-ok g c = no_sorted_element (subst (λ q. g.S.Source.takes c.args.source.now (more c.args.id true q) c.has_element.new.self) c.in-Ok-false.field-0-test c.in-Ok-false.ensures.ok)

pub returns-in-Err-clause-err : goal.returns-in-Err-clause-err
returns-in-Err-clause-err g c = λ other. no_sorted g.S.Source.takes c.args.id c.args.rest.now c.args.source.now (c.in-Err.ensures.err other)
