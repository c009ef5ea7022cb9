use Rattle.std.proofs.Common.{subst}
use Rattle.codec_source.specs.Events.{comes}
use Rattle.codec_source.specs.Reading.{field, left_out}
use Rattle.codec_source.proofs.Asking.{no_field}
use Rattle.codec_source.proofs.ask.ask_field.Goals as goal

pub returns-in-Ok-true-clause-ok : goal.returns-in-Ok-true-clause-ok
returns-in-Ok-true-clause-ok g c = field (subst (λ q. g.S.Source.takes c.args.source.now (comes c.args.field q) c.has_component.new.self) c.in-Ok-true.field-0-test c.in-Ok-true.ensures.ok)

pub returns-in-Ok-false-clause-ok : goal.returns-in-Ok-false-clause-ok
returns-in-Ok-false-clause-ok g c = left_out (subst (λ q. g.S.Source.takes c.args.source.now (comes c.args.field q) c.has_component.new.self) c.in-Ok-false.field-0-test c.in-Ok-false.ensures.ok)

pub returns-in-Err-clause-err : goal.returns-in-Err-clause-err
returns-in-Err-clause-err g c = λ other. no_field g.S.Source.takes c.args.field c.args.rest.now c.args.source.now (c.in-Err.ensures.err other)
