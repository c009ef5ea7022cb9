use Rattle.codec_source.specs.Reading.{ending}
use Rattle.codec_source.proofs.Asking.{no_end}
use Rattle.codec_source.proofs.ask.ask_end.Goals as goal

pub returns-in-Ok-clause-ok : goal.returns-in-Ok-clause-ok
returns-in-Ok-clause-ok g c = ending c.in-Ok.ensures.ok

pub returns-in-Err-clause-err : goal.returns-in-Err-clause-err
returns-in-Err-clause-err g c = λ other. no_end g.S.Source.takes c.args.rest.now c.args.source.now (c.in-Err.ensures.err other)
