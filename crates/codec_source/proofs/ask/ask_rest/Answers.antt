use Rattle.codec_source.specs.Reading.{rest}
use Rattle.codec_source.proofs.Asking.{no_rest}
use Rattle.codec_source.proofs.ask.ask_rest.Goals as goal

pub returns-in-Ok-clause-ok : goal.returns-in-Ok-clause-ok
returns-in-Ok-clause-ok g c = rest c.in-Ok.ensures.ok

pub returns-in-Err-clause-err : goal.returns-in-Err-clause-err
returns-in-Err-clause-err g c = λ other. no_rest g.S.Source.takes c.args.rest.now c.args.source.now (c.in-Err.ensures.err other)
