use Rattle.std.proofs.Common.{◌∙◌, sym}
use Rattle.ber_reader.proofs.Followed.{never}
use Rattle.ber_reader.proofs.open_sink.OpenSinkTokenSink.hold.Goals as goal

pub returns-clause-suits : goal.returns-clause-suits
returns-clause-suits c s t = λ e. never e

pub returns-in-Ok-clause-suits : goal.returns-in-Ok-clause-suits
returns-in-Ok-clause-suits c s t = λ e. c.in-Ok.ensures.seen (t (sym c.in-Ok.ensures.failed ∙ e))
