use Rattle.std.proofs.Common.{sym, ◌∙◌}
use Rattle.ber_source.proofs.Windows.{false_true}
use Rattle.ber_source.proofs.view_sink.ViewSinkTokenSink.hold.Goals as goal

pub returns-in-Err-clause-suits : goal.returns-in-Err-clause-suits
returns-in-Err-clause-suits c s t = record { code = c.add_held.ensures.code ∙ t.code; builds = λ e. false_true (sym e); counts = λ e. false_true (sym e); judges = λ e. false_true (sym e) }
