use Rattle.std.proofs.Common.{sym, subst}
use Rattle.codec_code.specs.Routines.{routine_at}
use Rattle.ber_source.specs.Seen.{IsBare}
use Rattle.ber_source.proofs.view_sink.ViewSinkTokenSink.begin_bare.Goals as goal

pub add_bare-requires : goal.add_bare-requires
add_bare-requires c = subst (λ q. IsBare (routine_at q c.args.id.index)) (sym c.requires.suits.code) c.requires.bare
