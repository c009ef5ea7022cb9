use Rattle.std.proofs.Common.{subst, sym}
use Rattle.ber_source.specs.ViewSink.{GiveTree, IsBuiltOf}
use Rattle.ber_reader.proofs.view.finished.Goals as goal

pub finish-requires : goal.finish-requires
finish-requires c =
    let s = c.args.viewer.schema in
    (s, c.into_sink.ensures.suits, subst (GiveTree s) (sym c.into_sink.ensures.tokens) c.requires)

pub returns-in-Ok-clause-ok : goal.returns-in-Ok-clause-ok
returns-in-Ok-clause-ok c =
    let s = c.args.viewer.schema in
    subst (λ q. IsBuiltOf s q c.in-Ok.built) c.into_sink.ensures.tokens (c.in-Ok.ensures s c.into_sink.ensures.suits)
