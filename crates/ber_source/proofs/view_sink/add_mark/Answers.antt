use Rattle.std.proofs.Common.{refl, ap, ◌∙◌, [], ◌∷◌, ◌++◌}
use Rattle.ber_source.specs.Seen.{as_token}
use Rattle.ber_source.specs.Log.{logged}
use Rattle.ber_source.proofs.Faithful.{counted_more, faithful_more}
use Rattle.ber_source.proofs.Fitting.{judged_more}
use Rattle.ber_source.proofs.view_sink.add_mark.Goals as goal

pub returns-clause-suits : goal.returns-clause-suits
returns-clause-suits c s t =
    let p = c.args.view_sink.now in
    let logs = c.add.ensures ∙ ap (λ q. logged p.log ++ q ∷ []) c.marked.ensures in
    record {
      code = t.code;
      builds = λ e. faithful_more s p.code.now (logged p.log) _ (as_token c.args.mark) p.build _ t.code logs c.in_ok-take.ensures (t.builds e);
      counts = λ e. counted_more _ _ _ (logged p.log) _ (as_token c.args.mark) refl c.in_ok-count.ensures logs (t.counts e);
      judges = λ e. judged_more s p.code.now p.judge _ (logged p.log) _ (as_token c.args.mark) t.code logs c.follow.ensures (t.judges e);
    }
