use Rattle.std.proofs.Common.{arith, ◌≡◌, ◌+◌, refl, length}
use Rattle.ber_source.specs.Seen.{value_token}
use Rattle.ber_source.specs.Log.{logged}
use Rattle.ber_source.proofs.Faithful.{counted_more, faithful_more}
use Rattle.ber_source.proofs.Fitting.{judged_more}
use Rattle.ber_source.proofs.view_sink.add_held.Goals as goal

pub returns-clause-suits : goal.returns-clause-suits
returns-clause-suits c s t =
    let p = c.args.view_sink.now in
    let none : length p.skipped.items ≡ length p.skipped.items + 0 = omega arith in
    record {
      code = t.code;
      builds = λ e. faithful_more s p.code.now (logged p.log) _ (value_token c.args.held) p.build _ t.code c.add.ensures c.in_ok-hold.ensures (t.builds e);
      counts = λ e. counted_more _ _ 0 (logged p.log) _ (value_token c.args.held) refl none c.add.ensures (t.counts e);
      judges = λ e. judged_more s p.code.now p.judge _ (logged p.log) _ (value_token c.args.held) t.code c.add.ensures c.follow_held.ensures (t.judges e);
    }
