use Rattle.std.proofs.Common.{arith, ◌≡◌, ◌+◌, refl, length}
use Rattle.octet_answers.specs.States.{begun}
use Rattle.ber_source.specs.Log.{logged}
use Rattle.ber_source.proofs.Faithful.{counted_more, faithful_more}
use Rattle.ber_source.proofs.Fitting.{judged_more}
use Rattle.ber_source.proofs.view_sink.add_bare.Goals as goal

pub returns-clause-suits : goal.returns-clause-suits
returns-clause-suits c s t =
    let p = c.args.view_sink.now in
    let none : length p.skipped.items ≡ length p.skipped.items + 0 = omega arith in
    record {
      code = t.code;
      builds = λ e. faithful_more s p.code.now (logged p.log) _ (begun c.args.id) p.build _ t.code c.add.ensures c.begin_bare.ensures (t.builds e);
      counts = λ e. counted_more _ _ 0 (logged p.log) _ (begun c.args.id) refl none c.add.ensures (t.counts e);
      judges = λ e. judged_more s s p.judge _ (logged p.log) _ (begun c.args.id) refl c.add.ensures (c.follow_begin.ensures s) (t.judges e);
    }
