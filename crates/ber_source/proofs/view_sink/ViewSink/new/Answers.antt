use Rattle.std.proofs.Common.{refl, rules, subst, sym}
use Rattle.views.specs.Building.{begun}
use Rattle.ber_source.specs.Fits.{IsJudge}
use Rattle.ber_source.specs.Wants.{Wants}
use Rattle.ber_source.proofs.Faithful.{faithful_first}
use Rattle.ber_source.proofs.view_sink.ViewSink.new.Goals as goal

pub returns-clause-suits : goal.returns-clause-suits
returns-clause-suits c = record {
  code = refl;
  builds = λ e. faithful_first c.args.code.now _ _ c.empty.ensures (λ m w ts q. record {
    building = begun;
    holds = c.nothing.ensures.holds;
    wants = subst (λ n. Wants c.args.code.now m w ts n c.nothing.result.held begun) (sym c.nothing.ensures.number) (subst (λ h. Wants c.args.code.now m w ts 0 h begun) (sym c.nothing.ensures.held) q);
  });
  counts = λ e. search rules;
  judges = λ e. subst (λ q. IsJudge c.args.code.now c.at_first.result q) (sym c.empty.ensures) (c.at_first.ensures c.args.code.now);
}
