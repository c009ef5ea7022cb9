use Rattle.std.proofs.Common.{◌≡◌, subst, sym, ◌∙◌}
use Rattle.views.specs.Seen.{HasBuilt}
use Rattle.views.specs.Tree.{value_of, IsBorrowed}
use Rattle.ber_source.specs.Log.{logged}
use Rattle.ber_source.specs.Shown.{leaves_of, AreShown}
use Rattle.ber_source.proofs.Faithful.{all_emitted}
use Rattle.ber_source.proofs.view_sink.ViewSink.finish.Goals as goal

pub finish-requires : goal.finish-requires
finish-requires c =
    let s = c.requires.0 in
    let t = c.requires.1 in
    let g = c.requires.2 in
    let a = all_emitted s (logged c.args.self.log) c.args.self.build g.reading g.value (t.builds c.if-self.false) g.wants in
    (a.wants.tree, subst (HasBuilt c.args.self.build.builder) a.wants.whole a.holds)

pub returns : goal.returns
returns c s t = record {
  view = λ m w q.
      (let a = all_emitted s (logged c.args.self.log) c.args.self.build m w (t.builds c.if-self.false) q in
      let b = a.wants in
      let e = sym (c.finish.ensures b.tree (subst (HasBuilt c.args.self.build.builder) b.whole a.holds)) in (
        subst (λ u. value_of u ≡ w) e b.shows,
        subst (λ u. IsBorrowed m.message u) e b.borrowed,
        subst (λ u. AreShown m.tokens (leaves_of u)) e b.shown,
      ));
  counts = c.as_many-skipped.ensures ∙ t.counts c.if-self.false;
  fit = (t.judges c.if-self.false).fit;
}
