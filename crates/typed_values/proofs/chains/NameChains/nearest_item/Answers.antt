use Rattle.std.proofs.Common.{◌≡◌, ◌∙◌, ap, subst, sym}
use Rattle.trees.specs.Types.{item_of}
use Rattle.typed_values.specs.proving.Stopping.{FindsNearest}
use Rattle.typed_values.proofs.Tables.{got_here}
use Rattle.typed_values.proofs.Nearest.{all_names, seen_more, seen_none}
use Rattle.typed_values.proofs.chains.NameChains.nearest_item.Goals as goal

pub loop-i-init : goal.loop-i-init
loop-i-init c = record {
  seen = seen_none (λ x. (item_of x).0) c.args.self.now c.args.chain c.args.best c.args.items.now;
}

pub loop-i-preserved : goal.loop-i-preserved
loop-i-preserved c =
    let x = c.index-items-i.result in
    record {
      seen = seen_more (λ x. (item_of x).0) c.args.self.now c.args.chain c.args.best c.args.items.now c.loop-i.i c.loop-i.best
          c.nearer-best.result x (got_here c.args.items.now c.loop-i.i x x c.loop-i-test.true c.index-items-i.is)
          c.loop-i.invariant.seen
          (subst (λ n. FindsNearest c.args.self.now c.args.chain c.loop-i.best (λ z. z ≡ n) c.nearer-best.result)
          (c.as_str.ensures.value ∙ ap (λ y. (item_of y).0) (sym c.index-items-i.is)) c.nearer-best.ensures);
    }

pub returns : goal.returns
returns c = all_names item_of c.args.self.now c.args.chain c.args.best c.args.items.now c.loop-i.i c.loop-i.best c.loop-i-test.false
    c.loop-i.invariant.seen
