use Rattle.std.proofs.Common.{ℕ, List, inr, length, subst, arith}
use Rattle.type_table.specs.Seen.{kind_of}
use Rattle.resolve.specs.Listed.{listed_names}
use Rattle.resolve.specs.proving.Ordered.{RisesTo}
use Rattle.resolve.proofs.Orders.{moved_inside, moved_whole}
use Rattle.resolve.proofs.name_index.order_of.Goals as goal

pub returns-then-rises : goal.returns-then-rises
returns-then-rises c =
    let n = c.count_of-count.result in
    let long = c.count_of-count.ensures in
    let xs = c.in_ok-order.order.items in
    let ys = c.sort_by_key.new.self.items in
    let before = c.in_ok-order.ensures.long in
    let each = c.in_ok-order.ensures.each in
    let moved = c.sort_by_key.ensures.permutation in
    inr (record {
      inside = λ k p e. (let l = moved_inside n xs ys before each moved k p e in omega (arith, l, long));
      whole = λ p l. moved_whole n xs ys before each moved p (omega (arith, l, long));
      rises = subst (λ (l : List ℕ). RisesTo (listed_names (kind_of c.args.shape.now)) l (length l)) c.deref.ensures.value
          (c.rises.ensures c.if-rises.true);
    })
