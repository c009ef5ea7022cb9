use Rattle.std.proofs.Common.{◌<◌, ◌-◌, length, get_or, arith}
use Rattle.std.proofs.lemmas.Option.{slice_get-get_or}
use Rattle.type_table.specs.Seen.{kind_of}
use Rattle.resolve.specs.Listed.{listed_names}
use Rattle.resolve.proofs.Orders.{rises_more}
use Rattle.resolve.proofs.name_index.rises.Goals as goal

pub loop-k-preserved : goal.loop-k-preserved
loop-k-preserved c =
    let order = c.args.order.now in
    let k = c.loop-k.k in
    let inside : k < length order = omega (arith, c.loop-k-test.true, c.loop-k.auto.k-end) in
    let before : k - 1 < length order = omega (arith, inside) in (
      omega arith,
      rises_more (listed_names (kind_of c.args.shape.now)) order k (get_or order (k - 1) 0) (get_or order k 0)
          c.loop-k.invariant.0 (slice_get-get_or order (k - 1) 0 before) (slice_get-get_or order k 0 inside) c.loop-k.invariant.1
          (c.comes_before.ensures c.if-not-comes_before.false),
    )
