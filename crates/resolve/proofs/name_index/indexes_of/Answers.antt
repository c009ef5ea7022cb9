use Rattle.std.proofs.Common.{◌≡◌, ◌+◌, ◌<◌, length, Some, refl, sym, subst, ap, ◌∙◌, arith}
use Rattle.std.specs.Prelude.{slice_get}
use Rattle.std.proofs.lemmas.List.{length-append}
use Rattle.std.proofs.lemmas.Option.{slice_get_read}
use Rattle.resolve.specs.proving.Ordered.{AreIndexes}
use Rattle.resolve.proofs.Orders.{index_more, no_indexes}
use Rattle.resolve.proofs.name_index.indexes_of.Goals as goal

pub loop-written-init : goal.loop-written-init
loop-written-init c = (ap length c.new-all.ensures.items, no_indexes c.args.types.now _ c.new-all.ensures.items)

pub loop-written-preserved : goal.loop-written-preserved
loop-written-preserved c =
    let ts = c.args.types.now in
    let old = c.loop-written.all.items in
    let e = c.in_ok-push.ensures.items in
    let inside : c.loop-written.written-index < length ts = omega (arith, c.loop-written-test.true, c.loop-written.auto.written-index-end) in
    let here = slice_get_read ts _ c.loop-written.written-index c.written-item.result refl inside c.written-item.is in
    let at : slice_get ts (length old) ≡ Some c.written-item.result = ap (slice_get ts) c.loop-written.invariant.0 ∙ here in
    let more = index_more ts old c.written-item.result c.in_ok-index.index at c.in_ok-index.ensures c.loop-written.invariant.1 in (
      ap length e ∙ length-append old _ ∙ ap (λ n. n + 1) c.loop-written.invariant.0,
      subst (AreIndexes ts) (sym e) more,
    )
