use Rattle.std.proofs.Common.{◌<◌, ◌+◌, ◌-◌, ◌/◌, length, get_or, sym, ◌∙◌, arith}
use Rattle.std.proofs.lemmas.Option.{slice_get-get_or}
use Rattle.type_table.specs.Seen.{kind_of}
use Rattle.resolve.specs.Listed.{listed_names}
use Rattle.resolve.proofs.Orders.{between_lower, between_upper, nowhere, only_place}
use Rattle.resolve.proofs.named_shape.place_in_order.Goals as goal

pub loop-low-preserved-in-Less : goal.loop-low-preserved-in-Less
loop-low-preserved-in-Less c =
    let order = c.args.order.now in
    let low = c.loop-low.low in
    let high = c.loop-low.high in
    let m = low + (high - low) / 2 in
    let inside : m < length order = omega (arith, c.loop-low-test.true, c.loop-low.invariant.most) in
    between_upper (listed_names (kind_of c.args.shape.now)) order c.args.name.now c.requires low high m (get_or order m 0)
    c.in-Some.other.now c.loop-low.invariant (slice_get-get_or order m 0 inside) (sym c.in-Some.ensures)
    (sym c.cmp.ensures ∙ c.in-Less.is)

pub loop-low-preserved : goal.loop-low-preserved
loop-low-preserved c =
    let order = c.args.order.now in
    let low = c.loop-low.low in
    let high = c.loop-low.high in
    let m = low + (high - low) / 2 in
    let inside : m < length order = omega (arith, c.loop-low-test.true, c.loop-low.invariant.most) in
    between_lower (listed_names (kind_of c.args.shape.now)) order c.args.name.now c.requires low high m (get_or order m 0)
    c.in-Some.other.now c.loop-low.invariant (slice_get-get_or order m 0 inside) (sym c.in-Some.ensures)
    (sym c.cmp.ensures ∙ c.in-Greater.is)

pub returns-in-Equal : goal.returns-in-Equal
returns-in-Equal c =
    let order = c.args.order.now in
    let low = c.loop-low.low in
    let high = c.loop-low.high in
    let m = low + (high - low) / 2 in
    let inside : m < length order = omega (arith, c.loop-low-test.true, c.loop-low.invariant.most) in
    only_place (listed_names (kind_of c.args.shape.now)) order c.args.name.now c.requires m (get_or order m 0)
    c.in-Some.other.now (slice_get-get_or order m 0 inside) (sym c.in-Some.ensures) (sym c.cmp.ensures ∙ c.in-Equal.is)

pub returns : goal.returns
returns c =
    nowhere (listed_names (kind_of c.args.shape.now)) c.args.order.now c.args.name.now c.requires c.loop-low.low
    c.loop-low.high c.loop-low.invariant (omega (arith, c.loop-low-test.false))
