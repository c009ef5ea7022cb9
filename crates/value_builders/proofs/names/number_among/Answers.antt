use Rattle.std.proofs.Common.{rules, arith, map, sym, ◌∙◌}
use Rattle.asn_base.specs.Seen.{item_of}
use Rattle.value_builders.proofs.Places.{number_at, number_past, no_number}
use Rattle.value_builders.proofs.names.number_among.Goals as goal
use Rattle.asn_base.specs.proving.Lists.{seen_here, length_mapped}

pub returns-then-is_item : goal.returns-then-is_item
returns-then-is_item c =
    let here = seen_here item_of c.args.items.now c.loop-item.item-index c.item-item.result (omega (arith, c.loop-item-test.true, c.loop-item.auto.item-index-end)) c.item-item.is in
    let e = number_at c.args.name.now (map item_of c.args.items.now) c.loop-item.item-index (item_of c.item-item.result) c.loop-item.invariant here (sym c.is_item.ensures ∙ c.if-is_item.true) in
    search rules

pub loop-item-preserved : goal.loop-item-preserved
loop-item-preserved c =
    let here = seen_here item_of c.args.items.now c.loop-item.item-index c.item-item.result (omega (arith, c.loop-item-test.true, c.loop-item.auto.item-index-end)) c.item-item.is in
    number_past c.args.name.now (map item_of c.args.items.now) c.loop-item.item-index (item_of c.item-item.result) c.loop-item.invariant here (sym c.is_item.ensures ∙ c.if-is_item.false)

pub returns : goal.returns
returns c =
    let long = length_mapped item_of c.args.items.now in
    let l = c.loop-item-test.false in let m = c.loop-item.auto.item-index-end in
    sym (no_number c.args.name.now (map item_of c.args.items.now) c.loop-item.item-index c.loop-item.invariant (omega (arith, long, l, m)))
