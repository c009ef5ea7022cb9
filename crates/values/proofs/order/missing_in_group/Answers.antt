use Rattle.std.proofs.Common.{map, arith}
use Rattle.std.proofs.lemmas.List.{length-map}
use Rattle.std.proofs.lemmas.Option.{slice_get-get_or}
use Rattle.names.specs.proving.Distinct.{item_at}
use Rattle.type_table.specs.Seen.{part_of}
use Rattle.values.proofs.Missings.{absent_here, due_next, due_all}
use Rattle.values.proofs.order.missing_in_group.Goals as goal

pub returns-then-is_lacking : goal.returns-then-is_lacking
returns-then-is_lacking c =
    let i = c.loop-i.i in
    let d = c.index-components-i.result in
    let here = item_at part_of c.args.components.now i d c.loop-i-test.true c.index-components-i.is in
    let l = c.loop-i-test.true in
    let r = c.requires in
    let q = c.is_lacking.ensures.0 c.if-is_lacking.true in (
      part_of d,
      absent_here (map part_of c.args.components.now) c.args.places.now i (part_of d) _ here
          (slice_get-get_or c.args.places.now i _ (omega (arith, l, r))) q.0,
      q.1,
      c.loop-i.invariant,
    )

pub loop-i-preserved : goal.loop-i-preserved
loop-i-preserved c =
    let i = c.loop-i.i in
    let d = c.index-components-i.result in
    let here = item_at part_of c.args.components.now i d c.loop-i-test.true c.index-components-i.is in
    let l = c.loop-i-test.true in
    let r = c.requires in
    due_next (map part_of c.args.components.now) c.args.places.now i (part_of d) _ here
    (slice_get-get_or c.args.places.now i _ (omega (arith, l, r)))
    (λ q. let n = c.if-is_lacking.false in let e = c.is_lacking.ensures.1 q in cc) c.loop-i.invariant

pub returns : goal.returns
returns c =
    let long = length-map c.args.components.now part_of in
    due_all (map part_of c.args.components.now) c.args.places.now c.loop-i.i (omega (arith, long, c.loop-i-test.false)) c.loop-i.invariant
