use mir.Syntax.{w128}
use mir.Val.{SFits}
use Rattle.std.proofs.Common.{rules, map, take, drop, ◌∙◌, ap}
use Rattle.std.proofs.lemmas.Int.{to_z-of_z}
use Rattle.asn_base.specs.Seen.{item_of}
use Rattle.trees.specs.Types as trees
use Rattle.names.specs.proving.Distinct.{item_at}
use Rattle.extensions.specs.proving.Items.{with_numbers, item_with}
use Rattle.extensions.proofs.Numbers.{pushed, next_item, drop_get}
use Rattle.extensions.proofs.items.numbered.Goals as goal

pub loop-at-preserved : goal.loop-at-preserved
loop-at-preserved c =
    let w = c.index-written-at.result in
    let z = c.number_at.result in
    let fits : SFits w128 c.number_at.result = search rules in
    let is = map trees.item_of c.args.written.now in
    let zs = drop c.args.from c.args.numbers.now in
    pushed item_of c.loop-at.all.items c.push.new.self.items c.in_ok-one.one
    (with_numbers (take c.loop-at.at is) zs) (item_with (trees.item_of w).0 z)
    c.in_ok-push.ensures.items c.loop-at.invariant
    (c.in_ok-one.ensures ∙ ap (λ v. item_with (trees.item_of w).0 v) (to_z-of_z w128 z fits))
    ∙ next_item is zs c.loop-at.at (trees.item_of w) z
    (item_at trees.item_of c.args.written.now c.loop-at.at w c.loop-at-test.true c.index-written-at.is)
    (drop_get c.args.numbers.now c.args.from c.loop-at.at ∙ c.number_at.ensures)
