use Rattle.std.proofs.Common.{map, subst, sym, take, []}
use Rattle.asn_base.specs.Seen.{alternative_of}
use Rattle.names.specs.proving.Distinct.{item_at}
use Rattle.settled.specs.schema_of.SchemaOf.{AreAlternativesOf, no_alternative}
use Rattle.type_table.specs.Seen.{part_of}
use Rattle.extensions.proofs.Parts.{next_alternative, added_before}
use Rattle.extensions.proofs.members.alternatives.Goals as goal

pub loop-at-init : goal.loop-at-init
loop-at-init c =
    subst (λ xs. AreAlternativesOf [] (map alternative_of xs) (map alternative_of c.new-additions.result.items))
    (sym c.new-root.ensures.items)
    (subst (λ xs. AreAlternativesOf [] [] (map alternative_of xs)) (sym c.new-additions.ensures.items) no_alternative)

pub loop-at-preserved : goal.loop-at-preserved
loop-at-preserved c =
    let cs = map part_of c.args.parts.now in
    let part = part_of c.index-parts-at.result in
    let there = item_at part_of c.args.parts.now c.loop-at.at c.index-parts-at.result c.loop-at-test.true c.index-parts-at.is in
    next_alternative cs c.loop-at.at part (map alternative_of c.put.new.root.items) (map alternative_of c.put.new.additions.items)
    there
    (c.in_ok-put.ensures (take c.loop-at.at cs) c.loop-at.invariant (added_before cs c.loop-at.at part c.requires there))
