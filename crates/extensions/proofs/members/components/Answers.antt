use Rattle.std.proofs.Common.{arith, map, option_map, length, subst, sym, refl, []}
use Rattle.std.proofs.lemmas.List.{length-map}
use Rattle.extensions.specs.proving.Tables.{shared_seen}
use Rattle.names.specs.proving.Distinct.{item_at}
use Rattle.asn_base.specs.Seen.{component_of}
use Rattle.settled.specs.schema_of.SchemaOf.{AreComponentsOf, no_component}
use Rattle.type_table.specs.Seen.{part_of}
use Rattle.extensions.proofs.Numbers.{pushed}
use Rattle.extensions.proofs.Parts.{given_at, next_component, all_taken}
use Rattle.extensions.proofs.members.components.Goals as goal

pub component-requires-clause-given : goal.component-requires-clause-given
component-requires-clause-given c =
    let cs = map part_of c.args.parts.now in
    let vs = map (option_map shared_seen) c.args.defaults.now in
    let g = c.requires.given in
    let m = g.2.as_many in
    let a = length-map c.args.parts.now part_of in
    let b = length-map c.args.defaults.now (option_map shared_seen) in
    given_at g.0 g.1 cs vs c.loop-at.at (part_of c.index-parts-at.result) (option_map shared_seen c.index-defaults-at.result) g.2
    (item_at part_of c.args.parts.now c.loop-at.at c.index-parts-at.result c.loop-at-test.true c.index-parts-at.is)
    (item_at (option_map shared_seen) c.args.defaults.now c.loop-at.at c.index-defaults-at.result (omega (arith, m, a, b, c.loop-at-test.true)) c.index-defaults-at.is)

pub component-requires-clause-plain : goal.component-requires-clause-plain
component-requires-clause-plain c =
    c.requires.plain c.loop-at.at (part_of c.index-parts-at.result)
    (item_at part_of c.args.parts.now c.loop-at.at c.index-parts-at.result c.loop-at-test.true c.index-parts-at.is)

pub loop-at-init : goal.loop-at-init
loop-at-init c p M d =
    subst (λ xs. AreComponentsOf p M [] (map component_of xs)) (sym c.new-all.ensures.items) no_component

pub loop-at-preserved : goal.loop-at-preserved
loop-at-preserved c p M d =
    let cs = map part_of c.args.parts.now in
    let vs = map (option_map shared_seen) c.args.defaults.now in
    let m = d.as_many in
    let a = length-map c.args.parts.now part_of in
    let b = length-map c.args.defaults.now (option_map shared_seen) in
    let there = item_at part_of c.args.parts.now c.loop-at.at c.index-parts-at.result c.loop-at-test.true c.index-parts-at.is in
    let value = item_at (option_map shared_seen) c.args.defaults.now c.loop-at.at c.index-defaults-at.result (omega (arith, m, a, b, c.loop-at-test.true)) c.index-defaults-at.is in
    let is = d.each c.loop-at.at (part_of c.index-parts-at.result) (option_map shared_seen c.index-defaults-at.result) there value in
    next_component p M cs c.loop-at.at (part_of c.index-parts-at.result) (map component_of c.loop-at.all.items)
    (map component_of c.push.new.self.items) (component_of c.in-Ok.one) there
    (pushed component_of c.loop-at.all.items c.push.new.self.items c.in-Ok.one (map component_of c.loop-at.all.items) (component_of c.in-Ok.one) c.in-Ok-push.ensures.items refl refl)
    (c.loop-at.invariant p M d)
    (c.in-Ok.ensures p M is)

pub returns : goal.returns
returns c p M d =
    let a = length-map c.args.parts.now part_of in
    subst (λ xs. AreComponentsOf p M xs (map component_of c.loop-at.all.items))
    (all_taken (map part_of c.args.parts.now) c.loop-at.at (omega (arith, a, c.loop-at-test.false)))
    (c.loop-at.invariant p M d)
