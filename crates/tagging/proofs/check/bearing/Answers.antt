use Rattle.std.proofs.Common.{sym, ◌∙◌, arith}
use Rattle.std.specs.Prelude.{map}
use Rattle.type_table.specs.Seen.{part_of}
use Rattle.tagging.proofs.Tables.{part_at, parts_long}
use Rattle.tagging.proofs.Taggings.{bears_here, none_next, none_bear}
use Rattle.tagging.proofs.check.bearing.Goals as goal

pub loop-place-init : goal.loop-place-init
loop-place-init c = λ r. omega arith

pub returns-then-bears-clause-found : goal.returns-then-bears-clause-found
returns-then-bears-clause-found c =
    let e = part_at c.args.components.now c.loop-place.place c.index-components-place.result c.loop-place-test.true c.index-components-place.is in
    bears_here c.args.columns.now.program.types (map part_of c.args.components.now) c.args.additions c.loop-place.place _ e (c.bears.ensures.0 c.if-bears.true)

pub loop-place-preserved : goal.loop-place-preserved
loop-place-preserved c =
    let e = part_at c.args.components.now c.loop-place.place c.index-components-place.result c.loop-place-test.true c.index-components-place.is in
    none_next c.args.columns.now.program.types (map part_of c.args.components.now) c.args.additions c.loop-place.place _ e (λ h. let x = sym c.if-bears.false ∙ c.bears.ensures.1 h in absurd cc) c.loop-place.invariant

pub returns-clause-found : goal.returns-clause-found
returns-clause-found c = none_bear c.args.columns.now.program.types (map part_of c.args.components.now) c.args.additions c.loop-place.place (omega (arith, c.loop-place-test.false, parts_long c.args.components.now)) c.loop-place.invariant
