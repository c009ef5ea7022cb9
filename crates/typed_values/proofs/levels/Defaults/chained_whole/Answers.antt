use Rattle.std.proofs.Common.{sym, subst, ap, arith}
use Rattle.type_table.specs.Seen.{kind_of}
use Rattle.typed_values.specs.Known.{ComesTo}
use Rattle.resolve.specs.Program.{WrittenProgram}
use Rattle.typed_values.proofs.ChainedNames.{comes_by_way}
use Rattle.typed_values.proofs.Going.{kind_in}
use Rattle.typed_values.proofs.Readings.{of_kind}
use Rattle.typed_values.proofs.levels.Defaults.chained_whole.Goals as goal

pub entry-requires-clause-known : goal.entry-requires-clause-known
entry-requires-clause-known c = c.requires.known.named

pub returns-clause-comes : goal.returns-clause-comes
returns-clause-comes c =
    let chain = c.in-Some.chain in
    let e = c.in-Some-entry.entry in
    let x = c.in-Some-entry.ensures in
    let is = of_kind (kind_in (sym (ap (λ (w : WrittenProgram). w.program) c.linked.ensures)) c.written-shape.ensures.written) in
    let leads = c.leads_whole.ensures c.if-not-leads_whole.false in
    let early = c.if-entry-chain.false in
    subst (λ j. ComesTo c.args.bounded.now.program c.args.self.now.named.turns.items
    (record { number = j; ty = c.args.ty.index; levels = e.levels; nodes = e.nodes; latest = c.later.result }))
    c.in-Some.ensures.number
    (comes_by_way (kind_of c.written-shape.result.0) chain e c.args.ty.index c.later.result is leads x.comes x.number x.ty
    (omega (arith, early)) c.later.ensures.one c.later.ensures.other)
