use Rattle.std.proofs.Common.{sym, subst, ap}
use Rattle.type_table.specs.Table.{WrittenKind}
use Rattle.range_ends.specs.Ends.{IsTypeOfKind}
use Rattle.typed_values.specs.Chains.{LeadsUnder}
use Rattle.typed_values.specs.Known.{ComesTo}
use Rattle.resolve.specs.Program.{WrittenProgram}
use Rattle.typed_values.proofs.ChainedNames.{comes_by_chain}
use Rattle.typed_values.proofs.Going.{kind_in}
use Rattle.typed_values.proofs.Readings.{of_kind}
use Rattle.typed_values.proofs.levels.Defaults.chained.Goals as goal

pub entry-requires-clause-known : goal.entry-requires-clause-known
entry-requires-clause-known c = c.requires.known.named

pub returns-clause-comes : goal.returns-clause-comes
returns-clause-comes c =
    let chain = c.in-Some.chain in
    let e = c.in-Some-entry.entry in
    let x = c.in-Some-entry.ensures in
    let h = c.in-Some-end_under.ensures in
    let k = h.plain in
    let is = subst (λ (z : WrittenKind). IsTypeOfKind c.args.bounded.now.program.types c.args.ty.index z) k.1
    (of_kind (kind_in (sym (ap (λ (w : WrittenProgram). w.program) c.linked.ensures)) c.written-shape.ensures.written)) in
    let leads = subst (λ (z : WrittenKind). LeadsUnder c.args.bounded.now.program c.args.self.now.named.turns.items z chain c.in-Some-end_under.end)
    k.1 h.leads in
    subst (λ j. ComesTo c.args.bounded.now.program c.args.self.now.named.turns.items
    (record { number = j; ty = c.args.ty.index; levels = e.levels; nodes = e.nodes; latest = chain.latest }))
    c.in-Some.ensures.number
    (comes_by_chain k.0 chain c.in-Some-end_under.end e c.args.ty.index is leads x.comes x.number x.ty)
