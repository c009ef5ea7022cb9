use Rattle.std.proofs.Common.{◌∷◌, ◌∙◌, ◌<◌, ap, length, subst, sym}
use Rattle.trees.specs.Types.{plain_of}
use Rattle.names.specs.Modules.{OccursIn}
use Rattle.type_table.specs.Seen.{kind_of}
use Rattle.type_table.specs.Table.{WrittenKind}
use Rattle.resolve.specs.Program.{Program, WrittenProgram}
use Rattle.range_ends.specs.Ends.{IsValueAt}
use Rattle.value_notations.specs.References.{own_names}
use Rattle.typed_values.specs.declared.chains.Stop.{Stop}
use Rattle.typed_values.specs.proving.Stopping.{IsNearest}
use Rattle.typed_values.proofs.Ways.{leads_under}
use Rattle.typed_values.proofs.levels.Defaults.end_under.Goals as goal

pub returns-then-is_last-clause-leads : goal.returns-then-is_last-clause-leads
returns-then-is_last-clause-leads c =
    let chain = c.args.chain in
    let w = c.requires.known.chains.chains chain c.requires.chain in
    let last : Stop = record { count = 1; number = chain.end } in
    let f = c.stop-stop.ensures c.args.bounded.now.program c.args.self.now.named.turns.items (chain.number ∷ w.way) w.over w.last in
    let e = c.is_last.ensures.own c.if-is_last.true in
    leads_under (kind_of c.args.shape.now) chain c.stop-stop.result w
    (subst (λ (k : WrittenKind). IsNearest c.args.bounded.now.program (chain.number ∷ w.way) last (OccursIn (own_names k)) c.stop-stop.result)
    (sym (ap kind_of (sym c.shape.ensures ∙ c.in-Simple.is))) f)
    (subst (λ (p : Program). IsValueAt p c.stop-stop.result.number e.within e.notation) (ap (λ (w : WrittenProgram). w.program) c.linked.ensures) e.there)
    e.own

pub returns-then-is_last-clause-plain : goal.returns-then-is_last-clause-plain
returns-then-is_last-clause-plain c = (plain_of c.in-Simple.simple, ap kind_of (sym c.shape.ensures ∙ c.in-Simple.is))

pub returns-then-is_last-clause-inside : goal.returns-then-is_last-clause-inside
returns-then-is_last-clause-inside c =
    subst (λ (w : WrittenProgram). c.stop-stop.result.number < length w.program.values) c.linked.ensures (c.is_last.ensures.inside c.if-is_last.true)
