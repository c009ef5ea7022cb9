use Rattle.std.proofs.Common.{◌≡◌, [], ap, subst}
use Rattle.type_table.specs.declared.table.Shape.{Shape}
use Rattle.type_table.specs.Seen.{kind_of}
use Rattle.value_notations.specs.References.{own_names}
use Rattle.resolve.specs.Program.{Program, WrittenProgram}
use Rattle.range_ends.specs.Ends.{IsValueAt}
use Rattle.typed_values.specs.declared.chains.Stop.{Stop}
use Rattle.typed_values.proofs.Ways.{last_nearest, leads_under}
use Rattle.typed_values.proofs.levels.Defaults.leads_whole.Goals as goal

pub returns-then-holds_others : goal.returns-then-holds_others
returns-then-holds_others c = λ yes.
    let chain = c.args.chain in
    let w = c.requires.known.chains.chains chain c.requires.chain in
    let last : Stop = record { count = 1; number = chain.end } in
    let none = subst (λ (s : Shape). own_names (kind_of s) ≡ []) c.shape.ensures (c.holds_others.ensures c.if-holds_others.true) in
    let e = c.is_last.ensures.own yes in
    leads_under (kind_of c.args.shape.now) chain last w (last_nearest (kind_of c.args.shape.now) last none w.last)
    (subst (λ (p : Program). IsValueAt p chain.end e.within e.notation) (ap (λ (w : WrittenProgram). w.program) c.linked.ensures) e.there)
    e.own
