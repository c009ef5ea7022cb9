use Rattle.std.proofs.Common.{◌<◌, arith, ap, length, subst, sym, ◌∙◌}
use Rattle.std.specs.Prelude.{Some}
use Rattle.std.proofs.lemmas.List.{length-map}
use Rattle.names.specs.proving.Distinct.{item_at}
use Rattle.resolve.specs.Program.{Program, WrittenProgram}
use Rattle.type_table.specs.Table.{IsUnderlying}
use Rattle.extensions.specs.proving.Tables.{defaults_seen, row_seen, table_seen}
use Rattle.extensions.proofs.Each.{of_core}
use Rattle.extensions.proofs.each_type.new_type.Goals as goal

pub resolved-requires-clause-defaults : goal.resolved-requires-clause-defaults
resolved-requires-clause-defaults c =
    let p = c.args.bounded.now.program in
    let core = c.core-core.result.index in
    let less = subst (λ (q : Program). core < length q.types) (ap (λ (w : WrittenProgram). w.program) c.linked.ensures) c.core-core.ensures.there in
    let is = subst (λ (q : Program). IsUnderlying q.types c.args.ty.index core) (ap (λ (w : WrittenProgram). w.program) c.linked.ensures) c.core-core.ensures.core in
    let many = c.requires.table.as_many in
    let same = length-map c.args.table.now row_seen in
    of_core p c.args.ty.index core (defaults_seen c.deref.result.now) (table_seen c.args.table.now) c.requires.table is
    (item_at row_seen c.args.table.now core c.index-table-core.result (omega (arith, less, many, same)) c.index-table-core.is
    ∙ ap (λ v. Some (defaults_seen v)) (sym c.deref.ensures.value))
