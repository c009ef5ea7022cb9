use Rattle.std.proofs.Common.{◌<◌, length, refl, arith, subst, sym}
use Rattle.std.proofs.lemmas.Option.{slice_get_read}
use Rattle.tagging.specs.declared.table.TagTable.{TagTable}
use Rattle.tagging.specs.proving.Columns.{AreFronts}
use Rattle.tagging.proofs.columns.Columns.front.Goals as goal

pub returns-clause-there : goal.returns-clause-there
returns-clause-there c =
    let fronts = c.get.result.now.fronts.items in
    let a = subst (λ (t : TagTable). AreFronts c.self.inside.linked.now.program.types t.fronts.items) (sym c.get.ensures) c.self.invariant.fronts in
    let there : c.args.ty < length c.self.inside.linked.now.program.types = rw (← c.self.view_is) at c.requires in
    let e = slice_get_read fronts (length fronts) c.args.ty c.index.result.now refl (omega (arith, there, a.long)) c.index.ensures in
    rw (← c.self.view_is) (a.each c.args.ty c.index.result.now e).0
