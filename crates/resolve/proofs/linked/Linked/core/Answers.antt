use Rattle.std.proofs.Common.{◌<◌, length, refl, arith}
use Rattle.std.proofs.lemmas.Option.{slice_get_read}
use Rattle.type_table.specs.Seen.{types_of}
use Rattle.resolve.proofs.linked.Linked.core.Goals as goal

pub returns-clause-there : goal.returns-clause-there
returns-clause-there c =
    let cores = c.self.inside.cores.items in
    let a = c.self.invariant.1 in
    let there : c.args.ty.index < length (types_of c.self.inside.types.items) = rw (← c.self.view_is) at c.requires in
    let e = slice_get_read cores (length cores) c.args.ty.index c.index.result.now refl (omega (arith, there, a.long)) c.index.ensures in
    rw (← c.self.view_is) (a.each c.args.ty.index c.index.result.now e).0
