use Rattle.std.proofs.Common.{sym, subst}
use Rattle.type_table.specs.Seen.{type_of}
use Rattle.names.specs.Faults.{fault_module}
use Rattle.resolve.specs.Program.{IsAssignment}
use Rattle.additions.specs.First.{IsFirstNamed}
use Rattle.additions.proofs.keeping.reported.Goals as goal

pub returns-in-Ok : goal.returns-in-Ok
returns-in-Ok c =
    let p = c.args.linked.now.program in
    let t = type_of c.written_at-written.result.now in
    let a = c.home-home.ensures t c.written_at-written.ensures in
    let b = subst (λ M. IsAssignment p t.assignment M c.home-home.result.name.now) (sym c.in-Ok.ensures.within) a in
    let d = subst (IsAssignment p t.assignment (fault_module c.in-Ok.source_location)) (sym c.in-Ok.ensures.name) b in
    c.fault_of.ensures c.args.linked.now c.args.ty
    (subst (IsFirstNamed p.types c.args.linked.now.types c.args.rule c.args.ty) (sym c.in-Ok.ensures.at) c.requires.breaks)
    (record { type = t; found = c.written_at-written.ensures; assigned = d })
