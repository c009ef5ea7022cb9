use Rattle.std.proofs.Common.{sym, subst}
use Rattle.constraints.specs.First.{IsFirstFault}
use Rattle.constraints.specs.declared.column.Fault.TheVariants as column
use Rattle.type_table.specs.Seen.{type_of}
use Rattle.names.specs.Faults.{fault_module}
use Rattle.resolve.specs.Program.{IsAssignment}
use Rattle.constraints.proofs.fault.broken.Goals as goal

pub returns-in-Ok-clause-is_so : goal.returns-in-Ok-clause-is_so
returns-in-Ok-clause-is_so c =
    let p = c.args.linked.now.program in
    let t = type_of c.written_at-written.result.now in
    let a = c.home-home.ensures t c.written_at-written.ensures.there in
    let b = subst (λ M. IsAssignment p t.assignment M c.home-home.result.name.now) (sym c.in-Ok.ensures.within) a in
    let d = subst (IsAssignment p t.assignment (fault_module c.in-Ok.source_location)) (sym c.in-Ok.ensures.name) b in
    c.fault_of.ensures.is_so p c.args.ty c.requires.breaks (record { type = t; found = c.written_at-written.ensures.there; assigned = d })

pub returns-in-Ok-clause-first : goal.returns-in-Ok-clause-first
returns-in-Ok-clause-first c = λ f.
    let p = c.args.linked.now.program in
    let t = type_of c.written_at-written.result.now in
    let a = c.home-home.ensures t c.written_at-written.ensures.there in
    let b = subst (λ M. IsAssignment p t.assignment M c.home-home.result.name.now) (sym c.in-Ok.ensures.within) a in
    let d = subst (IsAssignment p t.assignment (fault_module c.in-Ok.source_location)) (sym c.in-Ok.ensures.name) b in
    c.fault_of.ensures.first p c.args.linked.now.types c.args.linked.now.assignments c.args.ty
    (subst (λ n. IsFirstFault p c.args.linked.now.types (column.At c.args.rule c.args.ty n)) (sym c.in-Ok.ensures.at) f)
    (record { type = t; found = c.written_at-written.ensures.there; assigned = d })
