use Rattle.std.proofs.Common.{◌<◌, ◌≤◌, length, map, arith}
use Rattle.std.proofs.lemmas.Result.{err_from_is_err_and}
use Rattle.resolve.specs.Qualified.{each}
use Rattle.resolve.proofs.Turns.{left_start, left_step, left_fault, left_end}
use Rattle.resolve.proofs.qualified.names_in_all.Goals as goal

pub loop-one-init : goal.loop-one-init
loop-one-init g c = left_start c.args.linked.now.program.modules c.args.within.now _ _

pub loop-one-preserved : goal.loop-one-preserved
loop-one-preserved g c =
    let l : c.loop-one.one-index < length c.args.all.now = omega arith in
    left_step c.args.linked.now.program.modules c.args.within.now g.T.Naming.names g.T.Naming.view g.T.Naming.places c.args.all.now (each g.T.Naming.names (map g.T.Naming.view c.args.all.now)) (each g.T.Naming.places c.args.all.now) c.loop-one.one-index c.one-item.result l c.one-item.is c.loop-one.invariant c.in_ok-check.ensures

pub returns-in_err-check : goal.returns-in_err-check
returns-in_err-check g c =
    let l : c.loop-one.one-index < length c.args.all.now = omega arith in
    let p = err_from_is_err_and c.from_residual.result c.from_residual.ensures.1 in
    rw (p.1, p.2) (left_fault c.args.linked.now.program.modules c.args.within.now g.T.Naming.names g.T.Naming.view g.T.Naming.places c.args.all.now (each g.T.Naming.names (map g.T.Naming.view c.args.all.now)) (each g.T.Naming.places c.args.all.now) c.loop-one.one-index c.one-item.result c.in_err-check.field-0.0 l c.one-item.is c.loop-one.invariant c.in_err-check.ensures)

pub returns : goal.returns
returns g c =
    let l : length c.args.all.now ≤ c.loop-one.one-index = omega arith in
    left_end c.args.linked.now.program.modules c.args.within.now g.T.Naming.names g.T.Naming.view g.T.Naming.places c.args.all.now (each g.T.Naming.names (map g.T.Naming.view c.args.all.now)) (each g.T.Naming.places c.args.all.now) c.loop-one.one-index l c.loop-one.invariant
