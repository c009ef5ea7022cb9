use Rattle.std.proofs.Common.{map, subst}
use Rattle.std.proofs.lemmas.Result.{err_from_is_err_and}
use Rattle.trees.specs.Constraints.{constraint_of}
use Rattle.type_table.specs.Seen.{type_of}
use Rattle.resolve.specs.Places.{constraint_places, shape_places}
use Rattle.resolve.specs.Qualified.{each, qualified_constraint, qualified_kind}
use Rattle.resolve.specs.proving.Unknown.{AllMean, IsUnknownIn}
use Rattle.resolve.proofs.Turns.{all_both, unknown_front, unknown_after}
use Rattle.resolve.proofs.qualified.names_in_type.Goals as goal

pub returns-in_err-names_in_shape : goal.returns-in_err-names_in_shape
returns-in_err-names_in_shape c =
    let w = c.args.written.now in
    let t = type_of w in
    let p = err_from_is_err_and c.from_residual.result c.from_residual.ensures.1 in
    rw (p.1, p.2) (unknown_front c.args.linked.now.program.modules c.args.within.now (qualified_kind t.kind) (each qualified_constraint t.constraints) (shape_places w.shape) (each constraint_places w.constraints.items) c.in_err-names_in_shape.field-0.0 c.in_err-names_in_shape.ensures)

pub returns-in_err-names_in_all : goal.returns-in_err-names_in_all
returns-in_err-names_in_all c =
    let w = c.args.written.now in
    let t = type_of w in
    let p = err_from_is_err_and c.from_residual-in_err-names_in_all.result c.from_residual-in_err-names_in_all.ensures.1 in
    let u = subst (λ l. IsUnknownIn c.args.linked.now.program.modules c.args.within.now (each qualified_constraint (map constraint_of l)) (each constraint_places l) c.in_err-names_in_all.field-0.0) c.deref.ensures.value c.in_err-names_in_all.ensures in
    rw (p.1, p.2) (unknown_after c.args.linked.now.program.modules c.args.within.now (qualified_kind t.kind) (each qualified_constraint t.constraints) (shape_places w.shape) (each constraint_places w.constraints.items) c.in_err-names_in_all.field-0.0 c.in_ok-names_in_shape.ensures u)

pub returns : goal.returns
returns c =
    let w = c.args.written.now in
    let t = type_of w in
    let m = subst (λ l. AllMean c.args.linked.now.program.modules c.args.within.now (each qualified_constraint (map constraint_of l)) (each constraint_places l)) c.deref.ensures.value c.in_ok-names_in_all.ensures in
    all_both c.args.linked.now.program.modules c.args.within.now (qualified_kind t.kind) (each qualified_constraint t.constraints) (shape_places w.shape) (each constraint_places w.constraints.items) c.in_ok-names_in_shape.ensures m
