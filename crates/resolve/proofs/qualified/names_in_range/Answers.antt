use Rattle.std.proofs.Common.{sym, subst, option_map}
use Rattle.std.proofs.lemmas.Result.{err_from_is_err_and}
use Rattle.trees.specs.Constraints.{end_of, range_of}
use Rattle.resolve.specs.Places.{bound_places, range_places}
use Rattle.resolve.specs.Qualified.{qualified_bound, qualified_range}
use Rattle.resolve.specs.proving.Unknown.{AllMean, IsUnknownIn}
use Rattle.resolve.proofs.Turns.{all_both, unknown_front, unknown_after}
use Rattle.resolve.proofs.qualified.names_in_range.Goals as goal

pub returns-in_err-names_in_bound-in-Between : goal.returns-in_err-names_in_bound-in-Between
returns-in_err-names_in_bound-in-Between c =
    let p = err_from_is_err_and c.from_residual.result c.from_residual.ensures.1 in
    rw (p.1, p.2) (subst (λ r. IsUnknownIn c.args.linked.now.program.modules c.args.within.now (qualified_range (range_of r)) (range_places r) c.in_err-names_in_bound-in-Between.field-0.0) (sym c.in-Between.is)
    (unknown_front c.args.linked.now.program.modules c.args.within.now (qualified_bound (option_map (λ e. end_of e.value) c.in-Between.least)) (qualified_bound (option_map (λ e. end_of e.value) c.in-Between.greatest)) (bound_places c.in-Between.least) (bound_places c.in-Between.greatest) c.in_err-names_in_bound-in-Between.field-0.0 c.in_err-names_in_bound-in-Between.ensures))

pub returns-in_err-names_in_bound-in-Between-2 : goal.returns-in_err-names_in_bound-in-Between-2
returns-in_err-names_in_bound-in-Between-2 c =
    let p = err_from_is_err_and c.from_residual-in_err-names_in_bound-in-Between-2.result c.from_residual-in_err-names_in_bound-in-Between-2.ensures.1 in
    rw (p.1, p.2) (subst (λ r. IsUnknownIn c.args.linked.now.program.modules c.args.within.now (qualified_range (range_of r)) (range_places r) c.in_err-names_in_bound-in-Between-2.field-0.0) (sym c.in-Between.is)
    (unknown_after c.args.linked.now.program.modules c.args.within.now (qualified_bound (option_map (λ e. end_of e.value) c.in-Between.least)) (qualified_bound (option_map (λ e. end_of e.value) c.in-Between.greatest)) (bound_places c.in-Between.least) (bound_places c.in-Between.greatest) c.in_err-names_in_bound-in-Between-2.field-0.0 c.in_ok-names_in_bound-in-Between.ensures c.in_err-names_in_bound-in-Between-2.ensures))

pub returns-in_ok-names_in_bound-in-Between-2 : goal.returns-in_ok-names_in_bound-in-Between-2
returns-in_ok-names_in_bound-in-Between-2 c =
    subst (λ r. AllMean c.args.linked.now.program.modules c.args.within.now (qualified_range (range_of r)) (range_places r)) (sym c.in-Between.is)
    (all_both c.args.linked.now.program.modules c.args.within.now (qualified_bound (option_map (λ e. end_of e.value) c.in-Between.least)) (qualified_bound (option_map (λ e. end_of e.value) c.in-Between.greatest)) (bound_places c.in-Between.least) (bound_places c.in-Between.greatest) c.in_ok-names_in_bound-in-Between.ensures c.in_ok-names_in_bound-in-Between-2.ensures)
