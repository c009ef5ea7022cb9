use Rattle.std.proofs.Common.{rules, ◌≡◌, subst, to_z, of_z}
use Rattle.std.specs.Int.{w128}
use Rattle.trees.specs.Constraints.{end_of}
use Rattle.type_table.specs.Seen.{kind_of}
use Rattle.range_ends.specs.Answers.{IsOf}
use Rattle.range_ends.specs.proving.Bounds.{IsBoundOf}
use Rattle.range_ends.proofs.written_ranges.bound_at.Goals as goal

pub returns-then-may_end-clause-found : goal.returns-then-may_end-clause-found
returns-then-may_end-clause-found c =
    let q : to_z w128 (of_z w128 c.in-Ok.number) ≡ c.in-Ok.number = search rules in
    let e : IsBoundOf c.args.site.now.scope.now.program (kind_of c.args.site.now.shape.now) c.args.site.now.within.now c.args.site.now.of (end_of c.args.end.now) c.in-Ok.number =
    record { is_so = c.in-Ok.ensures.is_so; only_one = c.in-Ok.ensures.only_one; such = subst (IsOf c.args.site.now.of) q (c.may_end.ensures.0 (search rules)) } in
    search rules
