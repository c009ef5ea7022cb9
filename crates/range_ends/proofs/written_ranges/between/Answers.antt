use Rattle.std.proofs.Common.{rules}
use Rattle.trees.specs.Constraints.{end_of}
use Rattle.type_table.specs.Seen.{kind_of}
use Rattle.range_ends.specs.First.{of_lower, of_upper, of_both}
use Rattle.range_ends.proofs.Bounds.{reversed_of, between_of, fine_end}
use Rattle.range_ends.proofs.written_ranges.between.Goals as goal

pub returns-then-greatest-least-clause-found : goal.returns-then-greatest-least-clause-found
returns-then-greatest-least-clause-found c =
    reversed_of c.args.site.now.scope.now.program (kind_of c.args.site.now.shape.now) c.args.site.now.within.now c.args.site.now.of
    (end_of c.args.first.now) (end_of c.args.last.now) c.in-Ok.least c.in-Ok-bound_at.greatest c.in-Ok.ensures.found
    c.in-Ok-bound_at.ensures.found (search rules)

pub returns-clause-found : goal.returns-clause-found
returns-clause-found c =
    let e = between_of c.args.site.now.scope.now.program (kind_of c.args.site.now.shape.now) c.args.site.now.within.now
    c.args.site.now.of (end_of c.args.first.now) (end_of c.args.last.now) c.in-Ok.least c.in-Ok-bound_at.greatest
    c.in-Ok.ensures.found c.in-Ok-bound_at.ensures.found (search rules) in
    search rules

pub returns-then-greatest-least-clause-wrong : goal.returns-then-greatest-least-clause-wrong
returns-then-greatest-least-clause-wrong c =
    of_both (
      c.place.ensures,
      reversed_of c.args.site.now.scope.now.program (kind_of c.args.site.now.shape.now) c.args.site.now.within.now c.args.site.now.of
          (end_of c.args.first.now) (end_of c.args.last.now) c.in-Ok.least c.in-Ok-bound_at.greatest c.in-Ok.ensures.found
          c.in-Ok-bound_at.ensures.found (search rules),
    )

pub returns-in-Err-clause-wrong : goal.returns-in-Err-clause-wrong
returns-in-Err-clause-wrong c = of_lower c.in-Err.ensures.wrong

pub returns-in-Err-bound_at-clause-wrong : goal.returns-in-Err-bound_at-clause-wrong
returns-in-Err-bound_at-clause-wrong c =
    of_upper
    (fine_end c.args.site.now.scope.now.program (kind_of c.args.site.now.shape.now) c.args.site.now.within.now c.args.site.now.of
    (end_of c.args.first.now) c.in-Ok.least c.in-Ok.ensures.found)
    c.in-Err-bound_at.ensures.wrong
