use Rattle.std.proofs.Common.{rules, sym}
use Rattle.trees.specs.Constraints.{end_of}
use Rattle.type_table.specs.Seen.{kind_of}
use Rattle.range_ends.proofs.Bounds.{from_of, up_to_of}
use Rattle.range_ends.proofs.written_ranges.range_at.Goals as goal

pub returns-in-Ok-bound_at-clause-found : goal.returns-in-Ok-bound_at-clause-found
returns-in-Ok-bound_at-clause-found c =
    let e = from_of c.args.site.now.scope.now.program (kind_of c.args.site.now.shape.now) c.args.site.now.within.now
    c.args.site.now.of (end_of c.in-Between-Some-None.first.value) c.in-Ok-bound_at.least
    (rw (sym c.deref-in-Between-Some-None.ensures) c.in-Ok-bound_at.ensures.found) in
    search rules

pub returns-in-Ok-bound_at-2-clause-found : goal.returns-in-Ok-bound_at-2-clause-found
returns-in-Ok-bound_at-2-clause-found c =
    let e = up_to_of c.args.site.now.scope.now.program (kind_of c.args.site.now.shape.now) c.args.site.now.within.now
    c.args.site.now.of (end_of c.in-Between-None-Some.last.value) c.in-Ok-bound_at-2.greatest c.floor_of.result
    c.floor_of.ensures (rw (sym c.deref-in-Between-None-Some.ensures) c.in-Ok-bound_at-2.ensures.found) in
    search rules
