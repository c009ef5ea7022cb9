use Rattle.std.proofs.Common.{arith, refl}
use Rattle.type_table.specs.Seen.{part_of}
use Rattle.typed_values.proofs.Absences.{absent_at_more}
use Rattle.typed_values.proofs.levels.Defaults.allows.Goals as goal

pub returns-clause-may : goal.returns-clause-may
returns-clause-may c = λ yes.
    let enough = c.if-needed-levels.false in
    let reached = c.reach.ensures.reached in
    λ n l. absent_at_more c.in-Some.needed n (omega (arith, reached, l, enough))
    (c.requires.known c.args.home.now (part_of c.args.component.now)
    (record { ty = c.args.component.now.ty; levels = c.in-Some.needed }) c.requires.listed c.in-Some.ensures refl)
