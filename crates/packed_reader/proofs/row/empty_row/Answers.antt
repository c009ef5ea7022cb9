use Rattle.std.proofs.Common.{arith, ◌≡◌, None, ap, ◌∙◌}
use Rattle.std.specs.Prelude.{replicate}
use Rattle.packed_reader.proofs.RowsPut.{none_present}
use Rattle.packed_reader.proofs.row.empty_row.Goals as goal

pub returns-clause-row : goal.returns-clause-row
returns-clause-row c =
    let h = c.loop-i-test.false in
    let l = c.loop-i.auto._i-end in
    let e : c.loop-i._i ≡ c.args.count = omega (arith, h, l) in
    λ cs n. none_present cs c.args.count c.loop-i.row.items n (c.loop-i.invariant ∙ ap (λ m. replicate m None) e)
