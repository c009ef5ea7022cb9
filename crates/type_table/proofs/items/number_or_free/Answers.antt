use Rattle.std.proofs.Common.{◌≡◌, ◌<◌, ◌^◌, sym, ap, ◌∙◌, arith}
use Rattle.std.specs.Prelude.{pos}
use mir.Syntax.{w128}
use Rattle.std.proofs.lemmas.Int.{to_z_pos}
use Rattle.type_table.specs.Items.{least_free, number_or}
use Rattle.type_table.proofs.Free.{free_is, one_free}
use Rattle.type_table.proofs.items.number_or_free.Goals as goal

pub returns-then-number-ge170141183460469231731687303715884105728 : goal.returns-then-number-ge170141183460469231731687303715884105728
returns-then-number-ge170141183460469231731687303715884105728 c = λ list s.
    let e = one_free c.args.used.now.keys list c.args.from c.free-number.result (least_free c.args.from list) (λ w. (s w).0) (λ w. (s w).1) c.free-number.ensures.free (free_is list c.args.from) in
    let small = c.free-number.ensures.small in
    let n : c.free-number.result ≡ 2 ^ 127 = omega (arith, small) in
    ap (number_or c.args.from list) c.in-None.is ∙ ap pos (sym e ∙ n)

pub returns-else-number-ge170141183460469231731687303715884105728 : goal.returns-else-number-ge170141183460469231731687303715884105728
returns-else-number-ge170141183460469231731687303715884105728 c = λ list s.
    let e = one_free c.args.used.now.keys list c.args.from c.free-number.result (least_free c.args.from list) (λ w. (s w).0) (λ w. (s w).1) c.free-number.ensures.free (free_is list c.args.from) in
    let n : c.free-number.result < 2 ^ 127 = omega arith in
    to_z_pos w128 c.free-number.result n ∙ ap pos e ∙ sym (ap (number_or c.args.from list) c.in-None.is)
