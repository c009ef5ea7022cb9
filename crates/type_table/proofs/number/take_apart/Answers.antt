use Rattle.std.proofs.Common.{◌≤◌, ◌+◌, length, arith, subst}
use Rattle.type_table.specs.Numbering.{form_parts}
use Rattle.type_table.specs.Seen.{form_seen}
use Rattle.type_table.proofs.WrittenTrees.{count_is}
use Rattle.type_table.proofs.number.take_apart.Goals as goal

pub components_of-requires : goal.components_of-requires
components_of-requires c =
    let few = subst (λ f. c.args.numbers.first + length (form_parts c.args.numbers.assignment c.args.numbers.own (form_seen f)) ≤ 65536) c.in-List.is c.requires.few in
    record { few = omega (arith, few, count_is c.args.numbers.assignment c.args.numbers.own 0 c.in-List.members.items) }
