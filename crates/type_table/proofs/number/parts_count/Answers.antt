use Rattle.std.proofs.Common.{◌≡◌, length, arith, sym, ap, ◌∙◌}
use Rattle.type_table.specs.Numbering.{form_parts}
use Rattle.type_table.specs.Seen.{form_seen}
use Rattle.type_table.proofs.WrittenTrees.{form_is_seen, count_is}
use Rattle.type_table.proofs.number.parts_count.Goals as goal

pub returns-in-List : goal.returns-in-List
returns-in-List c =
    let n : c.len.result ≡ length c.in-List.members.items = omega arith in
    λ a i. n ∙ sym (count_is a i 0 c.in-List.members.items) ∙ ap (λ f. length (form_parts a i f)) (sym (form_is_seen c.args.syntax.now ∙ ap form_seen c.in-List.is))
