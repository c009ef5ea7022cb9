use Rattle.std.proofs.Common.{◌≡◌, length, ap, map, sym, ◌∙◌, rules}
use Rattle.trees.specs.Constraints.{constraint_of}
use Rattle.type_table.specs.Seen.{type_of}
use Rattle.type_table.specs.Table.{target_of}
use Rattle.constraints.proofs.Noting.{empty_list}
use Rattle.constraints.proofs.column.shared.Goals as goal

pub returns-then-is_empty : goal.returns-then-is_empty
returns-then-is_empty c = λ j e.
    let w = c.written_at-written.result.now in
    let long : length w.constraints.items ≡ 0 = search rules in
    record {
      type = type_of w;
      there = c.written_at-written.ensures.there;
      none = ap (map constraint_of) (empty_list w.constraints.items long);
      chain = ap target_of c.written_at-written.ensures.there ∙ sym c.target.ensures ∙ e;
    }
