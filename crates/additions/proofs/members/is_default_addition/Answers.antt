use Rattle.std.proofs.Common.{sym, ap, ◌∙◌}
use Rattle.type_table.specs.Seen.{part_of}
use Rattle.type_table.specs.Table.{Part}
use Rattle.additions.specs.Additions.{has_default as has_default'}
use Rattle.additions.proofs.Placing.{part_at, same_part}
use Rattle.additions.proofs.members.is_default_addition.Goals as goal

pub returns-clause-default : goal.returns-clause-default
returns-clause-default c = λ t.
    let cs = c.args.components.now in
    let a = c.index-components-at.result in
    let e = part_at cs c.args.at a c.requires c.index-components-at.is in
    let s = same_part cs c.args.at c.index-components-at-2.result (part_of a) c.requires c.index-components-at-2.is e in
    record {
      member = part_of a;
      there = e;
      added = sym c.is_addition.ensures ∙ c.if-not-is_addition.false;
      has_value = ap (λ (z : Part). has_default' z.presence) (sym s) ∙ (sym c.has_default.ensures ∙ t);
    }

pub returns-clause-plain : goal.returns-clause-plain
returns-clause-plain c = λ f x q a.
    let s = same_part c.args.components.now c.args.at c.index-components-at-2.result x c.requires c.index-components-at-2.is q in
    ap (λ (z : Part). has_default' z.presence) (sym s) ∙ (sym c.has_default.ensures ∙ f)
