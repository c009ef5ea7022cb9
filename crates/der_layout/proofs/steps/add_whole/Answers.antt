use Rattle.std.proofs.Common.{◌+◌, ap, ◌∙◌}
use Rattle.der_layout.specs.Rows.{listed}
use Rattle.der_layout.proofs.steps.add_whole.Goals as goal

pub returns-in-Ok-clause-adds : goal.returns-in-Ok-clause-adds
returns-in-Ok-clause-adds c =
    let h = c.in-Ok.ensures.adds in
    let w = h.2 in (
      h.0,
      h.1,
      record {
        octets_are = w.octets_are;
        opened_are = w.opened_are;
        groups_are = w.groups_are;
        rows_are = w.rows_are;
        members_are = c.sum-table.ensures ∙ ap (λ q. listed (q + 1)) w.members_are;
      },
    )
