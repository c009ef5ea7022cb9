use Rattle.std.proofs.Common.{◌+◌, ap, ◌∙◌}
use Rattle.der_layout.specs.Rows.{listed}
use Rattle.der_layout.proofs.steps.add_left_out.Goals as goal

pub returns : goal.returns
returns c =
    let w = c.in_ok-put_left_out.ensures in
    record {
      octets_are = w.octets_are;
      opened_are = w.opened_are;
      groups_are = w.groups_are;
      rows_are = w.rows_are;
      members_are = c.sum-table.ensures ∙ ap (λ q. listed (q + 1)) w.members_are;
    }
