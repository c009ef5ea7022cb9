use Rattle.std.proofs.Common.{set, ap, ◌∙◌}
use Rattle.octet_account.specs.Seen.{flat, flat_row}
use Rattle.der_layout.proofs.Seen.{flat_set}
use Rattle.der_layout.proofs.steps.put_last_row.Goals as goal

pub returns-then-place-len : goal.returns-then-place-len
returns-then-place-len c =
    flat_set c.args.rows.now.items c.args.place c.spanning.result
    ∙ ap (λ q. set (flat c.args.rows.now.items) c.args.place (flat_row q)) c.spanning.ensures
