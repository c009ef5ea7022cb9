use Rattle.std.proofs.Common.{ap, ◌∙◌}
use Rattle.octet_account.specs.Seen.{flat_row}
use Rattle.octet_account.proofs.PutBack.{put_back}
use Rattle.octet_account.proofs.ends.set_ends.Goals as goal

pub returns : goal.returns
returns c =
    put_back c.args.rows.now c.args.at c.replace-row.new.dest c.row_with_ends-row.result c.index-rows-at-2.result
    (c.row_with_ends-row.ensures ∙ ap (λ q. flat_row q.listed) c.replace-row.ensures.value)
