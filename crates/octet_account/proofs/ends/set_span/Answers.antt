use Rattle.std.proofs.Common.{refl}
use Rattle.octet_account.proofs.PutBack.{put_same}
use Rattle.octet_account.proofs.ends.set_span.Goals as goal

pub returns : goal.returns
returns c = put_same c.args.rows.now c.args.at _ c.index-rows-at.result refl
