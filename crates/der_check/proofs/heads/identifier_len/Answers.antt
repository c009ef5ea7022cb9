use Rattle.der_check.proofs.Shortened.{identifier_size}
use Rattle.der_check.proofs.heads.identifier_len.Goals as goal

pub returns : goal.returns
returns c = λ k. identifier_size c.args.tag k c.header_len.result c.saturating_sub.result (c.header_len.ensures.shortest k) c.saturating_sub.ensures
