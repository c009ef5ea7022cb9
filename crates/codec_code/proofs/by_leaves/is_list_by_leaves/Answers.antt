use Rattle.asn_base.specs.Seen.{constraint_of}
use Rattle.codec_code.specs.ByLeaves.{AllowsAnySome}
use Rattle.codec_code.proofs.ByLeaves.{also}
use Rattle.codec_code.proofs.by_leaves.is_list_by_leaves.Goals as goal

pub returns : goal.returns
returns c = also (AllowsAnySome (constraint_of c.args.size.now)) c.allows_any_some.result (c.is_marked.ensures.0 c.if-not-is_marked.false) c.allows_any_some.ensures
