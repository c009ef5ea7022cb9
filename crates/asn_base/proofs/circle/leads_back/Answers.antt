use Rattle.std.proofs.Common.{subst}
use Rattle.asn_base.specs.Depths.{rows_of}
use Rattle.asn_base.specs.proving.Reaching.{AreAbove}
use Rattle.asn_base.proofs.Leaves.{no}
use Rattle.asn_base.proofs.Reaching.{not_back}
use Rattle.asn_base.proofs.circle.leads_back.Goals as goal

pub returns-then-are_above : goal.returns-then-are_above
returns-then-are_above c =
    no (not_back (rows_of c.args.ranked.rows.now) c.args.ranked.ranks.now c.args.row.now c.args.ty (c.requires.ranked c.if-ranked.true)
    (subst (λ q. AreAbove q c.args.ranked.ranks.now c.args.row.now) c.rank_at.ensures (c.are_above.ensures.0 c.if-are_above.true)))
