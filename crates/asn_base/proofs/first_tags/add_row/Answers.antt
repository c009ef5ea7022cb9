use Rattle.std.proofs.Common.{◌+◌, drop, ap}
use Rattle.asn_base.specs.proving.Firsts.{flat, in_one}
use Rattle.asn_base.proofs.FirstTags.{adding, added}
use Rattle.asn_base.proofs.first_tags.add_row.Goals as goal
use Rattle.asn_base.specs.proving.Lists.{drop_at, drop_end}

pub loop-i-preserved : goal.loop-i-preserved
loop-i-preserved c =
    adding c.loop-i.keys.items c.add_firsts.new.keys.items _ (flat c.args.types.now (drop (c.loop-i.i + 1) (in_one c.args.row.now))) _ _ c.in_ok-add_firsts.ensures
    (ap (flat c.args.types.now) (drop_at (λ t. (0, t)) c.args.row.now c.loop-i.i 0 c.loop-i-test.true)) c.loop-i.invariant

pub returns : goal.returns
returns c = added c.loop-i.keys.items _ _ (ap (flat c.args.types.now) (drop_end (λ t. (0, t)) c.args.row.now c.loop-i.i c.loop-i-test.false)) c.loop-i.invariant
