use Rattle.std.proofs.Common.{◌+◌, map, drop, ap}
use Rattle.asn_base.specs.Seen.{alternative_of}
use Rattle.asn_base.specs.proving.Firsts.{alternative_heads, key}
use Rattle.asn_base.proofs.FirstTags.{adding, added, heads_piece}
use Rattle.asn_base.proofs.first_tags.add_heads.Goals as goal
use Rattle.asn_base.specs.proving.Lists.{drop_at, drop_end}

pub loop-i-preserved : goal.loop-i-preserved
loop-i-preserved c =
    adding c.loop-i.keys.items c.add_head.new.keys.items _ (map (key c.args.run) (alternative_heads c.args.types.now (drop (c.loop-i.i + 1) (map alternative_of c.args.alternatives.now)))) _ _ c.in_ok-add_head.ensures
    (heads_piece c.args.types.now c.args.run _ _ _ (drop_at alternative_of c.args.alternatives.now c.loop-i.i _ c.loop-i-test.true)) c.loop-i.invariant

pub returns : goal.returns
returns c = added c.loop-i.keys.items _ _ (ap (λ q. map (key c.args.run) (alternative_heads c.args.types.now q)) (drop_end alternative_of c.args.alternatives.now c.loop-i.i c.loop-i-test.false)) c.loop-i.invariant
