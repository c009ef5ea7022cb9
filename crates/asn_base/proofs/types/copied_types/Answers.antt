use Rattle.asn_base.specs.Seen.{resolved_of}
use Rattle.asn_base.proofs.Copies.{copied_more}
use Rattle.asn_base.proofs.types.copied_types.Goals as goal

pub loop-i-preserved : goal.loop-i-preserved
loop-i-preserved c =
    copied_more resolved_of c.args.types.now c.loop-i.copies.items c.add.new.list.items c.loop-i.i c.index-types-i.result c.in_ok-one.one c.loop-i-test.true c.index-types-i.is c.loop-i.invariant c.in_ok-one.ensures c.in_ok-add.ensures
