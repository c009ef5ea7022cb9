use Rattle.std.proofs.Common.{◌+◌, refl, subst}
use Rattle.asn_base.specs.Depths.{NoneAbove, rows_of}
use Rattle.asn_base.proofs.DepthLaws.{deep_enough}
use Rattle.asn_base.proofs.depths.found.Goals as goal

pub returns-then-not-above : goal.returns-then-not-above
returns-then-not-above c =
    let most = subst (λ q. NoneAbove (c.loop-levels.levels + 1) (rows_of q)) c.as_slice.ensures.value (c.is_above-above.ensures c.if-not-above.true) in
    record {
      known = deep_enough c.args.schema.now (c.loop-levels.levels + 1) 63 (rows_of c.in_ok-rows.rows.items) c.in_ok-rows.ensures most;
      some = refl;
    }
