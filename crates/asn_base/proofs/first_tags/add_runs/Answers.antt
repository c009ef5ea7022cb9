use Rattle.std.proofs.Common.{◌+◌, map, drop, ap}
use Rattle.asn_base.specs.Seen.{component_of}
use Rattle.asn_base.specs.Tags.{is_mandatory}
use Rattle.asn_base.specs.proving.Firsts.{flat, in_runs}
use Rattle.asn_base.proofs.FirstTags.{adding, added, next_small, run_piece}
use Rattle.asn_base.proofs.first_tags.add_runs.Goals as goal
use Rattle.asn_base.specs.proving.Lists.{drop_is, drop_end}

pub loop-i-preserved : goal.loop-i-preserved
loop-i-preserved c = (
  next_small (is_mandatory (component_of c.index-components-i.result)) c.loop-i.run c.loop-i.i _ c.next_run-run.ensures c.loop-i.invariant.0,
  adding c.loop-i.keys.items c.add_firsts.new.keys.items _ (flat c.args.types.now (in_runs c.next_run-run.result (drop (c.loop-i.i + 1) (map component_of c.args.components.now)))) _ _ c.in_ok-add_firsts.ensures
      (run_piece c.args.types.now c.loop-i.run c.next_run-run.result (component_of c.index-components-i.result) _ _ (drop_is component_of c.args.components.now c.loop-i.i c.index-components-i.result c.loop-i-test.true c.index-components-i.is) c.next_run-run.ensures) c.loop-i.invariant.1,
)

pub returns : goal.returns
returns c = added c.loop-i.keys.items _ _ (ap (λ q. flat c.args.types.now (in_runs c.loop-i.run q)) (drop_end component_of c.args.components.now c.loop-i.i c.loop-i-test.false)) c.loop-i.invariant.1
