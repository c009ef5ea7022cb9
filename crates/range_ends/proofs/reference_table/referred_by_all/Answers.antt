use Rattle.std.proofs.Common.{length, ap, arith}
use Rattle.std.proofs.lemmas.List.{length-map}
use Rattle.names.specs.Sources.{value_seen}
use Rattle.range_ends.proofs.References.{first_more, first_all}
use Rattle.range_ends.proofs.reference_table.referred_by_all.Goals as goal

pub loop-number-preserved : goal.loop-number-preserved
loop-number-preserved c = first_more c.args.linked.now.program c.loop-number.target.items c.push.new.self.items c.referred.result c.loop-number.number c.loop-number.invariant c.in_ok-push.ensures.items c.referred.ensures.refers

pub returns : goal.returns
returns c = first_all c.args.linked.now.program c.loop-number.target.items c.loop-number.number c.loop-number.invariant
    (let l = length-map c.values-number-end.result.now value_seen in let e = ap length c.values-number-end.ensures.values in omega (arith, l, e, c.loop-number-test.false, c.loop-number.auto.number-end))
