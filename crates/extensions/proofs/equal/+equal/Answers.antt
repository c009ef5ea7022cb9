use Rattle.std.proofs.Common.{arith, ◌<◌, length}
use Rattle.std.specs.Prelude.{option_map}
use Rattle.asn_base.specs.Abstract.{abstract}
use Rattle.extensions.proofs.EqualLists.{equal_more, equal_all}
use Rattle.extensions.proofs.equal.+equal.Goals as goal

pub are_equal_lists-loop-i-preserved : goal.are_equal_lists-loop-i-preserved
are_equal_lists-loop-i-preserved t c =
    let l : c.loop-i.i < length c.args.second.now = omega arith in
    equal_more abstract c.args.first.now c.args.second.now c.loop-i.i c.index-first-i.result c.index-second-i.result
    c.loop-i-test.true l c.index-first-i.is c.index-second-i.is (c.are_equal.ensures c.if-not-are_equal.false) c.loop-i.invariant

pub are_equal_lists-returns : goal.are_equal_lists-returns
are_equal_lists-returns t c e =
    equal_all abstract c.args.first.now c.args.second.now c.loop-i.i c.loop-i-test.false (omega arith) c.loop-i.invariant

pub are_equal_fields-returns : goal.are_equal_fields-returns
are_equal_fields-returns t c e =
    equal_all (option_map abstract) c.args.first.now c.args.second.now c.loop-i.i c.loop-i-test.false (omega arith) c.loop-i.invariant
