use Rattle.std.proofs.Common.{arith, ap, map}
use Rattle.trees.specs.Modules.{assignment_tree_of as given_of}
use Rattle.names.specs.Modules.{type_count, value_count}
use Rattle.names.proofs.Counting.{limit_at, types_drop_module, values_drop_module}
use Rattle.names.proofs.counts.count_all.Goals as goal

pub loop-given-preserved : goal.loop-given-preserved
loop-given-preserved c =
    let t = types_drop_module c.args.modules.now c.loop-given.given-index c.given-item.result c.loop-given-test.true c.given-item.is in
    let v = values_drop_module c.args.modules.now c.loop-given.given-index c.given-item.result c.loop-given-test.true c.given-item.is in
    let d = ap (λ l. type_count (map given_of l)) c.deref.ensures.value in
    let w = ap (λ l. value_count (map given_of l)) c.deref.ensures.value in
    record {
      types = omega (arith, t, d, c.in-Ok.ensures.counted_types, c.loop-given.invariant.types);
      values = omega (arith, v, w, c.in-Ok.ensures.counted_values, c.loop-given.invariant.values);
      few_types = c.in-Ok.ensures.types;
      few_values = c.in-Ok.ensures.values;
    }

pub returns-in-Err-clause-at : goal.returns-in-Err-clause-at
returns-in-Err-clause-at c =
    limit_at c.args.modules.now c.loop-given.given-index c.given-item.result c.loop-given.counts.types c.loop-given.counts.values c.as_str.result.now c.deref.result.now c.in-Err.fault c.requires.few c.loop-given-test.true c.given-item.is c.as_str.ensures.value c.deref.ensures.value
    c.loop-given.invariant.types c.loop-given.invariant.values c.in-Err.ensures.at
