use Rattle.std.proofs.Common.{subst}
use Rattle.value_notations.specs.Wrong.{misfit}
use Rattle.trees.specs.Values.{tree_of}
use Rattle.value_notations.specs.Faults.{IsBitAt, IsLeafFault}
use Rattle.typed_values.proofs.fault.leaf_cause.Goals as goal

pub returns-in-NotOfType : goal.returns-in-NotOfType
returns-in-NotOfType c = λ w levels left i os ps M n l k a e f b.
    misfit a e.last (subst (λ x. IsLeafFault k (tree_of l) x) c.in-NotOfType.is f)

pub returns-in-UnknownBit : goal.returns-in-UnknownBit
returns-in-UnknownBit c = λ w levels left i os ps M n l k a e f b. record {
  plain = k;
  is = a;
  opened = ps;
  notation = l;
  last = e;
  such = (subst (λ x. IsLeafFault k (tree_of l) x) c.in-UnknownBit.is f, subst (λ x. IsBitAt l x) c.in-UnknownBit.is b);
}

pub returns-in-Oid : goal.returns-in-Oid
returns-in-Oid c = λ w levels left i os ps M n l k a e f b. record {
  within = c.args.within.now;
  leaf = record {
    plain = k;
    is = a;
    opened = ps;
    notation = l;
    last = e;
    such = subst (λ x. IsLeafFault k (tree_of l) x) c.in-Oid.is f;
  };
}
