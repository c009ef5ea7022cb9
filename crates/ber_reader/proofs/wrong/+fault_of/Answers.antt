use Rattle.std.proofs.Common.{arith, ◌<◌, subst}
use Rattle.asn_base.specs.Typed.{nodes}
use Rattle.views.specs.Tree.{value_of}
use Rattle.ber_reader.specs.Judged.{kind_at}
use Rattle.ber_reader.proofs.Judging.{part_less, is_wrong, judged_itself, judged_within}
use Rattle.ber_reader.proofs.wrong.+fault_of.Goals as goal

pub fault_of-requires : goal.fault_of-requires
fault_of-requires t c =
    let q = part_less (kind_at c.args.code.now c.args.id.index) (value_of c.args.value.now) c.in-Some.ensures in
    (subst (λ n. nodes (value_of c.in-Some.wrong.value) < n) c.decreases q, omega (arith, q, c.requires))

pub returns-in-Some-clause-judged : goal.returns-in-Some-clause-judged
returns-in-Some-clause-judged t c = λ n. judged_within c.in-Some.ensures (c.fault_of.ensures.judged (is_wrong c.in-Some.ensures))

pub returns-in-None-clause-judged : goal.returns-in-None-clause-judged
returns-in-None-clause-judged t c = λ n. judged_itself n c.in-None.ensures c.own_fault.ensures.own
