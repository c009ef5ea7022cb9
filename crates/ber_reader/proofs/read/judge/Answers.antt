use Rattle.std.proofs.Common.{◌≤◌, sym, subst}
use Rattle.asn_base.specs.Typed.{IsValueWithoutNodes, nodes}
use Rattle.views.specs.Tree.{value_of}
use Rattle.ber_reader.specs.Judged.{IsJudged}
use Rattle.ber_reader.proofs.Plain.{fails}
use Rattle.ber_reader.proofs.read.judge.Goals as goal

pub fault_of-requires : goal.fault_of-requires
fault_of-requires c = subst (λ q. nodes (value_of q) ≤ 16777216) (sym c.top-top.ensures) c.requires.nodes

pub returns-then-is_shown_value-clause-ok : goal.returns-then-is_shown_value-clause-ok
returns-then-is_shown_value-clause-ok c =
    subst (λ q. IsValueWithoutNodes c.args.code.now c.args.id.index (value_of q)) c.top-top.ensures (c.is_shown_value.ensures.0 c.if-is_shown_value.true)

pub returns-clause-err : goal.returns-clause-err
returns-clause-err c w =
    fails c.is_shown_value.result c.if-is_shown_value.false c.is_shown_value.ensures
    (subst (λ q. IsValueWithoutNodes c.args.code.now c.args.id.index (value_of q)) (sym c.top-top.ensures) w.shaped)

pub returns-clause-judged : goal.returns-clause-judged
returns-clause-judged c =
    subst (λ q. IsJudged c.args.code.now c.args.id.index (value_of q) c.fault_of.result) c.top-top.ensures
    (c.fault_of.ensures.judged (λ w. fails c.is_shown_value.result c.if-is_shown_value.false c.is_shown_value.ensures w.shaped))
