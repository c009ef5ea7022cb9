use Rattle.ber_reader.proofs.Judging.{element_few, element_found, elements_all, elements_begin, elements_end, elements_more}
use Rattle.ber_reader.proofs.wrong.wrong_element.Goals as goal

pub loop-i-init : goal.loop-i-init
loop-i-init c = elements_begin c.args.members c.requires

pub if_wrong-requires : goal.if_wrong-requires
if_wrong-requires c = element_few _ _ _ c.in-Some.ensures.steps c.loop-i.invariant

pub returns-in-Some-if_wrong : goal.returns-in-Some-if_wrong
returns-in-Some-if_wrong c = element_found _ _ _ c.in-Some.ensures.steps c.in-Some-if_wrong.ensures c.loop-i.invariant

pub loop-i-preserved : goal.loop-i-preserved
loop-i-preserved c = elements_more _ _ _ c.in-Some.ensures.steps c.in-None-if_wrong.ensures c.loop-i.invariant

pub returns-in-None : goal.returns-in-None
returns-in-None c = elements_end c.in-None.ensures.steps.0 c.loop-i.invariant

pub returns : goal.returns
returns c = elements_all _ c.member_count-count.ensures c.loop-i-test.false c.loop-i.invariant
