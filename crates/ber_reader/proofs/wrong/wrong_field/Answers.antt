use Rattle.std.proofs.Common.{◌∙◌, ap}
use Rattle.views.specs.Tree.{component}
use Rattle.ber_reader.proofs.Judging.{fields_all, fields_begin, fields_more, fields_past, field_few, field_found}
use Rattle.ber_reader.proofs.wrong.wrong_field.Goals as goal

pub loop-i-init : goal.loop-i-init
loop-i-init c = fields_begin c.args.members

pub wrong_at-requires : goal.wrong_at-requires
wrong_at-requires c = λ v. field_few v c.loop-i-test.true c.take_component-found.ensures.found c.requires c.loop-i.invariant

pub returns-then-i-gt65535 : goal.returns-then-i-gt65535
returns-then-i-gt65535 c = fields_past c.args.id.index c.lemma_invariant.ensures c.if-i-gt65535.true c.loop-i.invariant

pub returns-in-Some : goal.returns-in-Some
returns-in-Some c = field_found c.loop-i-test.true c.take_component-found.ensures.found c.in-Some.ensures c.loop-i.invariant

pub loop-i-preserved : goal.loop-i-preserved
loop-i-preserved c =
    fields_more c.loop-i-test.true c.take_component-found.ensures.found
    (λ j l. ap (λ q. component q j) c.take_component-found.ensures.left ∙ c.lemma_taken_members.ensures.later c.loop-i.i j c.loop-i.left l)
    c.in-None.ensures c.loop-i.invariant

pub returns : goal.returns
returns c = fields_all c.loop-i-test.false c.loop-i.invariant
