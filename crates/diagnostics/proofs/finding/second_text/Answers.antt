use Rattle.diagnostics.proofs.Found.{module_again, module_only, module_second, second_there}
use Rattle.diagnostics.proofs.finding.second_text.Goals as goal

pub returns-then-start-at : goal.returns-then-start-at
returns-then-start-at c =
    module_second c.args.texts.now c.args.name.now c.args.first c.in-Some.second c.in_ok-start-in-Some.start c.args.at
    c.text_at.result.now c.requires
    (second_there c.args.texts.now c.args.name.now c.args.first c.next_number-after.result c.in_ok-second.field-0
    c.in-Some.second c.next_number-after.ensures c.in_ok-second.ensures c.in-Some.is)
    c.text_at.ensures c.in_ok-start-in-Some.ensures c.if-start-at.true

pub returns-else-start-at : goal.returns-else-start-at
returns-else-start-at c =
    module_again c.args.texts.now c.args.name.now c.args.first c.in-Some.second c.in_ok-start-in-Some.start c.args.at
    c.text_at.result.now c.requires
    (second_there c.args.texts.now c.args.name.now c.args.first c.next_number-after.result c.in_ok-second.field-0
    c.in-Some.second c.next_number-after.ensures c.in_ok-second.ensures c.in-Some.is)
    c.text_at.ensures c.in_ok-start-in-Some.ensures c.if-start-at.false

pub returns-in-None : goal.returns-in-None
returns-in-None c =
    module_only c.args.texts.now c.args.name.now c.args.at c.args.first c.next_number-after.result c.in_ok-second.field-0
    c.requires c.next_number-after.ensures c.in_ok-second.ensures c.in-None.is
