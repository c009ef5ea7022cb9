use Rattle.std.proofs.Common.{sym, ◌∙◌}
use Rattle.constraints.proofs.Letters.{one_character, two_characters}
use Rattle.constraints.proofs.characters.character.Goals as goal

pub returns-in-None-next : goal.returns-in-None-next
returns-in-None-next c =
    one_character c.args.text.now c.next.new.self.rest.now c.in-Some.first c.from.result
    c.in-Ok.ensures.cases.1
    (sym (c.chars-all.ensures.rest ∙ c.in-Ok.ensures.cases.0) ∙ c.in-Some.ensures.steps.0) c.in-None-next.ensures.steps.0.0 c.from.ensures

pub returns-in-Some-next : goal.returns-in-Some-next
returns-in-Some-next c =
    two_characters c.args.text.now c.next.new.self.rest.now c.next-in-Some.new.self.rest.now c.in-Some.first c.in-Some-next.field-0
    (sym (c.chars-all.ensures.rest ∙ c.in-Ok.ensures.cases.0) ∙ c.in-Some.ensures.steps.0) c.in-Some-next.ensures.steps.0
