use Rattle.std.proofs.Common.{ap, ◌∙◌}
use Rattle.ber_reader.specs.Opened.{after_part, on_last}
use Rattle.ber_reader.proofs.Plain.{on_ok}
use Rattle.ber_reader.proofs.Opened.{front_below, left_over}
use Rattle.ber_reader.proofs.open.leave.Goals as goal

pub returns-in-Some : goal.returns-in-Some
returns-in-Some c = λ few.
    on_ok c.pass.result (λ e. e ∙ ap (on_last after_part) (left_over c.args.list.now.items c.pop.new.self.items c.in-Some.field-0 c.in-Some.ensures.items))
    (c.pass.ensures (front_below 18446744073709551615 c.args.list.now.items c.pop.new.self.items c.in-Some.field-0 c.in-Some.ensures.items few))
