use Rattle.std.proofs.Common.{◌∙◌}
use Rattle.std.specs.Prelude.{Some}
use Rattle.ber_reader.specs.Opened.{with_part}
use Rattle.ber_reader.proofs.Plain.{on_ok}
use Rattle.ber_reader.proofs.Opened.{changed}
use Rattle.ber_reader.proofs.open.name_part.Goals as goal

pub returns-in-Some : goal.returns-in-Some
returns-in-Some c = on_ok c.push_open.result (λ e. e ∙ changed (with_part (Some c.args.part)) c.args.list.now.items c.pop.new.self.items c.in-Some.last c.in-Some.ensures.items) c.push_open.ensures
