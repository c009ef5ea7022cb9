use Rattle.std.proofs.Common.{ap, ◌∙◌, ◌++◌, ◌∷◌, []}
use Rattle.ber_reader.specs.Opened.{entered}
use Rattle.ber_reader.proofs.Plain.{on_ok}
use Rattle.ber_reader.proofs.Opened.{changed}
use Rattle.ber_reader.proofs.open.enter.Goals as goal

pub returns-in-Some : goal.returns-in-Some
returns-in-Some c =
    let o = c.in-Some.last in
    on_ok c.push_open.result (λ e. e ∙ ap (λ q. c.pop.new.self.items ++ q ∷ []) c.entered.ensures ∙ changed entered c.args.list.now.items c.pop.new.self.items o c.in-Some.ensures.items) c.push_open.ensures
