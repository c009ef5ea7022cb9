use Rattle.std.proofs.Common.{◌∙◌, ap, ◌++◌, ◌∷◌, []}
use Rattle.std.specs.Prelude.{None}
use Rattle.ber_reader.specs.Opened.{after_part}
use Rattle.ber_reader.proofs.Plain.{on_ok}
use Rattle.ber_reader.proofs.Opened.{changed, last_below}
use Rattle.ber_reader.proofs.open.pass.Goals as goal

pub returns-in-Some : goal.returns-in-Some
returns-in-Some c = λ few.
    let o = c.in-Some.last in
    let n = c.next.ensures (last_below 18446744073709551615 c.args.list.now.items c.pop.new.self.items o c.in-Some.ensures.items few) in
    on_ok c.push_open.result (λ e. e ∙ ap (λ q. c.pop.new.self.items ++ record { ty = o.ty; part = None; read = q } ∷ []) n ∙ changed after_part c.args.list.now.items c.pop.new.self.items o c.in-Some.ensures.items) c.push_open.ensures
