use Rattle.std.proofs.Common.{◌≡◌, Some, None, sym, ◌∙◌}
use Rattle.range_ends.proofs.References.{listed_read, some_same}
use Rattle.range_ends.proofs.circle.after.Goals as goal

pub returns-in-None : goal.returns-in-None
returns-in-None c = λ j e.
    let f : None ≡ Some j = sym (listed_read c.args.target.now c.args.at _ _ c.requires.inside c.in-None.is) ∙ e in
    absurd cc

pub returns-in-Some : goal.returns-in-Some
returns-in-Some c = λ j e.
    some_same c.in-Some.next j (sym (listed_read c.args.target.now c.args.at _ _ c.requires.inside c.in-Some.is) ∙ e)
