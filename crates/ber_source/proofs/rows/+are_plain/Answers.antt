use Rattle.std.proofs.Common.{sym, subst}
use Rattle.ber_source.specs.Rows.{ArePlain, and_component, no_component}
use Rattle.ber_source.proofs.rows.+are_plain.Goals as goal

pub returns-else-not-is_plain : goal.returns-else-not-is_plain
returns-else-not-is_plain t c = λ yes.
    subst (ArePlain c.args.code.now c.args.own.now) (sym c.in-Some.ensures) (and_component (c.is_plain.ensures c.if-not-is_plain.false) (c.are_plain.ensures yes))

pub returns-in-None : goal.returns-in-None
returns-in-None t c = λ yes. subst (ArePlain c.args.code.now c.args.own.now) (sym (c.is_end.ensures yes)) no_component
