use Rattle.std.proofs.Common.{sym, ◌∙◌}
use Rattle.octets.specs.Forms.{is_constructed}
use Rattle.der_check.proofs.Passing.{first_unit, fewest_least}
use Rattle.der_check.proofs.heads.long_inside.Goals as goal

pub returns : goal.returns
returns c =
    let u = c.in-Ok.ensures.ok in
    first_unit c.args.head u (c.same_tag.ensures.0 c.if-not-same_tag.false) (c.is_form.ensures.yes c.if-not-is_form.false)
    (fewest_least u.header c.lemma_shortest_headers.ensures.fewest (u.long ∙ sym c.if-header_len-unit.false ∙ sym (c.header_len.ensures.shortest (is_constructed c.in-Ok.unit.form))))
