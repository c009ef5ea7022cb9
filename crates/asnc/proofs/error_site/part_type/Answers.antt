use Rattle.std.proofs.Common.{ap, sym, ◌∙◌}
use Rattle.asnc.specs.Unpacking.{type_in}
use Rattle.asnc.proofs.error_site.part_type.Goals as goal

pub returns-in-Element : goal.returns-in-Element
returns-in-Element c =
    c.element_type.ensures c.in-Element.field-0 ∙ ap (type_in c.args.schema.now c.args.id.index) (sym c.in-Element.is)
