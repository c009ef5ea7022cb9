use Rattle.std.proofs.Common.{refl}
use Rattle.ber_source.proofs.Elements.{either, plain_header}
use Rattle.ber_source.proofs.rows.component_next.Goals as goal

pub component_by_kind-requires : goal.component_by_kind-requires
component_by_kind-requires g c = λ lifetimes.
    let h = plain_header c.args.field c.in-Leaf.ensures.0 c.requires.plain in
    ((refl, tt), (c.requires.suits, (h.0, (h.1, (c.requires.plain.bare, c.requires.short)))))

pub returns-in-Ok-clause-ok : goal.returns-in-Ok-clause-ok
returns-in-Ok-clause-ok g c =
    either c.in-Ok.then (λ e. e) (λ a v. record { header = c.in-Leaf.head; kind = c.in-Leaf.kind; routine = c.in-Leaf.ensures.0; is_read = v }) c.in-Ok.ensures.ok
