use Rattle.std.proofs.Common.{◌<◌, length, Some, refl, sym, ap, ◌∙◌}
use Rattle.std.proofs.lemmas.Option.{slice_get_read}
use Rattle.names.specs.proving.Rows.{assignment_at, header_at}
use Rattle.resolve.proofs.linked.circular_at.Goals as goal

pub returns-in-Ok-clause-fault : goal.returns-in-Ok-clause-fault
returns-in-Ok-clause-fault c =
    let g = c.index-assignments-written.result in
    let h = c.index-headers-assignment.result in
    let k = c.args.written.now.assignment in
    let placed : g.module < length c.args.headers.now = c.requires.placed k g (slice_get_read c.args.assignments.now (length c.args.assignments.now) k g refl c.requires.assigned c.index-assignments-written.is) in (
      g.module,
      h.default,
      assignment_at c.args.assignments.now k g c.requires.assigned c.index-assignments-written.is ∙ ap (λ z. Some (g.module, z)) (sym (c.in-Ok.ensures.name ∙ c.as_str-2.ensures.value)),
      header_at c.args.headers.now g.module h placed c.index-headers-assignment.is ∙ ap (λ z. Some (z, h.default)) (sym (c.in-Ok.ensures.within ∙ c.as_str.ensures.value)),
    )
