use Rattle.std.proofs.Common.{◌∷◌, ap, ◌∙◌}
use Rattle.asn_base.specs.Abstract.{abstract}
use Rattle.codec_machine.proofs.OpenRows as o
use Rattle.codec_machine.proofs.sequence.take_sequence.Goals as goal

pub returns-in_ok-close_row-in-Some-End-default-clause-ok : goal.returns-in_ok-close_row-in-Some-End-default-clause-ok
returns-in_ok-close_row-in-Some-End-default-clause-ok g c =
    let h = c.in-Some-End-default in
    o.sequence_ended g.B.Backend.opened c.in_ok-row.row c.args.rest.code.now g.B.Backend.adds c.args.rest.id.index (abstract c.args.rest.value.now) c.args.head c.args.rest.steps.now
    c.in-Ok.left.now c.args.backend.now c.open_row.new.self c.take_components.new.backend c.close_row.new.self
    h.after.now (h.ensures ∙ ap (λ q. q ∷ h.after.now) h.field-0-0-is) c.requires c.in_ok-row.ensures c.in-Ok.ensures.ok c.in_ok-close_row-in-Some-End-default.ensures

pub returns-in_ok-keep_row-in_default-clause-ok : goal.returns-in_ok-keep_row-in_default-clause-ok
returns-in_ok-keep_row-in_default-clause-ok g c =
    o.sequence_stopped g.B.Backend.opened c.in_ok-row.row c.args.rest.code.now g.B.Backend.adds c.args.rest.id.index (abstract c.args.rest.value.now) c.args.head c.args.rest.steps.now
    c.in-Ok.left.now c.args.backend.now c.open_row.new.self c.take_components.new.backend c.keep_row.new.self
    c.requires c.in_ok-row.ensures c.in-Ok.ensures.ok c.in_ok-keep_row-in_default.ensures

pub returns-in-Err-clause-refused : goal.returns-in-Err-clause-refused
returns-in-Err-clause-refused g c =
    o.sequence_refused c.args.rest.code.now c.args.rest.id.index (abstract c.args.rest.value.now) c.args.head c.args.rest.steps.now c.in-Err.fault
    c.in-Err.ensures.refused
