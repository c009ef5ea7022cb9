use Rattle.std.proofs.Common.{◌∷◌, ap, ◌∙◌}
use Rattle.codec_code.specs.Routines.{routine_at}
use Rattle.codec_source.specs.proving.Wholes.{not_once}
use Rattle.codec_source.proofs.Rows.{either, steps_asked, steps_into}
use Rattle.codec_source.proofs.machine.read_rows.Goals as goal

pub returns-in-Ok-clause-ok : goal.returns-in-Ok-clause-ok
returns-in-Ok-clause-ok g c =
    let r = routine_at c.args.code.now in
    let d = c.in-Some-Each-default in
    let e = d.ensures.cases.0 ∙ ap (λ q. q ∷ d.field-0-1.now) d.field-0-0-is in
    either c.in-Ok.left (λ v. steps_asked r g.S.Source.takes e v) (λ a v. steps_into r g.S.Source.takes d.id d.field-0-1.now e v) c.in-Ok.ensures.ok

pub returns-in_default-clause-ok : goal.returns-in_default-clause-ok
returns-in_default-clause-ok g c = not_once
