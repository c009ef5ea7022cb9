use Rattle.std.proofs.Common.{◌∷◌, sym, ap, subst, ◌∙◌}
use Rattle.codec_code.specs.Routines.{routine_at}
use Rattle.codec_source.specs.proving.Wholes.{ReadsOn, not_once}
use Rattle.codec_source.proofs.Smalls.{elements_next, sorted_elements_next}
use Rattle.codec_source.proofs.whole.read_next.Goals as goal

pub returns-in-Ok-read_element-clause-ok : goal.returns-in-Ok-read_element-clause-ok
returns-in-Ok-read_element-clause-ok g c =
    let r = routine_at c.args.code.now in
    let d = c.in-Some-Each-default in
    let e = d.ensures.cases.0 ∙ ap (λ q. q ∷ d.field-0-1.now) d.field-0-0-is in
    subst (λ q. ReadsOn r g.S.Source.takes q q c.args.source.now c.read_element.new.source) (sym e) (elements_next r g.S.Source.takes c.in-Ok-read_element.ensures.ok)

pub returns-in-Ok-read_element-2-clause-ok : goal.returns-in-Ok-read_element-2-clause-ok
returns-in-Ok-read_element-2-clause-ok g c =
    let r = routine_at c.args.code.now in
    let d = c.in-Some-EachSorted-default in
    let e = d.ensures.cases.0 ∙ ap (λ q. q ∷ d.field-0-1.now) d.field-0-0-is in
    subst (λ q. ReadsOn r g.S.Source.takes q q c.args.source.now c.read_element-in-Some-EachSorted-default.new.source) (sym e) (sorted_elements_next r g.S.Source.takes c.in-Ok-read_element-2.ensures.ok)

pub returns-in_default-clause-ok : goal.returns-in_default-clause-ok
returns-in_default-clause-ok g c = not_once
