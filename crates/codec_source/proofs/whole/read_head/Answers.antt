use Rattle.std.proofs.Common.{◌∷◌, ap, ◌∙◌}
use Rattle.codec_source.proofs.Heads.{head_opened, opened_stops, header_stops}
use Rattle.codec_source.proofs.whole.read_head.Goals as goal

pub returns-in-Ok-clause-ok : goal.returns-in-Ok-clause-ok
returns-in-Ok-clause-ok g c = λ r fs.
    let h = c.in-Some-Head-default in
    head_opened r g.S.Source.takes g.met.S.Source.lemma_one_answer c.args.steps.now h.following.now h.head fs (h.ensures.cases.0 ∙ ap (λ q. q ∷ h.following.now) h.field-0-0-is) c.args.source.now c.open.new.self c.in-Ok.ensures.ok

pub returns-in-Ok-clause-on : goal.returns-in-Ok-clause-on
returns-in-Ok-clause-on g c = λ r fs e z s.
    let h = c.in-Some-Head-default in
    opened_stops r g.S.Source.takes (λ a q b. g.S.Source.refuses a q b e) c.args.steps.now h.following.now h.head fs (h.ensures.cases.0 ∙ ap (λ q. q ∷ h.following.now) h.field-0-0-is) c.args.source.now c.open.new.self z c.in-Ok.ensures.ok s

pub returns-in-Err-clause-stopped : goal.returns-in-Err-clause-stopped
returns-in-Err-clause-stopped g c = λ other r fs.
    let h = c.in-Some-Head-default in
    header_stops r g.S.Source.takes (λ a q b. g.S.Source.refuses a q b c.in-Err.fault) c.args.steps.now h.following.now h.head fs (h.ensures.cases.0 ∙ ap (λ q. q ∷ h.following.now) h.field-0-0-is) c.args.source.now c.open.new.self (c.in-Err.ensures.err other) (c.in-Err.ensures.left other)
