use Rattle.std.proofs.Common.{◌∷◌, [], sym, subst}
use Rattle.std.specs.Prelude.{length}
use Rattle.codec_code.specs.Routines.{routine_at, table_of}
use Rattle.codec_source.specs.proving.Frames.{Before, BeforeStops, Goes, Never, Same}
use Rattle.codec_source.proofs.Running.{less_ended}
use Rattle.codec_source.proofs.machine.turn_on.Goals as goal

pub returns-in-Ok-clause-ok : goal.returns-in-Ok-clause-ok
returns-in-Ok-clause-ok g c =
    let r = routine_at c.args.code.now in
    let fs = c.args.frames.now.items in
    subst (λ q. Same (Before r g.S.Source.takes q fs c.args.source.now) (Goes r g.S.Source.takes fs c.read_end.new.source)) (sym (c.is_end.ensures c.if-is_end.true)) (c.in-Ok.ensures.ok r fs)

pub returns-in-Ok-clause-less : goal.returns-in-Ok-clause-less
returns-in-Ok-clause-less g c = less_ended (length (table_of c.args.code.now)) (g.S.Source.budget c.args.source.now) (g.S.Source.budget c.read_end.new.source) c.args.frames.now.items c.args.frame c.in-Ok.ensures.budget

pub returns-in-Ok-clause-on : goal.returns-in-Ok-clause-on
returns-in-Ok-clause-on g c = λ e z s.
    let r = routine_at c.args.code.now in
    let fs = c.args.frames.now.items in
    subst (λ q. BeforeStops r g.S.Source.takes (λ a q b. g.S.Source.refuses a q b e) q fs c.args.source.now z) (sym (c.is_end.ensures c.if-is_end.true)) (c.in-Ok.ensures.on r fs e z s)

pub returns-in-Err-clause-err : goal.returns-in-Err-clause-err
returns-in-Err-clause-err g c = λ other.
    let r = routine_at c.args.code.now in
    let fs = c.args.frames.now.items in
    subst (λ q. Never (Before r g.S.Source.takes q fs c.args.source.now)) (sym (c.is_end.ensures c.if-is_end.true)) (c.in-Err.ensures.err other r fs)

pub returns-in-Err-clause-stopped : goal.returns-in-Err-clause-stopped
returns-in-Err-clause-stopped g c = λ other.
    let r = routine_at c.args.code.now in
    let fs = c.args.frames.now.items in
    subst (λ q. BeforeStops r g.S.Source.takes (λ a q b. g.S.Source.refuses a q b c.in-Err.fault) q fs c.args.source.now c.read_end.new.source) (sym (c.is_end.ensures c.if-is_end.true)) (c.in-Err.ensures.stopped other r fs)
