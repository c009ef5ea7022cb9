use Rattle.std.proofs.Common.{rules, subst, [], ◌∷◌}
use Rattle.asn_base.specs.Abstract.{abstract}
use Rattle.codec_code.specs.Events.{leaves_out}
use Rattle.codec_machine.specs.Frames.{LeavesOut, WritesIt}
use Rattle.codec_machine.proofs.Places.{match_none, match_some}
use Rattle.codec_machine.proofs.InPlace as r
use Rattle.codec_machine.proofs.in_place.field_at_once.Goals as goal

pub returns-in-Err-clause-refused : goal.returns-in-Err-clause-refused
returns-in-Err-clause-refused g c = r.field_refused c.args.field c.in-Err.ensures.refused

pub returns-in_ok-leave_out-in-None-clause-ok : goal.returns-in_ok-leave_out-in-None-clause-ok
returns-in_ok-leave_out-in-None-clause-ok g c =
    let s = c.args.code.now in
    let t = c.args.id.index in
    let v = abstract c.args.value.now in
    r.left_out_taken s g.B.Backend.adds t v c.args.backend.now c.leave_out.new.self c.args.field
    (match_none (λ w. WritesIt s t c.args.field v (abstract w.now)) c.in-Ok.written c.in-Ok.ensures.ok c.in-None.is)
    (subst (λ q. g.B.Backend.adds c.args.backend.now (leaves_out q ∷ []) c.leave_out.new.self) c.has_default.ensures c.in_ok-leave_out-in-None.ensures)

pub returns-in-Ok-value_at_once-clause-ok : goal.returns-in-Ok-value_at_once-clause-ok
returns-in-Ok-value_at_once-clause-ok g c =
    let s = c.args.code.now in
    let t = c.args.id.index in
    let v = abstract c.args.value.now in
    let w = abstract c.in-Some.component.now in
    let a = c.args.backend.now in
    let b = c.value_at_once.new.backend in
    let writes = match_some (LeavesOut s t c.args.field v) (λ w. WritesIt s t c.args.field v (abstract w.now)) c.in-Ok.written c.in-Some.component c.in-Ok.ensures.ok c.in-Some.is in
    r.field_done s g.B.Backend.adds t v a b c.in-Ok-value_at_once.taken c.args.field w writes c.in-Ok-value_at_once.ensures.ok

pub returns-in-Err-value_at_once-clause-refused : goal.returns-in-Err-value_at_once-clause-refused
returns-in-Err-value_at_once-clause-refused g c =
    let s = c.args.code.now in
    let t = c.args.id.index in
    let v = abstract c.args.value.now in
    r.written_refused c.args.field (abstract c.in-Some.component.now)
    (match_some (LeavesOut s t c.args.field v) (λ w. WritesIt s t c.args.field v (abstract w.now)) c.in-Ok.written c.in-Some.component c.in-Ok.ensures.ok c.in-Some.is)
    c.in-Err-value_at_once.ensures.refused
