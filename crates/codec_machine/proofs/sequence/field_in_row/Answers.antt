use Rattle.std.proofs.Common.{rules, subst, [], ◌∷◌}
use Rattle.asn_base.specs.Abstract.{abstract}
use Rattle.codec_code.specs.Events.{leaves_out}
use Rattle.codec_machine.specs.Frames.{LeavesOut, WritesIt}
use Rattle.codec_machine.specs.OpenRows.{Carries}
use Rattle.codec_machine.proofs.Places.{match_none, match_some}
use Rattle.codec_machine.proofs.InPlace as r
use Rattle.codec_machine.proofs.sequence.field_in_row.Goals as goal

pub returns-in-Err-clause-refused : goal.returns-in-Err-clause-refused
returns-in-Err-clause-refused g c = r.field_refused c.args.field c.in-Err.ensures.refused

pub returns-in_ok-leave_out_in_row-in-None-clause-ok : goal.returns-in_ok-leave_out_in_row-in-None-clause-ok
returns-in_ok-leave_out_in_row-in-None-clause-ok g c =
    let s = c.args.rest.code.now in
    let t = c.args.rest.id.index in
    let v = abstract c.args.rest.value.now in
    let a = c.args.backend.now in
    let b = c.leave_out_in_row.new.self in
    r.left_out_taken s (Carries g.B.Backend.opened c.args.row) t v a b c.args.field
    (match_none (λ w. WritesIt s t c.args.field v (abstract w.now)) c.in-Ok.written c.in-Ok.ensures.ok c.in-None.is)
    (subst (λ q. Carries g.B.Backend.opened c.args.row a (leaves_out q ∷ []) b) c.has_default.ensures c.in_ok-leave_out_in_row-in-None.ensures)

pub returns-in-Ok-value_in_row-clause-ok : goal.returns-in-Ok-value_in_row-clause-ok
returns-in-Ok-value_in_row-clause-ok g c =
    let s = c.args.rest.code.now in
    let t = c.args.rest.id.index in
    let v = abstract c.args.rest.value.now in
    let w = abstract c.in-Some.component.now in
    let a = c.args.backend.now in
    let b = c.value_in_row.new.backend in
    let writes = match_some (LeavesOut s t c.args.field v) (λ w. WritesIt s t c.args.field v (abstract w.now)) c.in-Ok.written c.in-Some.component c.in-Ok.ensures.ok c.in-Some.is in
    r.field_done s (Carries g.B.Backend.opened c.args.row) t v a b c.in-Ok-value_in_row.taken c.args.field w writes c.in-Ok-value_in_row.ensures.ok

pub returns-in-Err-value_in_row-clause-refused : goal.returns-in-Err-value_in_row-clause-refused
returns-in-Err-value_in_row-clause-refused g c =
    let s = c.args.rest.code.now in
    let t = c.args.rest.id.index in
    let v = abstract c.args.rest.value.now in
    r.written_refused c.args.field (abstract c.in-Some.component.now)
    (match_some (LeavesOut s t c.args.field v) (λ w. WritesIt s t c.args.field v (abstract w.now)) c.in-Ok.written c.in-Some.component c.in-Ok.ensures.ok c.in-Some.is)
    c.in-Err-value_in_row.ensures.refused
