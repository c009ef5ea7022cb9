use Rattle.std.proofs.Common.{◌++◌, ◌∷◌, [], refl, subst}
use Rattle.codec_code.specs.Routines.{routine_at, table_of}
use Rattle.std.specs.Prelude.{IfOk, Some, length}
use Rattle.decode_faults.specs.declared.read_fault.ReadFault.{ReadFault}
use Rattle.codec_source.specs.proving.Frames.{Goes, GoesStop, IfRefused, IfRefusedWith, Never, Same, ThenBefore, ThenBeforeStops}
use Rattle.codec_source.proofs.Running.{less_whole}
use Rattle.codec_source.proofs.Smalls.{small_called, small_called_stops, less_budget}
use Rattle.codec_source.proofs.machine.call.Goals as goal

pub returns-in-Ok-true-clause-ok : goal.returns-in-Ok-true-clause-ok
returns-in-Ok-true-clause-ok g c = small_called (routine_at c.args.code.now) g.S.Source.takes g.met.S.Source.lemma_one_answer c.args.id c.args.following.now c.args.frames.now.items _ c.args.source.now c.read_value.new.source refl (c.in-Ok-true.ensures.taken c.in-Ok-true.field-0-test)

pub returns-in-Ok-true-clause-less : goal.returns-in-Ok-true-clause-less
returns-in-Ok-true-clause-less g c =
    let v = c.in-Ok-true.ensures.taken c.in-Ok-true.field-0-test in
    less_whole (length (table_of c.args.code.now)) (g.S.Source.budget c.args.source.now) (g.S.Source.budget c.read_value.new.source) (length c.args.following.now) c.args.frames.now.items _ (less_budget (routine_at c.args.code.now) g.S.Source.takes g.S.Source.budget g.met.S.Source.spends g.met.S.Source.keeps v) refl

pub returns-in-Ok-true-clause-on : goal.returns-in-Ok-true-clause-on
returns-in-Ok-true-clause-on g c = λ e z s. small_called_stops (routine_at c.args.code.now) g.S.Source.takes (λ a q b. g.S.Source.refuses a q b e) c.args.id c.args.following.now c.args.frames.now.items _ c.args.source.now c.read_value.new.source z refl (c.in-Ok-true.ensures.taken c.in-Ok-true.field-0-test) s

pub returns-in-Ok-false-clause-ok : goal.returns-in-Ok-false-clause-ok
returns-in-Ok-false-clause-ok g c =
    let r = routine_at c.args.code.now in
    let q = c.call_by_questions in
    subst (λ x. IfOk q.result (λ f. Same (ThenBefore r g.S.Source.takes (Some c.args.id) c.args.following.now c.args.frames.now.items x) (Goes r g.S.Source.takes (q.new.frames.items ++ f ∷ []) q.new.source)))
    (c.in-Ok-false.ensures.same c.in-Ok-false.field-0-test) q.ensures.ok

pub returns-in-Ok-false-clause-err : goal.returns-in-Ok-false-clause-err
returns-in-Ok-false-clause-err g c =
    let q = c.call_by_questions in
    subst (λ x. IfRefused q.result (Never (ThenBefore (routine_at c.args.code.now) g.S.Source.takes (Some c.args.id) c.args.following.now c.args.frames.now.items x)))
    (c.in-Ok-false.ensures.same c.in-Ok-false.field-0-test) q.ensures.err

pub returns-in-Ok-false-clause-on : goal.returns-in-Ok-false-clause-on
returns-in-Ok-false-clause-on g c =
    let r = routine_at c.args.code.now in
    let q = c.call_by_questions in
    subst (λ x. IfOk q.result (λ f. (e : ReadFault) (z : g.row.S.Denot) → GoesStop r g.S.Source.takes (λ a q b. g.S.Source.refuses a q b e) (q.new.frames.items ++ f ∷ []) q.new.source z → ThenBeforeStops r g.S.Source.takes (λ a q b. g.S.Source.refuses a q b e) (Some c.args.id) c.args.following.now c.args.frames.now.items x z))
    (c.in-Ok-false.ensures.same c.in-Ok-false.field-0-test) q.ensures.on

pub returns-in-Ok-false-clause-stopped : goal.returns-in-Ok-false-clause-stopped
returns-in-Ok-false-clause-stopped g c =
    let q = c.call_by_questions in
    subst (λ x. IfRefusedWith q.result (λ e. ThenBeforeStops (routine_at c.args.code.now) g.S.Source.takes (λ a q b. g.S.Source.refuses a q b e) (Some c.args.id) c.args.following.now c.args.frames.now.items x q.new.source))
    (c.in-Ok-false.ensures.same c.in-Ok-false.field-0-test) q.ensures.stopped
