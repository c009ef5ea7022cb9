use Rattle.std.proofs.Common.{arith, ◌≡◌, ℕ, List, [], length, ap, refl, subst, sym, ◌∙◌}
use Rattle.std.specs.Prelude.{None, Result, Ok, Err, IfOk}
use Rattle.asn_base.specs.Types.{Resolved}
use Rattle.asn_base.specs.declared.schema.TypeId.{TypeId}
use Rattle.codec_code.specs.Routines.{routine_at}
use Rattle.codec_source.specs.Reading.{Reads}
use Rattle.octet_answers.specs.States.{Token, front}
use Rattle.ber_reader.specs.Followed.{Led, led, Follows, number_or}
use Rattle.ber_reader.specs.Messages.{IsRead, budget_of}
use Rattle.ber_reader.specs.Paths.{BeginsBefore, begun_in}
use Rattle.ber_reader.specs.declared.open.OpenValue.{OpenValue}
use Rattle.ber_reader.proofs.Led.{never_led, number_is, only_led}
use Rattle.ber_reader.proofs.stop.begun_before.Goals as goal

numbered : {E : Type 0} (r : Result ℕ E) (path : List OpenValue) (all ts : List Token) (m : ℕ) → all ≡ ts → BeginsBefore path [] ts m → IfOk r (λ n. n ≡ m) → IfOk r (BeginsBefore path [] all)
numbered (Ok n) path all ts m e b i = subst (λ q. BeginsBefore path [] q n) (sym e) (subst (BeginsBefore path [] ts) (sym i) b)
numbered (Err f) path all ts m e b i = i

pub returns-in-Err : goal.returns-in-Err
returns-in-Err c = λ r few. let l = c.in-Err.ensures.err.1 in absurd (omega (arith, l, few))

pub returns-in-Ok-read : goal.returns-in-Ok-read
returns-in-Ok-read c = λ q few.
    let s = c.args.code.now in
    let t = c.args.id in
    let o = c.args.octets.now in
    let p = c.args.path.now in
    let z = c.read.new.source in
    let start = c.in-Ok.ensures.ok ∙ ap (λ b. led (front s o b) p None) (c.most_values-most.ensures few) in
    let h = subst (λ x. Reads (λ u. routine_at s u) Follows t x z) start c.in-Ok-read.ensures.ok in
    numbered c.number.result p q.last.emitted z.state.emitted (number_or (begun_in z.state.emitted) z.before) (ap (λ x. x.emitted) (only_led start c.in-Ok-read.ensures.only q)) (number_is refl h) c.number.ensures

pub returns : goal.returns
returns c = λ q few.
    let s = c.args.code.now in
    let o = c.args.octets.now in
    let p = c.args.path.now in
    let start = c.in-Ok.ensures.ok ∙ ap (λ b. led (front s o b) p None) (c.most_values-most.ensures few) in
    absurd (never_led start (c.in-Err-read.ensures.err (c.is_memory.ensures c.if-is_memory.false)) q)
