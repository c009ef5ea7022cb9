use Rattle.std.proofs.Common.{arith, rules, refl, ◌≡◌, ℕ, ◌≤◌, [], length, sym, ap, subst, ◌∙◌, inr, append-nil, length-append}
use Rattle.std.specs.Prelude.{Err}
use Rattle.codec_code.specs.Routines.{routine_at}
use Rattle.codec_source.specs.Reading.{Reads}
use Rattle.octet_answers.specs.Answers.{Takes}
use Rattle.ber_reader.specs.Messages.{IsRead, budget_of, too_long, trailing_octets, cut_off, stopped, no_type}
use Rattle.ber_reader.proofs.Plain.{fails, holds, if_ok}
use Rattle.ber_reader.proofs.WholeMessage.{whole_message, at_last, front_message, headed, ends_before, fault_memory, read_of, true_false, none_there}
use Rattle.codec_source.specs.Stopping.{StopsReading}
use Rattle.octet_answers.specs.Unanswered.{Leaves}
use Rattle.ber_source.specs.ViewSink.{GiveTree, IsBuiltOf}
use Rattle.asn_base.specs.Abstract.{AbstractValue}
use Rattle.asn_base.specs.Typed.{IsValueWithoutNodes, ValueIn}
use Rattle.ber_reader.proofs.ByLeaves.{by_leaves}
use Rattle.ber_reader.proofs.Trees.{gives_tree, viewed, viewed_value}
use Rattle.ber_reader.proofs.Kept.{memory_alone, reads_schema, refused_memory}
use Rattle.ber_reader.proofs.Stopped.{ends_too_soon, fault_or, never_stops, not_memory}
use Rattle.decode_faults.specs.declared.read_fault.ReadFault.TheVariants.{Missing, MessageLimit, NotDer, OutsideConstraint, Trailing}
use Rattle.ber_reader.proofs.view.read_view.Goals as goal

pub returns-in-Err-read-clause-missing : goal.returns-in-Err-read-clause-missing
returns-in-Err-read-clause-missing c e =
    let s = c.args.code.now in
    let o = c.args.octets.now in
    let f = c.in-Err-read.fault in
    let m = ap (fault_or Missing) e in
    let h = c.in-Err-read.ensures.stopped (not_memory f m) in
    ends_too_soon s c.args.id o f c.read.new.source m (subst (λ q. StopsReading (λ u. routine_at s u) Takes (λ a q b. Leaves a q b f) c.args.id q c.read.new.source) c.in-Ok.ensures.ok h)

pub returns-in-Err-read-clause-outside : goal.returns-in-Err-read-clause-outside
returns-in-Err-read-clause-outside c e = never_stops c.in-Err-read.fault OutsideConstraint (ap (fault_or OutsideConstraint) e) (λ m. cc) (λ n. n) c.in-Err-read.ensures.stopped

pub returns-in-Err-read-clause-err : goal.returns-in-Err-read-clause-err
returns-in-Err-read-clause-err c memory limit has r =
    let s = c.args.code.now in
    c.in-Err-read.ensures.err memory r.last
    (subst (λ q. Reads (λ u. routine_at s u) Takes c.args.id q r.last) (sym c.in-Ok.ensures.ok) r.reads)

pub returns-then-not-is_at_end-clause-trailing : goal.returns-then-not-is_at_end-clause-trailing
returns-then-not-is_at_end-clause-trailing c e =
    let s = c.args.code.now in
    let r = subst (λ q. Reads (λ u. routine_at s u) Takes c.args.id q c.read.new.source) c.in-Ok.ensures.ok c.in-Ok-read.ensures.ok in
    front_message (c.lemma_read_is_encoded.ensures s c.args.id c.args.octets.now (budget_of (length c.args.octets.now)) c.read.new.source c.lemma_invariant.ensures (holds c.has.result c.if-not-has.false c.has.ensures) c.are_octets.ensures r)
    (fails c.is_at_end.result c.if-not-is_at_end.true c.is_at_end.ensures)

pub returns-then-not-is_at_end-clause-err : goal.returns-then-not-is_at_end-clause-err
returns-then-not-is_at_end-clause-err c memory limit has r =
    let s = c.args.code.now in
    let e = c.in-Ok-read.ensures.only r.last (subst (λ q. Reads (λ u. routine_at s u) Takes c.args.id q r.last) (sym c.in-Ok.ensures.ok) r.reads) in
    fails c.is_at_end.result c.if-not-is_at_end.true c.is_at_end.ensures (ap (λ q. q.here.octets) (sym e) ∙ r.at_end)

pub finished-requires : goal.finished-requires
finished-requires c =
    let s = c.args.code.now in
    let z = c.read.new.source in
    let r = subst (λ q. Reads (λ u. routine_at s u) Takes c.args.id q z) c.in-Ok.ensures.ok c.in-Ok-read.ensures.ok in
    let end = holds c.is_at_end.result c.if-not-is_at_end.false c.is_at_end.ensures in
    let m = whole_message z.emitted (c.lemma_read_is_encoded.ensures s c.args.id c.args.octets.now (budget_of (length c.args.octets.now)) z c.lemma_invariant.ensures (holds c.has.result c.if-not-has.false c.has.ensures) c.are_octets.ensures r)
    end c.in-Ok.ensures.few refl in
    subst (λ q. GiveTree q z.emitted) (sym (reads_schema r)) (gives_tree s c.lemma_invariant.ensures c.args.id.index c.args.octets.now z.emitted m)

pub returns-clause-ok : goal.returns-clause-ok
returns-clause-ok c =
    let s = c.args.code.now in
    let z = c.read.new.source in
    let r = subst (λ q. Reads (λ u. routine_at s u) Takes c.args.id q z) c.in-Ok.ensures.ok c.in-Ok-read.ensures.ok in
    let end = holds c.is_at_end.result c.if-not-is_at_end.false c.is_at_end.ensures in
    let i = c.lemma_read_is_encoded.ensures s c.args.id c.args.octets.now (budget_of (length c.args.octets.now)) z c.lemma_invariant.ensures (holds c.has.result c.if-not-has.false c.has.ensures) c.are_octets.ensures r in
    let m = whole_message z.emitted i end c.in-Ok.ensures.few refl in
    let one : (q : IsRead s c.args.id c.args.octets.now) → q.last ≡ z = λ q. c.in-Ok-read.ensures.only q.last (subst (λ x. Reads (λ u. routine_at s u) Takes c.args.id x q.last) (sym c.in-Ok.ensures.ok) q.reads) in
    if_ok c.finished.result (λ b h. viewed s c.lemma_invariant.ensures c.args.id.index c.args.octets.now b (record { last = z; reads = r; at_end = end }) one (at_last i end) m (subst (λ q. IsBuiltOf q z.emitted b) (reads_schema r) h)) c.finished.ensures.ok

pub returns-clause-only : goal.returns-clause-only
returns-clause-only c =
    if_ok c.finished.result (λ b v w k e.
    let q = c.schema_laws.ensures.says_one c.args.code.now c.args.id.index k v.message.count w v.message.value c.args.octets.now c.lemma_invariant.ensures e v.message.is_encoded in
    (q.0 ∙ sym v.value, q.1 ∙ sym v.skipped)) (returns-clause-ok c)

pub returns-clause-fits : goal.returns-clause-fits
returns-clause-fits c =
    let s = c.args.code.now in
    let t = c.args.id.index in
    let z = c.read.new.source in
    let r = subst (λ q. Reads (λ u. routine_at s u) Takes c.args.id q z) c.in-Ok.ensures.ok c.in-Ok-read.ensures.ok in
    let end = holds c.is_at_end.result c.if-not-is_at_end.false c.is_at_end.ensures in
    let m = whole_message z.emitted (c.lemma_read_is_encoded.ensures s c.args.id c.args.octets.now (budget_of (length c.args.octets.now)) z c.lemma_invariant.ensures (holds c.has.result c.if-not-has.false c.has.ensures) c.are_octets.ensures r)
    end c.in-Ok.ensures.few refl in
    let grow : (t m n : ℕ) (v : AbstractValue) → m ≤ n → ValueIn s m t v → ValueIn s n t v = λ t m n v. c.lemma_levels_grow.ensures s t m n v in
    if_ok c.finished.result (λ b h f l.
    let built = subst (λ q. IsBuiltOf q z.emitted b) (reads_schema r) h in
    let value = by_leaves s c.lemma_invariant.ensures c.lemma_without_groups.ensures grow t m.value m.count c.args.octets.now z.emitted l m.is_encoded m.shown (built.fit f) in
    subst (IsValueWithoutNodes s t) (sym (viewed_value s c.lemma_invariant.ensures t c.args.octets.now b z.emitted m built)) value) c.finished.ensures.ok

pub returns-clause-limit : goal.returns-clause-limit
returns-clause-limit c l = absurd (let f = c.in-Ok.ensures.few in omega (arith, l, f))

pub returns-clause-long : goal.returns-clause-long
returns-clause-long c e = absurd (memory_alone c.finished.result _ c.finished.ensures.err (λ h. cc) e)

pub returns-clause-trailing : goal.returns-clause-trailing
returns-clause-trailing c e = absurd (memory_alone c.finished.result _ c.finished.ensures.err (λ h. cc) e)

pub returns-clause-missing : goal.returns-clause-missing
returns-clause-missing c e = absurd (memory_alone c.finished.result _ c.finished.ensures.err (λ h. cc) e)

pub returns-clause-outside : goal.returns-clause-outside
returns-clause-outside c e = absurd (memory_alone c.finished.result _ c.finished.ensures.err (λ h. cc) e)

pub returns-clause-err : goal.returns-clause-err
returns-clause-err c = refused_memory _ c.finished.result c.finished.ensures.err

pub returns-then-ends_early-clause-read : goal.returns-then-ends_early-clause-read
returns-then-ends_early-clause-read c i =
    let s = c.args.code.now in
    let o = c.args.octets.now in
    let u = c.lemma_encoded_is_read.ensures.unit s c.args.id.index i.count i.value o c.lemma_invariant.ensures i.is_encoded in
    let h = headed [] o u (sym (append-nil o)) i.short in
    absurd (c.ends_early.ensures.none c.if-ends_early.true h.tag h.constructed h.count h.size h.header)

pub returns-then-ends_early-clause-more : goal.returns-then-ends_early-clause-more
returns-then-ends_early-clause-more c m =
    let s = c.args.code.now in
    let o = c.args.octets.now in
    let u = c.lemma_encoded_is_read.ensures.unit s c.args.id.index m.is.count m.is.value m.octets c.lemma_invariant.ensures m.is.is_encoded in
    let h = headed m.rest o u m.whole m.short in
    absurd (c.ends_early.ensures.none c.if-ends_early.true h.tag h.constructed h.count h.size h.header)

pub returns-then-ends_early-clause-err : goal.returns-then-ends_early-clause-err
returns-then-ends_early-clause-err c memory limit has r =
    let s = c.args.code.now in
    let o = c.args.octets.now in
    let i = c.lemma_read_is_encoded.ensures s c.args.id o (budget_of (length o)) r.last c.lemma_invariant.ensures has c.are_octets.ensures r.reads in
    let u = c.lemma_encoded_is_read.ensures.unit s c.args.id.index i.count i.value i.octets c.lemma_invariant.ensures i.is_encoded in
    let short : length o ≤ 16777216 = search rules in
    let h = headed r.last.here.octets o u i.whole short in
    c.ends_early.ensures.none c.if-ends_early.true h.tag h.constructed h.count h.size h.header

pub returns-in-Err-read-clause-read : goal.returns-in-Err-read-clause-read
returns-in-Err-read-clause-read c i =
    let s = c.args.code.now in
    let o = c.args.octets.now in
    let r = c.lemma_encoded_is_read.ensures.read s c.args.id i.value i.count o [] (budget_of (length o)) i.is_encoded c.lemma_invariant.ensures i.is_value i.few i.short (omega arith) in
    let q = read_of o r (sym (append-nil o)) in
    (fault_memory c.in-Err-read.fault (λ n. c.in-Err-read.ensures.err n q.last (subst (λ x. Reads (λ u. routine_at s u) Takes c.args.id x q.last) (sym c.in-Ok.ensures.ok) q.reads)))

pub returns-in-Err-read-clause-more : goal.returns-in-Err-read-clause-more
returns-in-Err-read-clause-more c m =
    let s = c.args.code.now in
    let o = c.args.octets.now in
    let i = m.is in
    let a = ap length m.whole in
    let b = length-append m.octets m.rest in
    let r = c.lemma_encoded_is_read.ensures.read s c.args.id i.value i.count m.octets m.rest (budget_of (length o)) i.is_encoded c.lemma_invariant.ensures i.is_value i.few i.short (omega arith) in
    let q = read_of o r m.whole in
    inr (ap Err (fault_memory c.in-Err-read.fault (λ n. c.in-Err-read.ensures.err n q.last (subst (λ x. Reads (λ u. routine_at s u) Takes c.args.id x q.last) (sym c.in-Ok.ensures.ok) q.reads))))

pub returns-in-Err-read-clause-truncated_value : goal.returns-in-Err-read-clause-truncated_value
returns-in-Err-read-clause-truncated_value c b =
    let i = b.is in
    let u = c.lemma_encoded_is_read.ensures.unit c.args.code.now c.args.id.index i.count i.value b.octets c.lemma_invariant.ensures i.is_encoded in
    absurd (true_false (c.ends_early.ensures.late (ends_before b u)) c.if-ends_early.false)

pub returns-then-not-is_at_end-clause-read : goal.returns-then-not-is_at_end-clause-read
returns-then-not-is_at_end-clause-read c i =
    let s = c.args.code.now in
    let o = c.args.octets.now in
    let r = c.lemma_encoded_is_read.ensures.read s c.args.id i.value i.count o [] (budget_of (length o)) i.is_encoded c.lemma_invariant.ensures i.is_value i.few i.short (omega arith) in
    let q = read_of o r (sym (append-nil o)) in
    let e = c.in-Ok-read.ensures.only q.last (subst (λ x. Reads (λ u. routine_at s u) Takes c.args.id x q.last) (sym c.in-Ok.ensures.ok) q.reads) in
    absurd (fails c.is_at_end.result c.if-not-is_at_end.true c.is_at_end.ensures (ap (λ x. x.here.octets) (sym e) ∙ q.following))

pub returns-then-not-is_at_end-clause-truncated_value : goal.returns-then-not-is_at_end-clause-truncated_value
returns-then-not-is_at_end-clause-truncated_value c b =
    let i = b.is in
    let u = c.lemma_encoded_is_read.ensures.unit c.args.code.now c.args.id.index i.count i.value b.octets c.lemma_invariant.ensures i.is_encoded in
    absurd (true_false (c.ends_early.ensures.late (ends_before b u)) c.if-ends_early.false)

pub returns-clause-more : goal.returns-clause-more
returns-clause-more c m =
    let s = c.args.code.now in
    let o = c.args.octets.now in
    let i = m.is in
    let a = ap length m.whole in
    let b = length-append m.octets m.rest in
    let r = c.lemma_encoded_is_read.ensures.read s c.args.id i.value i.count m.octets m.rest (budget_of (length o)) i.is_encoded c.lemma_invariant.ensures i.is_value i.few i.short (omega arith) in
    let q = read_of o r m.whole in
    let e = c.in-Ok-read.ensures.only q.last (subst (λ x. Reads (λ u. routine_at s u) Takes c.args.id x q.last) (sym c.in-Ok.ensures.ok) q.reads) in
    absurd (none_there m.rest m.some (sym q.following ∙ ap (λ x. x.here.octets) e ∙ holds c.is_at_end.result c.if-not-is_at_end.false c.is_at_end.ensures))

pub returns-clause-truncated_value : goal.returns-clause-truncated_value
returns-clause-truncated_value c b =
    let i = b.is in
    let u = c.lemma_encoded_is_read.ensures.unit c.args.code.now c.args.id.index i.count i.value b.octets c.lemma_invariant.ensures i.is_encoded in
    absurd (true_false (c.ends_early.ensures.late (ends_before b u)) c.if-ends_early.false)

pub returns-in-Err-read-clause-long : goal.returns-in-Err-read-clause-long
returns-in-Err-read-clause-long c e = never_stops c.in-Err-read.fault MessageLimit (ap (fault_or MessageLimit) e) (λ m. cc) (λ n. n) c.in-Err-read.ensures.stopped

pub returns-in-Err-read-clause-trailing : goal.returns-in-Err-read-clause-trailing
returns-in-Err-read-clause-trailing c e = never_stops c.in-Err-read.fault Trailing (ap (fault_or Trailing) e) (λ m. cc) (λ n. n) c.in-Err-read.ensures.stopped

pub returns-in-Err-read-clause-not_der : goal.returns-in-Err-read-clause-not_der
returns-in-Err-read-clause-not_der c e = never_stops c.in-Err-read.fault NotDer (ap (fault_or NotDer) e) (λ m. cc) (λ n. n) c.in-Err-read.ensures.stopped

pub returns-then-octets-gt-MAX_MESSAGE-clause-refused : goal.returns-then-octets-gt-MAX_MESSAGE-clause-refused
returns-then-octets-gt-MAX_MESSAGE-clause-refused c = λ other. too_long (let l = c.if-octets-gt-MAX_MESSAGE.true in omega (arith, l))

pub returns-then-not-has-clause-refused : goal.returns-then-not-has-clause-refused
returns-then-not-has-clause-refused c = λ other. no_type (let l = c.if-octets-gt-MAX_MESSAGE.false in omega (arith, l)) (fails c.has.result c.if-not-has.true c.has.ensures)

pub returns-then-ends_early-clause-refused : goal.returns-then-ends_early-clause-refused
returns-then-ends_early-clause-refused c = λ other. cut_off (let l = c.if-octets-gt-MAX_MESSAGE.false in omega (arith, l)) (holds c.has.result c.if-not-has.false c.has.ensures) (c.ends_early.ensures.early c.if-ends_early.true)

pub returns-in-Err-read-clause-refused : goal.returns-in-Err-read-clause-refused
returns-in-Err-read-clause-refused c = λ other.
    let s = c.args.code.now in
    let f = c.in-Err-read.fault in
    let h = c.in-Err-read.ensures.stopped other in
    stopped (record { short = c.in-Ok.ensures.few; type = holds c.has.result c.if-not-has.false c.has.ensures; header = λ q. true_false (c.ends_early.ensures.late q) c.if-ends_early.false })
    (record { last = c.read.new.source; stops = subst (λ q. StopsReading (λ u. routine_at s u) Takes (λ a q b. Leaves a q b f) c.args.id q c.read.new.source) c.in-Ok.ensures.ok h })

pub returns-then-not-is_at_end-clause-refused : goal.returns-then-not-is_at_end-clause-refused
returns-then-not-is_at_end-clause-refused c = λ other.
    let s = c.args.code.now in
    let r = subst (λ q. Reads (λ u. routine_at s u) Takes c.args.id q c.read.new.source) c.in-Ok.ensures.ok c.in-Ok-read.ensures.ok in
    trailing_octets (record { short = c.in-Ok.ensures.few; type = holds c.has.result c.if-not-has.false c.has.ensures; header = λ q. true_false (c.ends_early.ensures.late q) c.if-ends_early.false })
    (record { last = c.read.new.source; reads = r; left = fails c.is_at_end.result c.if-not-is_at_end.true c.is_at_end.ensures })

pub returns-clause-refused : goal.returns-clause-refused
returns-clause-refused c = refused_memory _ c.finished.result c.finished.ensures.err

pub returns-clause-not_der : goal.returns-clause-not_der
returns-clause-not_der c e = absurd (memory_alone c.finished.result _ c.finished.ensures.err (λ h. cc) e)
