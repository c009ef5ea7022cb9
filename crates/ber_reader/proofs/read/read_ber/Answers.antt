use Rattle.std.proofs.Common.{arith, ◌≤◌, inl, inr, Err, sym, ap, subst}
use Rattle.encodings.specs.Rules.{Basic}
use Rattle.asn_base.specs.Typed.{IsValue, IsValueWithoutNodes, nodes}
use Rattle.decode_faults.specs.declared.read_fault.ReadFault.TheVariants.{NotDer}
use Rattle.ber_reader.specs.Judged.{IsJudged}
use Rattle.ber_reader.specs.Readings.{not_read}
use Rattle.views.specs.Tree.{value_of}
use Rattle.ber_reader.proofs.Judging.{never_not_der}
use Rattle.ber_reader.proofs.Reading.{fault_in, reading_of, says_none, refused_as_none}
use Rattle.ber_reader.proofs.WholeMessage.{fault_memory, says_type}
use Rattle.ber_reader.proofs.read.read_ber.Goals as goal

pub judge-requires-clause-nodes : goal.judge-requires-clause-nodes
judge-requires-clause-nodes c =
    let n = c.in-Ok.ensures.ok in
    let m = n.message in
    let few = c.message_laws.ensures.nodes c.args.code.now Basic c.args.id.index m.count m.value c.args.octets.now c.lemma_invariant.ensures m.is_encoded in
    let short = m.short in
    subst (λ q. nodes q ≤ 16777216) (sym n.value) (omega (arith, few, short))

pub returns-clause-ok : goal.returns-clause-ok
returns-clause-ok c =
    let n = c.in-Ok.ensures.ok in
    reading_of _ n.message n.borrowed (record { read = n.read; one = n.one; as_held = n.shown }) n.value n.skipped c.in-Ok-judge.ensures.ok

pub returns-clause-only : goal.returns-clause-only
returns-clause-only c w k e = c.in-Ok.ensures.only w k e.says_it

pub returns-in-Err-judge-clause-read : goal.returns-in-Err-judge-clause-read
returns-in-Err-judge-clause-read c i =
    let s = c.args.code.now in
    let t = c.args.id.index in
    let r = c.in-Ok.ensures.only i.value i.count i.is_encoded in
    let v = c.message_laws.ensures.value s Basic t i.count i.value c.args.octets.now c.lemma_invariant.ensures i.is_value i.is_encoded i.short in
    absurd (c.in-Err-judge.ensures.err (subst (IsValue s t) r.0 v))

pub returns-in-Err-judge-clause-outside : goal.returns-in-Err-judge-clause-outside
returns-in-Err-judge-clause-outside c e =
    let n = c.in-Ok.ensures.ok in
    let m = n.message in
    let s = c.args.code.now in
    let t = c.args.id.index in
    says_none m (λ v. c.in-Err-judge.ensures.err (subst (IsValue s t) (sym n.value) (c.message_laws.ensures.value s Basic t m.count m.value c.args.octets.now c.lemma_invariant.ensures v m.is_encoded m.short)))

pub returns-in-Err-judge-clause-missing : goal.returns-in-Err-judge-clause-missing
returns-in-Err-judge-clause-missing c e =
    let n = c.in-Ok.ensures.ok in
    let m = n.message in
    let s = c.args.code.now in
    let t = c.args.id.index in
    inr (says_none m (λ v. c.in-Err-judge.ensures.err (subst (IsValue s t) (sym n.value) (c.message_laws.ensures.value s Basic t m.count m.value c.args.octets.now c.lemma_invariant.ensures v m.is_encoded m.short))))

pub returns-in-Err-clause-judged : goal.returns-in-Err-clause-judged
returns-in-Err-clause-judged c = λ read n.
    let few = n.short in
    inl (fault_memory c.in-Err.fault (λ other. c.in-Err.ensures.err other (λ e. let l = c.in-Err.ensures.long (ap Err e) in omega arith) (says_type n.is_encoded) read))

pub returns-in-Err-judge-clause-judged : goal.returns-in-Err-judge-clause-judged
returns-in-Err-judge-clause-judged c = λ read n.
    inr (subst (λ w. IsJudged c.args.code.now c.args.id.index w c.in-Err-judge.why) (sym (c.in-Ok.ensures.only n.value n.count n.is_encoded).0) c.in-Err-judge.ensures.judged)

pub returns-clause-judged : goal.returns-clause-judged
returns-clause-judged c = λ read n.
    n.is_none (subst (IsValueWithoutNodes c.args.code.now c.args.id.index) (sym (c.in-Ok.ensures.only n.value n.count n.is_encoded).0) c.in-Ok-judge.ensures.ok)

pub returns-in-Err-clause-refused : goal.returns-in-Err-clause-refused
returns-in-Err-clause-refused c = λ other. not_read (c.in-Err.ensures.refused other)

pub returns-in-Err-clause-not_der : goal.returns-in-Err-clause-not_der
returns-in-Err-clause-not_der c e = c.in-Err.ensures.not_der (ap Err (ap (fault_in NotDer) e))

pub returns-in-Err-judge-clause-refused : goal.returns-in-Err-judge-clause-refused
returns-in-Err-judge-clause-refused c = λ other.
    let n = c.in-Ok.ensures.ok in
    let m = n.message in
    let s = c.args.code.now in
    let t = c.args.id.index in
    refused_as_none m n.read
    (λ v. c.in-Err-judge.ensures.err (subst (IsValue s t) (sym n.value) (c.message_laws.ensures.value s Basic t m.count m.value c.args.octets.now c.lemma_invariant.ensures v m.is_encoded m.short)))
    (subst (λ w. IsJudged s t w c.in-Err-judge.why) n.value c.in-Err-judge.ensures.judged)

pub returns-in-Err-judge-clause-not_der : goal.returns-in-Err-judge-clause-not_der
returns-in-Err-judge-clause-not_der c e =
    let f = ap (fault_in NotDer) e in
    never_not_der (subst (IsJudged c.args.code.now c.args.id.index (value_of c.in-Ok.built.view)) f c.in-Err-judge.ensures.judged)
