-- Octets are refused for one reason, or they are read.
use Rattle.std.proofs.Common.{arith, ◌≡◌, ℕ, ◌<◌, ◌≤◌, List, length, refl, ap, ◌∙◌, sym, subst}
use Rattle.asn_base.specs.Types.{Resolved}
use Rattle.asn_base.specs.declared.schema.TypeId.{TypeId}
use Rattle.codec_code.specs.Routines.{routine_at}
use Rattle.codec_source.specs.Reading.{Reads}
use Rattle.codec_source.specs.Stopping.{StopsReading}
use Rattle.decode_faults.specs.declared.read_fault.ReadFault.{ReadFault}
use Rattle.octet_answers.specs.Answers.{Takes}
use Rattle.octet_answers.specs.Unanswered.{Leaves}
use Rattle.octet_answers.specs.States.{State, front}
use Rattle.octets.specs.Fronts.{EndsEarly}
use Rattle.ber_reader.specs.Messages.{IsRead, IsReadBefore, StopsWith, Refuses, too_long, no_type, cut_off, trailing_octets, stopped, budget_of}
use Rattle.std.specs.Int.Digits.{AllBelowBase}
use Rattle.asn_base.specs.Abstract.{AbstractValue}
use Rattle.asn_base.specs.Schemas.{IsSchema}
use Rattle.asn_base.specs.Typed.{IsValueWithoutNodes}
use Rattle.encodings.specs.Encoding.{EncodesTo}
use Rattle.encodings.specs.Rules.{Basic}
use Rattle.ber_reader.specs.Judged.{IsJudged}
use Rattle.ber_reader.specs.Readings.{IsReading, IsRefused, not_read, no_value}
use Rattle.ber_reader.specs.declared.read.Read.{Read}
use Rattle.ber_reader.proofs.Judging.{once_judged}
use Rattle.ber_reader.proofs.WholeMessage.{says_type}

abbrev pub StopsOnce : Type 0
StopsOnce = (s : List Resolved) (t : TypeId) (o : List ℕ) (budget : ℕ) (y z : State) (e f : ReadFault)
    → length o ≤ 16777216
    → StopsReading (λ u. routine_at s u) Takes (λ a q b. Leaves a q b e) t (front s o budget) y
    → StopsReading (λ u. routine_at s u) Takes (λ a q b. Leaves a q b f) t (front s o budget) z
    → (e ≡ f) × (y ≡ z)

abbrev pub StopsOrReads : Type 0
StopsOrReads = (s : List Resolved) (t : TypeId) (x y z : State) (e : ReadFault)
    → StopsReading (λ u. routine_at s u) Takes (λ a q b. Leaves a q b e) t x y
    → Reads (λ u. routine_at s u) Takes t x z
    → ⊥

abbrev pub ReadsOnce : Type 0
ReadsOnce = (s : List Resolved) (t : TypeId) (x y z : State)
    → Reads (λ u. routine_at s u) Takes t x y
    → Reads (λ u. routine_at s u) Takes t x z
    → y ≡ z

short_long : {n : ℕ} {A : Type 0} → n ≤ 16777216 → 16777216 < n → A
short_long l m = absurd (omega (arith, l, m))

never_both : (s : List Resolved) (t : TypeId) (o : List ℕ) (e : ReadFault) {A : Type 0} → StopsOrReads → IsReadBefore s t o → StopsWith s t o e → A
never_both s t o e either r h = absurd (either s t (front s o (budget_of (length o))) h.last r.last e h.stops r.reads)

pub refused_once : StopsOnce → StopsOrReads → (s : List Resolved) (t : TypeId) (o : List ℕ) (e f : ReadFault) → Refuses s t o e → Refuses s t o f → e ≡ f
refused_once once either s t o e f (too_long l) (too_long m) = refl
refused_once once either s t o e f (too_long l) (no_type m n) = short_long m l
refused_once once either s t o e f (too_long l) (cut_off m n h) = short_long m l
refused_once once either s t o e f (too_long l) (trailing_octets a r) = short_long a.short l
refused_once once either s t o e f (too_long l) (stopped a h) = short_long a.short l
refused_once once either s t o e f (no_type m n) (too_long l) = short_long m l
refused_once once either s t o e f (no_type m n) (no_type l k) = refl
refused_once once either s t o e f (no_type m n) (cut_off l k h) = absurd (n k)
refused_once once either s t o e f (no_type m n) (trailing_octets a r) = absurd (n a.type)
refused_once once either s t o e f (no_type m n) (stopped a h) = absurd (n a.type)
refused_once once either s t o e f (cut_off m n h) (too_long l) = short_long m l
refused_once once either s t o e f (cut_off m n h) (no_type l k) = absurd (k n)
refused_once once either s t o e f (cut_off m n h) (cut_off l k g) = refl
refused_once once either s t o e f (cut_off m n h) (trailing_octets a r) = absurd (a.header h)
refused_once once either s t o e f (cut_off m n h) (stopped a g) = absurd (a.header h)
refused_once once either s t o e f (trailing_octets a r) (too_long l) = short_long a.short l
refused_once once either s t o e f (trailing_octets a r) (no_type l k) = absurd (k a.type)
refused_once once either s t o e f (trailing_octets a r) (cut_off l k h) = absurd (a.header h)
refused_once once either s t o e f (trailing_octets a r) (trailing_octets b q) = refl
refused_once once either s t o e f (trailing_octets a r) (stopped b h) = never_both s t o f either r h
refused_once once either s t o e f (stopped a h) (too_long l) = short_long a.short l
refused_once once either s t o e f (stopped a h) (no_type l k) = absurd (k a.type)
refused_once once either s t o e f (stopped a h) (cut_off l k g) = absurd (a.header g)
refused_once once either s t o e f (stopped a h) (trailing_octets b r) = never_both s t o e either r h
refused_once once either s t o e f (stopped a h) (stopped b g) =
    (once s t o (budget_of (length o)) h.last g.last e f a.short h.stops g.stops).0

pub refused_or_read : StopsOrReads → ReadsOnce → (s : List Resolved) (t : TypeId) (o : List ℕ) (e : ReadFault)
    → length o ≤ 16777216
    → t.index < length s
    → (EndsEarly o → ⊥)
    → Refuses s t o e
    → IsRead s t o
    → ⊥
refused_or_read either one s t o e m n w (too_long l) r = short_long m l
refused_or_read either one s t o e m n w (no_type l k) r = k n
refused_or_read either one s t o e m n w (cut_off l k h) r = w h
refused_or_read either one s t o e m n w (trailing_octets a q) r =
    q.left (ap (λ z. z.here.octets) (one s t (front s o (budget_of (length o))) q.last r.last q.reads r.reads) ∙ r.at_end)
refused_or_read either one s t o e m n w (stopped a h) r = either s t (front s o (budget_of (length o))) h.last r.last e h.stops r.reads

-- ---- of a message, with the faults of values that are none of the type

abbrev pub Once : Type 0
Once = (s : List Resolved) (t : TypeId) (o : List ℕ) (e f : ReadFault) → Refuses s t o e → Refuses s t o f → e ≡ f

abbrev pub Either : Type 0
Either = (s : List Resolved) (t : TypeId) (o : List ℕ) (e : ReadFault)
    → IsSchema s
    → AllBelowBase 256 o
    → length o ≤ 16777216
    → t.index < length s
    → Refuses s t o e
    → IsRead s t o
    → ⊥

abbrev pub SaysOne : List Resolved → Type 0
SaysOne s = (t k m : ℕ) (w v : AbstractValue) (o : List ℕ) → EncodesTo s Basic t w k o → EncodesTo s Basic t v m o → (w ≡ v) × (k ≡ m)

pub lemma_refused_once : Once → Either → (s : List Resolved) (t : TypeId) (o : List ℕ) (e f : ReadFault) → IsSchema s → AllBelowBase 256 o → SaysOne s → IsRefused s t o e → IsRefused s t o f → e ≡ f
lemma_refused_once once either s t o e f h b one (not_read a) (not_read c) = once s t o e f a c
lemma_refused_once once either s t o e f h b one (not_read a) (no_value r n j) = absurd (either s t o e h b n.short (says_type n.is_encoded) a r)
lemma_refused_once once either s t o e f h b one (no_value r n j) (not_read a) = absurd (either s t o f h b n.short (says_type n.is_encoded) a r)
lemma_refused_once once either s t o e f h b one (no_value r n j) (no_value q m k) =
    let w = (one t.index n.count m.count n.value m.value o n.is_encoded m.is_encoded).0 in
    once_judged s t.index m.value e f (subst (λ v. IsJudged s t.index v e) w j) k

pub message_or_read : Either → (s : List Resolved) (t : TypeId) (o : List ℕ) (e : ReadFault) (x : Read) → IsSchema s → AllBelowBase 256 o → SaysOne s → IsRefused s t o e → IsReading s t.index o x → ⊥
message_or_read either s t o e x h b one (not_read a) i = either s t o e h b i.short (says_type i.encodes.says_it) a i.shown.read
message_or_read either s t o e x h b one (no_value r n j) i =
    let w = (one t.index n.count _ n.value _ o n.is_encoded i.encodes.says_it).0 in
    n.is_none (subst (IsValueWithoutNodes s t.index) (sym w) i.encodes.value)
