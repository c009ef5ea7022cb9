-- Messages, as calls read them.
use Rattle.std.proofs.Common.{arith, ◌≡◌, ℕ, ◌+◌, ◌-◌, ◌^◌, ◌<◌, ◌≤◌, ◌==◌, false, List, [], ◌∷◌, ◌++◌, length, refl, sym, ap, subst, ◌∙◌}
use Rattle.std.specs.Prelude.{◌↔◌, if◌then◌else◌, Result, Ok, Err, IfOk, IfErr, MatchResult}
use Rattle.std.proofs.lemmas.Bool.{le-ltb}
use Rattle.bits.specs.Words.{octet_bits}
use Rattle.asn_base.specs.Abstract.{AbstractValue, abstract}
use Rattle.asn_base.specs.declared.value.Value.{Value}
use Rattle.asn_base.specs.Types.{Resolved}
use Rattle.encodings.specs.Header.{Octets}
use Rattle.packed_encodings.specs.Lengths.{Bits}
use Rattle.packed_encodings.specs.Packing.{Reads}
use Rattle.decode_faults.specs.declared.refusal.Refusal.TheVariants as why
use Rattle.packed_reader.specs.declared.fault.PerFault.{PerFault}
use Rattle.packed_reader.specs.declared.fault.PerFault.TheVariants as per
use Rattle.packed_reader.specs.declared.stop.Stop.{Stop}
use Rattle.packed_reader.specs.declared.stop.Stop.TheVariants.{Memory, Refused}
use Rattle.packed_reader.specs.Answers.{BeginsMessage, IsRefusal, IsTruncated, fault_of}
use Rattle.packed_reader.specs.Readings.{Fault, Reading, read, refused, stop, next, Taken, taken}
use Rattle.packed_reader.specs.Steps.{value_by}
use Rattle.packed_reader.specs.Structures.{is_filling, filled_from}
use Rattle.packed_reader.specs.Values.{Answer, answers, too_long, faulty, answer_of, message_from, value_from}
use Rattle.packed_reader.specs.proving.Code.{IsRefusalAt, IsStop}
use Rattle.packed_reader.specs.proving.Running.{past, run_value}
use Rattle.decode_faults.specs.declared.refusal.Refusal.{Refusal}
use Rattle.packed_reader.specs.declared.part.Part.{Part}
use Rattle.packed_reader.proofs.Opening.{octets_length}

-- ---- without skipped additions before it

from_none : (o : Reading (Taken AbstractValue)) → past 0 o ≡ o
from_none (read w r) = ap (λ k. read (taken w.it k w.left) r) (let e : 0 + w.skipped ≡ w.skipped = omega arith in e)
from_none (refused e r) = refl

module _ (s : List Resolved) (t : ℕ) (same : (n : ℕ) (b : Bits) → value_by s 64 t n b ≡ value_from s 64 t n b) (x : ℕ) (o : Octets) (few : length (x ∷ o) ≤ 16777216) where
  abbrev B : Bits
  B = octet_bits (x ∷ o)

  abbrev F : Reading (Taken AbstractValue)
  F = filled_from (run_value s 64 t 0 16777216) B

  filled_same : F ≡ filled_from (value_from s 64 t 16777216) B
  filled_same = ap (λ q. next q (λ v z. if is_filling (length B - length z) z then read v [] else stop why.Padding z)) (from_none (value_by s 64 t 16777216 B) ∙ same 16777216 B)

  message_is : message_from s t (x ∷ o) ≡ answer_of B F
  message_is = ap (λ q. if q then too_long else answer_of B (filled_from (value_from s 64 t 16777216) B)) (le-ltb 16777216 (length (x ∷ o)) few) ∙ ap (answer_of B) (sym filled_same)

  pub message_read : (v : AbstractValue) (k n : ℕ) → F ≡ read (taken v k n) [] → message_from s t (x ∷ o) ≡ answers v k
  message_read v k n e = message_is ∙ ap (answer_of B) e

  pub message_refused : (d : Fault) (r : Bits) → F ≡ refused d r → message_from s t (x ∷ o) ≡ faulty d (length B - length r)
  message_refused d r e = message_is ∙ ap (answer_of B) e

module _ (s : List Resolved) (t : ℕ) (same : (n : ℕ) (b : Bits) → value_by s 64 t n b ≡ value_from s 64 t n b) where
  abbrev Run : Bits → Reading (Taken AbstractValue)
  Run b = filled_from (run_value s 64 t 0 16777216) b

  pub decode_ok : (o : Octets) (b : Bits) (v : AbstractValue) (k n : ℕ) → (length o == 0) ≡ false → length o ≤ 16777216 → b ≡ octet_bits o → Run b ≡ read (taken v k n) [] → message_from s t o ≡ answers v k
  decode_ok [] b v k n e l h g = absurd (cc)
  decode_ok (x ∷ o) b v k n e l h g = message_read s t same x o l v k n (ap Run (sym h) ∙ g)

  pub decode_refused : (o : Octets) (b r : Bits) (d : Fault) (i : ℕ) → (length o == 0) ≡ false → length o ≤ 16777216 → b ≡ octet_bits o → Run b ≡ refused d r → i ≡ length b - length r → message_from s t o ≡ faulty d i
  decode_refused [] b r d i e l h g j = absurd (cc)
  decode_refused (x ∷ o) b r d i e l h g j = message_refused s t same x o l d r (ap Run (sym h) ∙ g) ∙ ap (faulty d) (sym (j ∙ ap (λ q. length q - length r) h))

  fault_as : (d e : Fault) (i j : ℕ) → d ≡ e → i ≡ j → faulty d i ≡ faulty e j
  fault_as d e i j h g = cc

  whole_fault : (e f : Refusal) (ps qs : List Part) → e ≡ f → ps ≡ qs → ◌≡◌ {A = Fault} (record { why = e; path = ps }) (record { why = f; path = qs })
  whole_fault e f ps qs h g = cc

  pub decode_stop : (o : Octets) (b r : Bits) (x : Stop) (i : ℕ) (e : PerFault) → (length o == 0) ≡ false → length o ≤ 16777216 → b ≡ octet_bits o → IsStop (Run b) x r → i ≡ length b - length r → IsRefusalAt x i e → IsRefusal (message_from s t o) e
  decode_stop o b r Memory i e g l h z j a = subst (IsRefusal (message_from s t o)) (sym a) tt
  decode_stop o b r (Refused d ps) i per.Memory g l h z j a = absurd a
  decode_stop o b r (Refused d ps) i per.MessageLimit g l h z j a = absurd a
  decode_stop o b r (Refused d ps) i (per.Refused u) g l h z j a =
      decode_refused o b r (record { why = d; path = ps.items }) i g l h z j ∙ fault_as (record { why = d; path = ps.items }) (fault_of u) i u.bit (whole_fault d u.refusal ps.items u.path.items (sym a.0) (sym a.2)) (sym a.1)

pub message_room : (o : Octets) (b : Bits) → length o ≤ 16777216 → b ≡ octet_bits o → 0 + length b ≤ 2 ^ 62
message_room o b l h = let a = ap length h in let m = octets_length o in omega (arith, l, a, m)

-- ---- what the answers mean

answer_same : {v w : AbstractValue} {j k : ℕ} → answers v j ≡ answers w k → (v ≡ w) × (j ≡ k)
answer_same e = (cc, cc)

not_long : {v : AbstractValue} {k : ℕ} → answers v k ≡ too_long → ⊥
not_long e = absurd (cc)

not_faulty : {v : AbstractValue} {k i : ℕ} {d : Fault} → answers v k ≡ faulty d i → ⊥
not_faulty e = absurd (cc)

fault_not_long : {d : Fault} {i : ℕ} → faulty d i ≡ too_long → ⊥
fault_not_long e = absurd (cc)

fault_same : {d e : Fault} {i j : ℕ} → faulty d i ≡ faulty e j → d ≡ e
fault_same h = cc

module _ (s : List Resolved) (t : ℕ) (o : Octets) where
  abbrev Message : Answer
  Message = message_from s t o

  abbrev Read : Result (Value × ℕ) PerFault → Type 0
  Read x = IfOk x (λ r. Message ≡ answers (abstract r.0) r.1)

  module _ (answered : (k : ℕ) (w : AbstractValue) → Message ≡ answers w k → Reads s t w k o × (length o ≤ 16777216))
      (found : (k : ℕ) (w : AbstractValue) → Reads s t w k o → length o ≤ 16777216 → Message ≡ answers w k) where
    pub reads_of : (x : Result (Value × ℕ) PerFault) → Read x → IfOk x (λ r. Reads s t (abstract r.0) r.1 o)
    reads_of (Ok r) h = (answered r.1 (abstract r.0) h).0
    reads_of (Err e) h = tt

    pub few_of : (x : Result (Value × ℕ) PerFault) → Read x → IfOk x (λ r. length o ≤ 16777216)
    few_of (Ok r) h = (answered r.1 (abstract r.0) h).1
    few_of (Err e) h = tt

    pub only_of : (x : Result (Value × ℕ) PerFault) → Read x → IfOk x (λ r. (w : AbstractValue) (k : ℕ) → Reads s t w k o → (w ≡ abstract r.0) × (k ≡ r.1))
    only_of (Ok r) h = λ w k g. answer_same (sym (found k w g (answered r.1 (abstract r.0) h).1) ∙ h)
    only_of (Err e) h = tt

    refusal_none : (e : PerFault) (w : AbstractValue) (k : ℕ) → Message ≡ answers w k → IsRefusal Message e → e ≡ per.Memory
    refusal_none per.Memory w k m h = refl
    refusal_none per.MessageLimit w k m h = absurd (not_long (sym m ∙ h))
    refusal_none (per.Refused u) w k m h = absurd (not_faulty (sym m ∙ h))

    pub read_of : (x : Result (Value × ℕ) PerFault) → IfErr x (IsRefusal Message) → (w : AbstractValue) (k : ℕ) → Reads s t w k o → length o ≤ 16777216 → IfErr x (λ e. e ≡ per.Memory)
    read_of (Ok r) h w k g l = tt
    read_of (Err e) h w k g l = refusal_none e w k (found k w g l) h

  pub long_of : (x : Result (Value × ℕ) PerFault) → Message ≡ too_long ↔ 16777216 < length o → IfErr x (IsRefusal Message) → x ≡ Err per.MessageLimit → 16777216 < length o
  long_of x law h e = law.0 (subst (λ y. IfErr y (IsRefusal Message)) e h)

  abbrev Ends : Type 0
  Ends = (d : Fault) × (i : ℕ) × (Message ≡ faulty d i) × (d.why ≡ why.Truncated)

  pub ends_of : (x : Result (Value × ℕ) PerFault) → Ends → Read x → IfErr x (IsRefusal Message) → MatchResult x (λ r. ⊥) IsTruncated
  ends_of (Ok r) d h g = not_faulty (sym h ∙ d.2)
  ends_of (Err per.Memory) d h g = tt
  ends_of (Err per.MessageLimit) d h g = fault_not_long (sym d.2 ∙ g)
  ends_of (Err (per.Refused u)) d h g = ap (λ q. q.why) (fault_same (sym g ∙ d.2)) ∙ d.3

  pub begins : ((k : ℕ) (w : AbstractValue) (m : Octets) → Reads s t w k (o ++ m) → length (o ++ m) ≤ 16777216 → 1 ≤ length m → Ends) → BeginsMessage s t o → Ends
  begins law b = law b.count b.value b.rest b.whole b.short b.some
