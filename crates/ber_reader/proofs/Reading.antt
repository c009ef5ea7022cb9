-- What is answered of a message that was read.
use Rattle.std.proofs.Common.{◌≡◌, ℕ, List, sym, subst}
use Rattle.decode_faults.specs.declared.read_fault.ReadFault.{ReadFault}
use Rattle.decode_faults.specs.declared.read_fault.ReadFault.TheVariants as faults
use Rattle.asn_base.specs.Types.{Resolved}
use Rattle.asn_base.specs.Typed.{IsValueWithoutNodes}
use Rattle.octet_answers.specs.States.{Token}
use Rattle.std.specs.Prelude.{Result, Ok, Err, IfOk}
use Rattle.asn_base.specs.declared.schema.TypeId.{TypeId}
use Rattle.ber_reader.specs.Messages.{IsMessage, IsRead, EncodesNoValue}
use Rattle.ber_reader.specs.Stops.{IsStop, IsStopBefore}
use Rattle.ber_reader.specs.declared.stop.ErrorPosition.{ErrorPosition}
use Rattle.views.specs.Tree.{value_of, IsBorrowed}
use Rattle.ber_reader.specs.declared.read.Read.{Read}
use Rattle.ber_reader.specs.Judged.{IsJudged}
use Rattle.ber_reader.proofs.WholeMessage.{SaidWithin}
use Rattle.ber_reader.specs.Readings.{IsShown, IsReading, IsErrorPosition, unread, IsRefused, no_value}

pub reading_of : {s : List Resolved} {t : ℕ} {o : List ℕ} {ts : List Token} (r : Read) (m : IsMessage s t o ts)
    → IsBorrowed o r.view
    → IsShown s t o r.view
    → value_of r.view ≡ m.value
    → r.skipped ≡ m.count
    → IsValueWithoutNodes s t (value_of r.view)
    → IsReading s t o r
reading_of {s} {t} {o} r m b h e k w =
    let d : SaidWithin s t (value_of r.view) r.skipped o = subst (λ q. SaidWithin s t (value_of r.view) q o) (sym k) (subst (λ q. SaidWithin s t q m.count o) (sym e) (record { is_encoded = m.is_encoded; few = m.few })) in
    record { encodes = record { value = w; says_it = d.is_encoded }; few = d.few; short = m.short; borrowed = b; shown = h }

-- the decoded value isn't one of the type
pub says_none : {s : List Resolved} {t : ℕ} {o : List ℕ} {ts : List Token} (m : IsMessage s t o ts) → (IsValueWithoutNodes s t m.value → ⊥) → EncodesNoValue s t o
says_none m n = record { value = m.value; count = m.count; is_encoded = m.is_encoded; few = m.few; short = m.short; is_none = n }

-- why that is the fault
pub refused_as_none : {s : List Resolved} {t : TypeId} {o : List ℕ} {ts : List Token} {e : ReadFault} (m : IsMessage s t.index o ts) → IsRead s t o → (IsValueWithoutNodes s t.index m.value → ⊥) → IsJudged s t.index m.value e → IsRefused s t o e
unfolding says_none
refused_as_none m r n j = no_value r (says_none m n) j

pub stop_some : {E : Type 0} (s : List Resolved) (t : TypeId) (o : List ℕ) (m : ℕ) (r : Result ErrorPosition E) → IfOk r (λ w. IsStop s t o m w) → IfOk r (λ w. IsErrorPosition s t o w)
stop_some s t o m (Ok w) h = unread m h
stop_some s t o m (Err e) h = h

-- of what is read to its end nothing else is asked
pub never_stops : {E : Type 0} (s : List Resolved) (t : TypeId) (o : List ℕ) (r : Result ErrorPosition E) → ⊥ → IfOk r (λ w. IsStopBefore s t o w)
never_stops s t o r e = absurd e

pub stop_most : {E : Type 0} (s : List Resolved) (t : TypeId) (o : List ℕ) (m n : ℕ) (r : Result ErrorPosition E) → m ≡ n → IfOk r (λ w. IsStop s t o m w) → IfOk r (λ w. IsStop s t o n w)
stop_most s t o m n r e h = subst (λ q. IfOk r (λ w. IsStop s t o q w)) e h

-- ---- why a value is refused

abbrev pub fault_in : {A : Type 0} → ReadFault → Result A ReadFault → ReadFault
fault_in d (Ok a) = d
fault_in d (Err e) = e
