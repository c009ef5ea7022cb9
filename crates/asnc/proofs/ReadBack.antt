-- What is read of the octets of canonical PER, why nothing is, and what follows for messages of values.
use Rattle.std.proofs.Common.{arith, ◌≡◌, refl, sym, ◌∙◌, subst, ap, ℕ, ◌+◌, ◌<◌, ◌≤◌, List, length, Result, Ok, Err, suc}
use Rattle.std.specs.Prelude.{IfErr, MatchResult}
use Rattle.std.proofs.Math.Nat.{lt_of_not-le}
use Rattle.asn_base.specs.Abstract.{AbstractValue}
use Rattle.asn_base.specs.Same.{Same}
use Rattle.asn_base.specs.Types.{Resolved}
use Rattle.value_text.specs.Print.{print}
use Rattle.packed_encodings.specs.Packing.{Reads}
use Rattle.packed_reader.specs.Answers.{BeginsMessage, IsRefusal, IsTruncated}
use Rattle.packed_reader.specs.Values.{message_from}
use Rattle.packed_reader.specs.declared.fault.PerFault.{PerFault}
use Rattle.packed_reader.specs.declared.fault.PerFault.TheVariants as per
use Rattle.resolve.specs.Program.{Program}
use Rattle.judging.specs.messages.declared.fault.Fault.{Fault}
use Rattle.judging.specs.messages.declared.fault.Fault.TheVariants as faults
use Rattle.judging.specs.named_values.Named.{Names, TypeNamed}
use Rattle.asnc.specs.Headline.{IsAnswer}
use Rattle.asnc.specs.Packing.{IsPacked}
use Rattle.asnc.specs.Unpacking.{IsFirstFault, IsNotUnpacked, IsNotUnpackedAs, IsNotUnpackedBy, IsUnpacked, IsUnpackedAs}
use Rattle.judging.specs.named_values.Given.{Given}

-- ---- refusals

not_above : (n : ℕ) → (16777216 < n → ⊥) → n ≤ 16777216
not_above n h = let l = lt_of_not-le {n = 16777217} {m = n} h in omega (arith, l)

-- what a call refuses octets for is true
pub refused_by : {Z : Type 0} (s : List Resolved) (t : ℕ) (o : List ℕ) (r : Result Z PerFault) (e : PerFault) →
    r ≡ Err e
    → ((w : AbstractValue) (k : ℕ) → Reads s t w k o → length o ≤ 16777216 → IfErr r (λ f. f ≡ per.Memory))
    → (16777216 < length o → r ≡ Err per.MessageLimit)
    → (r ≡ Err per.MessageLimit → 16777216 < length o)
    → IfErr r (IsRefusal (message_from s t o))
    → (BeginsMessage s t o → MatchResult r (λ x. ⊥) IsTruncated)
    → IsNotUnpackedBy s t o e
refused_by s t o r per.Memory q read limit long err truncated_value = tt
refused_by s t o r per.MessageLimit q read limit long err truncated_value = long q
refused_by s t o r (per.Refused u) q read limit long err truncated_value =
    let short = not_above (length o) (λ l. (let g = sym q ∙ limit l in cc)) in
    record {
      short = short;
      none = λ w k m. (let g = subst (λ x. IfErr x (λ f. f ≡ per.Memory)) q (read w k m short) in cc);
      first = subst (λ x. IfErr x (IsRefusal (message_from s t o))) q err;
      truncated_value = λ b. subst (λ x. MatchResult x (λ y. ⊥) IsTruncated) q (truncated_value b);
    }

-- ---- messages

-- what is read under a name is a value of the type that it finds
pub unpacked_of : {p : Program} {s : List Resolved} {name o printed : List ℕ} {k : ℕ} (t : ℕ)
    (r : IsUnpackedAs p s name o printed k) → t ≡ r.type
    → IsUnpacked s t o printed k
unpacked_of {s = s} {o = o} {printed = printed} {k = k} t r e = subst (λ u. IsUnpacked s u o printed k) (sym e) r.read

same_text : {s : List Resolved} {t : ℕ} {o printed again : List ℕ} {k j : ℕ} → IsUnpacked s t o printed k
    → IsUnpacked s t o again j
    → (printed ≡ again) × (k ≡ j)
same_text {s = s} {t = t} r q =
    let e = q.by_bits.only r.value _ r.by_bits.reads in
    (r.text ∙ ap (print s t) e.0 ∙ sym q.text, e.1)

-- one message is printed as one value
pub one_answer : (p : Program) (s : List Resolved) (name o printed again : List ℕ) (k j : ℕ)
    (r : IsUnpackedAs p s name o printed k)
    (q : IsUnpackedAs p s name o again j)
    → (printed ≡ again) × (k ≡ j)
one_answer p s name o printed again k j r q = same_text (unpacked_of q.type r (r.named.only q.type q.named.is)) q.read

-- what is read of the message of a value is that value
pub answer_of_message : {p : Program} {s : List Resolved} {first : List ℕ} {second : Given} {o printed : List ℕ} {k : ℕ}
    (w : IsPacked p s first second o)
    (r : IsUnpackedAs p s first o printed k)
    → ((v : AbstractValue) × Same s w.type w.value v × Reads s w.type v 0 o)
    → IsAnswer p s first printed k w.value
answer_of_message {s = s} w r b =
    let q = unpacked_of w.type r (r.named.only w.type w.meant.named.typed) in
    let e = q.by_bits.only b.0 0 b.2 in
    record {
      type = w.type;
      named = w.meant.named.typed;
      value = q.value;
      same = subst (Same s w.type w.value) e.0 b.1;
      text = q.text;
      none_skipped = sym e.1;
    }

refused_message : {s : List Resolved} {t u k : ℕ} {v : AbstractValue} {o : List ℕ} {e : Fault} → t ≡ u → Reads s t v k o
    → length o ≤ 16777216
    → IsNotUnpacked s u o e
    → e ≡ faults.Memory
refused_message {e = faults.Memory} q m short h = refl
refused_message {e = faults.MessageLimit} q m short h = absurd (omega (arith, short, h))
refused_message {s = s} {k = k} {v = v} {o = o} {e = faults.BitDecodeError u} q m short h =
    absurd (h.fault.none v k (subst (λ t. Reads s t v k o) q m))
refused_message {e = faults.NoType x} q m short h = absurd h
refused_message {e = faults.NoValue x} q m short h = absurd h
refused_message {e = faults.BadWords x} q m short h = absurd h
refused_message {e = faults.Help x} q m short h = absurd h
refused_message {e = faults.File x} q m short h = absurd h
refused_message {e = faults.NoFile x} q m short h = absurd h
refused_message {e = faults.Folder x} q m short h = absurd h
refused_message {e = faults.Newer x} q m short h = absurd h
refused_message {e = faults.NoNewerType x} q m short h = absurd h
refused_message {e = faults.Front x} q m short h = absurd h
refused_message {e = faults.Value x} q m short h = absurd h
refused_message {e = faults.Notation x} q m short h = absurd h
refused_message {e = faults.TooLong} q m short h = absurd h
refused_message {e = faults.Device n} q m short h = absurd h
refused_message {e = faults.DecodeError u} q m short h = absurd h
refused_message {e = faults.NotAccount x} q m short h = absurd h

-- a message of a value of the named type is refused for want of memory alone
pub message_refused : (p : Program) (s : List Resolved) (name o : List ℕ) (t k : ℕ) (v : AbstractValue) (e : Fault)
    → ((u : ℕ) → Names p name u → t ≡ u)
    → TypeNamed p name t
    → Reads s t v k o
    → length o ≤ 16777216
    → IsNotUnpackedAs p s name o e
    → e ≡ faults.Memory
message_refused p s name o t k v faults.Memory one n m short h = refl
message_refused p s name o t k v (faults.NoType x) one n m short h = absurd (h.1 t n)
message_refused p s name o t k v faults.MessageLimit one n m short h = refused_message
    (one h.type h.named) m short h.fault
message_refused p s name o t k v (faults.BitDecodeError u) one n m short h = refused_message
    (one h.type h.named) m short h.fault
message_refused p s name o t k v (faults.NoValue x) one n m short h = absurd h
message_refused p s name o t k v (faults.BadWords x) one n m short h = absurd h
message_refused p s name o t k v (faults.Help x) one n m short h = absurd h
message_refused p s name o t k v (faults.File x) one n m short h = absurd h
message_refused p s name o t k v (faults.NoFile x) one n m short h = absurd h
message_refused p s name o t k v (faults.Folder x) one n m short h = absurd h
message_refused p s name o t k v (faults.Newer x) one n m short h = absurd h
message_refused p s name o t k v (faults.NoNewerType x) one n m short h = absurd h
message_refused p s name o t k v (faults.Front x) one n m short h = absurd h
message_refused p s name o t k v (faults.Value x) one n m short h = absurd h
message_refused p s name o t k v (faults.Notation x) one n m short h = absurd h
message_refused p s name o t k v faults.TooLong one n m short h = absurd h
message_refused p s name o t k v (faults.Device n) one n' m short h = absurd h
message_refused p s name o t k v (faults.DecodeError u) one n m short h = absurd h
message_refused p s name o t k v (faults.NotAccount x) one n m short h = absurd h

-- the message that is written of a value is refused for want of memory alone
pub written_refused : (p : Program) (s : List Resolved) (first : List ℕ) (second : Given) (o : List ℕ) (e : Fault)
    (w : IsPacked p s first second o)
    → ((v : AbstractValue) × Same s w.type w.value v × Reads s w.type v 0 o)
    → IsNotUnpackedAs p s first o e
    → e ≡ faults.Memory
written_refused p s first second o e w b h =
    message_refused p s first o w.type 0 b.0 e (λ u n. n.only w.type w.meant.named.typed) w.meant.named.typed b.2
    w.message.not_too_long h

-- what is read is refused for want of memory alone
pub unpacked_refused : (p : Program) (s : List Resolved) (name o printed : List ℕ) (k : ℕ) (e : Fault)
    → IsUnpackedAs p s name o printed k
    → IsNotUnpackedAs p s name o e
    → e ≡ faults.Memory
unpacked_refused p s name o printed k e r h =
    message_refused p s name o r.type k r.read.value e (λ u n. n.only r.type r.named.is) r.named.is r.read.by_bits.reads
    r.read.by_bits.short h
