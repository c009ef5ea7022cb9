-- What is read of octets, why nothing is, and what follows for the encodings of values.
use Rattle.std.proofs.Common.{◌≡◌, ◌⊎◌, inl, inr, ◌↔◌, refl, sym, ◌∙◌, subst, ap, ℕ, ◌<◌, ◌≤◌, List, length, Option, Some, Result, Ok, Err}
use Rattle.std.specs.Prelude.{IfErr}
use Rattle.std.proofs.lemmas.Option.{slice_get_within}
use Rattle.asn_base.specs.Abstract.{AbstractValue}
use Rattle.asn_base.specs.Same.{Same}
use Rattle.asn_base.specs.Typed.{ValueIn, value_in}
use Rattle.asn_base.specs.Types.{Resolved}
use Rattle.encodings.specs.Account.{Account}
use Rattle.encodings.specs.Encoding.{EncodesTo}
use Rattle.encodings.specs.Levels.{levels}
use Rattle.encodings.specs.Rules.{Rules, Basic, Distinguished}
use Rattle.decode_faults.specs.declared.read_fault.ReadFault.{ReadFault}
use Rattle.decode_faults.specs.declared.read_fault.ReadFault.TheVariants as reading
use Rattle.ber_reader.specs.Messages.{IsEncoding, BeginsEncoding, HasEncodingFirst, HasMessageFirst}
use Rattle.resolve.specs.Program.{Program}
use Rattle.judging.specs.messages.declared.fault.Fault.{Fault}
use Rattle.judging.specs.messages.declared.fault.Fault.TheVariants as faults
use Rattle.codec_code.specs.Routines.{id_of}
use Rattle.ber_reader.specs.Readings.{IsRefused}
use Rattle.asnc.specs.Headline.{IsAnswer, IsMessageOf}
use Rattle.judging.specs.named_values.Named.{TypeNamed}
use Rattle.asnc.specs.Reading.{IsNotDer, IsNotReadAs, IsRead, IsReadFault, rules_of}
use Rattle.asnc.specs.Writing.{IsEncoded}
use Rattle.asnc.specs.declared.reading.Rules.{Rules as Rules'}
use Rattle.asnc.specs.declared.reading.Rules.TheVariants as asked
use Rattle.encodings.specs.proving.Weaker.{basic_of}
use Rattle.judging.specs.named_values.Given.{Given}

-- a type that has a value is there
pub type_there : {s : List Resolved} {n t : ℕ} {v : AbstractValue} → ValueIn s n t v → t < length s
type_there {s} {n} {t} (value_in i o) = slice_get_within s t _ i.found

-- of two faults it is the one that isn't `Memory`
only_trailing : {Z : Type 0} (r : Result Z ReadFault) (e : ReadFault) → r ≡ Err e → (e ≡ reading.Memory → ⊥)
    → (r ≡ Err reading.Trailing) ⊎ (r ≡ Err reading.Memory) → e ≡ reading.Trailing
only_trailing r e q n (inl f) = let g = sym q ∙ f in cc
only_trailing r e q n (inr f) = absurd (n (let g = sym q ∙ f in cc))

only_not_der : {Z : Type 0} (r : Result Z ReadFault) (e : ReadFault) → r ≡ Err e → (e ≡ reading.Memory → ⊥)
    → (r ≡ Err reading.NotDer) ⊎ (r ≡ Err reading.Memory) → e ≡ reading.NotDer
only_not_der r e q n (inl f) = let g = sym q ∙ f in cc
only_not_der r e q n (inr f) = absurd (n (let g = sym q ∙ f in cc))

-- a fault other than `Memory` is true
pub unread_by : {Z : Type 0} (s : List Resolved) (l : Rules) (t : ℕ) (o : List ℕ) (r : Result Z ReadFault)
    (e : ReadFault)
    → r ≡ Err e
    → (e ≡ reading.Memory → ⊥)
    → ((i : IsEncoding s t o) → EncodesTo s l t i.value i.count o → IfErr r (λ f. f ≡ reading.Memory))
    →
    ((i : IsEncoding s t o) → (EncodesTo s l t i.value i.count o → ⊥) → (r ≡ Err reading.NotDer) ⊎ (r ≡ Err reading.Memory))
    → (r ≡ Err reading.NotDer → (l ≡ Distinguished) × IsNotDer s t o)
    → (16777216 < length o → r ≡ Err reading.MessageLimit)
    → (r ≡ Err reading.MessageLimit → 16777216 < length o)
    → (HasEncodingFirst s t o → (r ≡ Err reading.Trailing) ⊎ (r ≡ Err reading.Memory))
    → (r ≡ Err reading.Trailing → HasMessageFirst s t o)
    → (BeginsEncoding s t o → r ≡ Err reading.Truncated)
    → IfErr r (λ f. (f ≡ reading.Memory → ⊥) → (f ≡ reading.NotDer → ⊥) → IsRefused s (id_of t) o f)
    → IsReadFault s l t o e
unread_by s l t o r e q n read basic not_der limit long more trailing truncated_value why = record {
  none = λ i a. n (subst (λ x. IfErr x (λ f. f ≡ reading.Memory)) q (read i a));
  basic = λ i a. only_not_der r e q n (basic i a);
  not_der = λ m. not_der (q ∙ ap Err m);
  limit = λ l. (let g = sym q ∙ limit l in cc);
  long = λ m. long (q ∙ ap Err m);
  more = λ h. only_trailing r e q n (more h);
  trailing = λ m. trailing (q ∙ ap Err m);
  truncated_value = λ b. (let g = sym q ∙ truncated_value b in cc);
  why = subst
      (λ x. IfErr x (λ f. (f ≡ reading.Memory → ⊥) → (f ≡ reading.NotDer → ⊥) → IsRefused s (id_of t) o f)) q why n;
}

-- what holds of any refusal
pub of_any : {Z : Type 0} (P : ReadFault → Type 0) (r : Result Z ReadFault)
    → IfErr r (λ f. (f ≡ reading.Memory → ⊥) → P f)
    → IfErr r (λ f. (f ≡ reading.Memory → ⊥) → (f ≡ reading.NotDer → ⊥) → P f)
of_any P (Ok z) h = h
of_any P (Err e) h = λ n m. h n

-- what was read of an encoding of a value is that value
pub answer_of : {p : Program} {s : List Resolved} {l : Rules} {name o printed : List ℕ} {k t : ℕ} {v : AbstractValue}
    (w : AbstractValue)
    → TypeNamed p name t
    → IsRead s l t o printed k
    → Same s t v w
    → EncodesTo s Basic t w 0 o
    → IsAnswer p s name printed k v
answer_of {p} {s} {l} {name} {o} {printed} {k} {t} {v} w n r sm sy =
    let q = r.only w 0 (record { value = sm.second; says_it = sy }) in
    record {
      type = t;
      named = n;
      value = r.value;
      same = subst (Same s t v) q.0 sm;
      text = r.text;
      none_skipped = sym q.1;
    }

-- it is a message that is read
pub message_is_read : {p : Program} {s : List Resolved} {name o : List ℕ} {v : AbstractValue}
    (m : IsMessageOf p s name o v)
    → IsEncoding s m.type o
message_is_read m = record {
  value = m.ber.0;
  count = 0;
  is_value = m.ber.1.second;
  is_encoded = m.ber.2;
  few = m.few;
  short = m.short;
}

none_of : {s : List Resolved} {l : Rules} {o : List ℕ} {e : ReadFault} (t u : ℕ)
    (i : IsEncoding s t o) → t ≡ u → EncodesTo s l t i.value i.count o → IsReadFault s l u o e → ⊥
none_of {s = s} {l = l} {o = o} {e = e} t u i q y r =
    let n = subst (λ t. IsReadFault s l t o e) (sym q) r in
    n.none i y

-- octets that encode a value of the named type by these rules have no fault other than `Memory`
pub encoding_is_read : (p : Program) (s : List Resolved) (l : Rules) (name o : List ℕ) (e : Fault) (t : ℕ)
    (named : TypeNamed p name t)
    (i : IsEncoding s t o)
    → EncodesTo s l t i.value i.count o
    → IsNotReadAs p s l name o e
    → e ≡ faults.Memory
encoding_is_read p s l name o faults.Memory t m i y r = refl
encoding_is_read p s l name o (faults.NoType x) t m i y r = absurd (r.1 t m)
encoding_is_read p s l name o (faults.DecodeError u) t m i y r = absurd
    (none_of t r.type i (r.named.only t m) y r.unread.unread)
encoding_is_read p s l name o (faults.NoValue x) t m i y r = absurd r
encoding_is_read p s l name o (faults.BadWords x) t m i y r = absurd r
encoding_is_read p s l name o (faults.Help x) t m i y r = absurd r
encoding_is_read p s l name o (faults.File x) t m i y r = absurd r
encoding_is_read p s l name o (faults.NoFile x) t m i y r = absurd r
encoding_is_read p s l name o (faults.Folder x) t m i y r = absurd r
encoding_is_read p s l name o (faults.Newer x) t m i y r = absurd r
encoding_is_read p s l name o (faults.NoNewerType x) t m i y r = absurd r
encoding_is_read p s l name o (faults.Front x) t m i y r = absurd r
encoding_is_read p s l name o (faults.Value x) t m i y r = absurd r
encoding_is_read p s l name o (faults.Notation x) t m i y r = absurd r
encoding_is_read p s l name o faults.TooLong t m i y r = absurd r
encoding_is_read p s l name o (faults.BitDecodeError u) t m i y r = absurd r
encoding_is_read p s l name o faults.MessageLimit t m i y r = absurd r
encoding_is_read p s l name o (faults.Device n) t m i y r = absurd r
encoding_is_read p s l name o (faults.NotAccount x) t m i y r = absurd r

-- an encoding of a value by these rules has no fault other than `Memory`
pub never_refused : (p : Program) (s : List Resolved) (l : Rules) (name o : List ℕ) (v : AbstractValue) (e : Fault)
    (m : IsMessageOf p s name o v)
    → EncodesTo s l m.type m.ber.0 0 o
    → IsNotReadAs p s l name o e
    → e ≡ faults.Memory
unfolding message_is_read
never_refused p s l name o v e m y r = encoding_is_read p s l name o e m.type m.named (message_is_read m) y r

-- what is written of a value says it by either rules
says_by : (l : Rules') {s : List Resolved} {t : ℕ} {w : AbstractValue} {o : List ℕ} → EncodesTo s Distinguished t w 0 o
    → EncodesTo s (rules_of l) t w 0 o
says_by asked.Ber d = basic_of d
says_by asked.Der d = d

-- it is a message of the value
pub written_message : {p : Program} {s : List Resolved} {first : List ℕ} {second : Given} {o : List ℕ} {a : Account}
    → ((t : ℕ) (w : AbstractValue) (d : EncodesTo s Distinguished t w 0 o) (b : EncodesTo s Basic t w 0 o) → levels b ≡ levels d)
    → (m : IsEncoded p s first second o a)
    → IsMessageOf p s first o m.value
written_message {p} {s} {first} {second} {o} {a} one m =
    let d = m.encoding.der in
    record {
      type = m.type;
      named = m.meant.named.typed;
      is = m.encoding.value;
      ber = (d.0, d.1, basic_of d.2);
      few = subst (λ q. q ≤ 400) (sym (one m.type d.0 d.2 (basic_of d.2))) (m.encoding.few_levels d.0 d.2 d.1.second);
      short = m.encoding.not_too_long;
    }

-- and is read back, by either rules
pub written_is_read : {p : Program} {s : List Resolved} {first : List ℕ} {second : Given} {o : List ℕ} {a : Account}
    (l : Rules') (e : Fault)
    → ((t : ℕ) (w : AbstractValue) (d : EncodesTo s Distinguished t w 0 o) (b : EncodesTo s Basic t w 0 o) → levels b ≡ levels d)
    → IsEncoded p s first second o a
    → IsNotReadAs p s (rules_of l) first o e
    → e ≡ faults.Memory
unfolding written_message
written_is_read {p} {s} {first} {second} {o} {a} l e one m r =
    never_refused p s (rules_of l) first o m.value e (written_message one m) (says_by l m.encoding.der.2) r
