-- A question with an answer has no fault other than `Memory`.
use Rattle.std.proofs.Common.{◌≡◌, inl, inr, ℕ, List, refl, arith, ap, subst}
use Rattle.asn_base.specs.Abstract.{AbstractValue}
use Rattle.asn_base.specs.Types.{Resolved}
use Rattle.encodings.specs.Account.{Account}
use Rattle.encodings.specs.Encoding.{Der}
use Rattle.encodings.specs.Rules.{Rules}
use Rattle.packed_encodings.specs.Packing.{Packed}
use Rattle.packed_encodings.specs.Weights.{weight}
use Rattle.resolve.specs.Program.{Program}
use Rattle.judging.specs.front_end.Accepted.{AreAccepted, IsCheckedProgram}
use Rattle.judging.specs.front_end.Faults.{IsRightCompileError}
use Rattle.judging.specs.front_end.declared.fault.CompileError.{CompileError}
use Rattle.judging.specs.front_end.declared.fault.CompileError.TheVariants as texts
use Rattle.decode_faults.specs.declared.read_fault.ReadFault.{ReadFault}
use Rattle.judging.specs.messages.declared.fault.Fault.{Fault}
use Rattle.judging.specs.messages.declared.fault.Fault.TheVariants as faults
use Rattle.asnc.specs.Kits.{IsNotOpened}
use Rattle.asnc.specs.Packing.{HasLongBits, IsNotPacked, IsPacked}
use Rattle.asnc.specs.Reading.{IsNotReadAs, IsReadAs, IsReadFault}
use Rattle.asnc.specs.Writing.{IsEncoded, IsNotEncoded, HasLongEncoding}
use Rattle.judging.specs.named_values.Meant.{IsMeant, IsNotMeant}
use Rattle.judging.specs.named_values.Given.{Given}

-- ---- texts

pub opened : ((xs : List (List ℕ)) (p : Program) (f : CompileError) → (f ≡ texts.Memory → ⊥) → IsRightCompileError xs f →
    AreAccepted xs p → ⊥) → (xs : List (List ℕ)) (p : Program) (e : Fault) → AreAccepted xs p → IsNotOpened xs e →
    e ≡ faults.Memory
opened law xs p faults.Memory a h = refl
opened law xs p (faults.Front f) a h = absurd (law xs p f h.0 h.1 a)
opened law xs p (faults.NoType x) a h = absurd h
opened law xs p (faults.NoValue x) a h = absurd h
opened law xs p (faults.DecodeError u) a h = absurd h
opened law xs p (faults.BadWords x) a h = absurd h
opened law xs p (faults.Help x) a h = absurd h
opened law xs p (faults.File x) a h = absurd h
opened law xs p (faults.NoFile x) a h = absurd h
opened law xs p (faults.Folder x) a h = absurd h
opened law xs p (faults.Newer x) a h = absurd h
opened law xs p (faults.NoNewerType x) a h = absurd h
opened law xs p (faults.Value x) a h = absurd h
opened law xs p (faults.Notation x) a h = absurd h
opened law xs p faults.TooLong a h = absurd h
opened law xs p (faults.BitDecodeError u) a h = absurd h
opened law xs p faults.MessageLimit a h = absurd h
opened law xs p (faults.Device n) a h = absurd h
opened law xs p (faults.NotAccount s) a h = absurd h

-- ---- values

abbrev pub OneMeaning : Type 0
OneMeaning = (p : Program) (first : List ℕ) (second : Given) (t u : ℕ) (v w : AbstractValue) → IsCheckedProgram p →
    IsMeant p first second t v →
    IsMeant p first second u w → (t ≡ u) × (v ≡ w)

abbrev pub Refuses : Type 0
Refuses = (p : Program) (first : List ℕ) (second : Given) (t : ℕ) (v : AbstractValue) (e : Fault) → IsCheckedProgram p →
    IsMeant p first second t v → IsNotMeant p first second e → e ≡ faults.Memory

not_long : {p : Program} {s : List Resolved} {first : List ℕ} {second : Given} {o : List ℕ} {a : Account} → OneMeaning →
    IsCheckedProgram p →
    IsEncoded p s first second o a → HasLongEncoding p s first second → ⊥
not_long {p} {s} {first} {second} {o} one kept m n =
    let e = one p first second m.type n.type m.value n.value kept m.meant n.meant in
    let d = subst (λ w. Der s n.type w 0 o) e.1 (subst (λ t. Der s t m.value 0 o) e.0 m.encoding.der) in
    let g = n.longer o d in
    let z = m.encoding.not_too_long in
    absurd (omega (arith, g, z))

pub written : OneMeaning → Refuses → (p : Program) (s : List Resolved) (first : List ℕ) (second : Given) (o : List ℕ)
    (a : Account) (e : Fault) → IsCheckedProgram p →
    IsEncoded p s first second o a → IsNotEncoded p s first second e → e ≡ faults.Memory
written one refused p s first second o a e kept m (inl h) = refused p first second m.type m.value e kept m.meant h
written one refused p s first second o a e kept m (inr h) = absurd (not_long one kept m h.1)

not_long_bits : {p : Program} {s : List Resolved} {first : List ℕ} {second : Given} {o : List ℕ} → OneMeaning →
    IsCheckedProgram p →
    IsPacked p s first second o → HasLongBits p s first second → ⊥
not_long_bits {p} {s} {first} {second} {o} one kept m n =
    let e = one p first second m.type n.type m.value n.value kept m.meant n.meant in
    let b = m.message.bits in
    let d = subst (λ w. Packed s n.type w b) e.1 (subst (λ t. Packed s t m.value b) e.0 m.message.packed) in
    let z = m.message.not_too_long in
    let l = m.message.light in
    let v = ap weight e.1 in
    elim n.longer [
      | inl g ↦ absurd (omega (arith, g, v, l))
      | inr f ↦ absurd (let g = f b o d m.message.filled in omega (arith, g, z))
    ]

pub packed : OneMeaning → Refuses → (p : Program) (s : List Resolved) (first : List ℕ) (second : Given) (o : List ℕ)
    (e : Fault) → IsCheckedProgram p →
    IsPacked p s first second o → IsNotPacked p s first second e → e ≡ faults.Memory
packed one refused p s first second o e kept m (inl h) = refused p first second m.type m.value e kept m.meant h
packed one refused p s first second o e kept m (inr h) = absurd (not_long_bits one kept m h.1)

-- ---- octets

none_read : {p : Program} {s : List Resolved} {r : Rules} {name o printed : List ℕ} {k : ℕ} {f : ReadFault} (u : ℕ)
    (m : IsReadAs p s r name o printed k) → u ≡ m.type → IsReadFault s r u o f → ⊥
none_read {s = s} {r = r} {o = o} {k = k} {f = f} u m e h =
    let n = subst (λ t. IsReadFault s r t o f) e h in
    let q = m.read in
    n.none (record {
      value = q.value;
      count = k;
      is_value = q.encodes.value;
      is_encoded = q.encodes.says_it;
      few = q.few;
      short = q.short;
    }) q.by_rules

pub read : (p : Program) (s : List Resolved) (r : Rules) (name o printed : List ℕ) (k : ℕ) (e : Fault) →
    IsReadAs p s r name o printed k → IsNotReadAs p s r name o e → e ≡ faults.Memory
read p s r name o printed k faults.Memory m h = refl
read p s r name o printed k (faults.NoType x) m h = absurd (h.1 m.type m.named.is)
read p s r name o printed k (faults.DecodeError u) m h =
    absurd (none_read h.type m (m.named.only h.type h.named.is) h.unread.unread)
read p s r name o printed k (faults.NoValue x) m h = absurd h
read p s r name o printed k (faults.BadWords x) m h = absurd h
read p s r name o printed k (faults.Help x) m h = absurd h
read p s r name o printed k (faults.File x) m h = absurd h
read p s r name o printed k (faults.NoFile x) m h = absurd h
read p s r name o printed k (faults.Folder x) m h = absurd h
read p s r name o printed k (faults.Newer x) m h = absurd h
read p s r name o printed k (faults.NoNewerType x) m h = absurd h
read p s r name o printed k (faults.Front x) m h = absurd h
read p s r name o printed k (faults.Value x) m h = absurd h
read p s r name o printed k (faults.Notation x) m h = absurd h
read p s r name o printed k faults.TooLong m h = absurd h
read p s r name o printed k (faults.BitDecodeError u) m h = absurd h
read p s r name o printed k faults.MessageLimit m h = absurd h
read p s r name o printed k (faults.Device n) m h = absurd h
read p s r name o printed k (faults.NotAccount x) m h = absurd h
