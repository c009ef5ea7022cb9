-- What is read of a message.
use Rattle.std.proofs.Common.{arith, ◌≡◌, ℕ, ◌<◌, ◌≤◌, Bool, true, false, List, [], ◌∷◌, ◌++◌, length, refl, sym, ap, subst, ◌∙◌, append-nil, length-append}
use Rattle.asn_base.specs.Abstract.{AbstractValue}
use Rattle.asn_base.specs.Types.{Resolved}
use Rattle.encodings.specs.Rules.{Rules, Basic}
use Rattle.encodings.specs.Encoding.{EncodesTo, says}
use Rattle.encodings.specs.Levels.{levels}
use Rattle.octet_answers.specs.States.{State, Token, front}
use Rattle.laws_reading.specs.Saying.{StartsWithEncoding}
use Rattle.laws_reading.specs.TokensShow.{TokensShow, skipped_in, AreSlicesOf}
use Rattle.octets.specs.Fronts.{EndsEarly, in_header, in_contents}
use Rattle.std.proofs.Common.{◌⊎◌, inl, inr, ⊎_elim, append_assoc}
use Rattle.asn_base.specs.declared.tag.Tag.{Tag}
use Rattle.asn_base.specs.declared.schema.TypeId.{TypeId}
use Rattle.codec_code.specs.Routines.{routine_at}
use Rattle.codec_source.specs.Reading.{Reads}
use Rattle.decode_faults.specs.declared.read_fault.ReadFault.{ReadFault}
use Rattle.decode_faults.specs.declared.read_fault.ReadFault.TheVariants as faults
use Rattle.octet_answers.specs.Answers.{Takes}
use Rattle.octets.specs.Fronts.{HeaderAt}
use Rattle.laws_reading.specs.Saying.{AreUnit, IsReadTo}
use Rattle.ber_reader.specs.Messages.{IsMessage, HasMessageFirst, IsEncoding, BeginsEncoding}
use Rattle.ber_reader.proofs.Plain.{front_or, rest_of}
use Rattle.ber_reader.proofs.Rows.{found_below}

pub record SaidWithin (s : List Resolved) (t : ℕ) (w : AbstractValue) (k : ℕ) (o : List ℕ) : Type 0 where
  pub is_encoded : EncodesTo s Basic t w k o
  pub few : levels is_encoded ≤ 400

pub whole_message : {s : List Resolved} {t : ℕ} {o : List ℕ} {z : State} (ts : List Token)
    → StartsWithEncoding s t o z
    → z.here.octets ≡ []
    → length o ≤ 16777216
    → ts ≡ z.emitted
    → IsMessage s t o ts
whole_message {s} {t} {o} {z} ts i e l f =
    let w : o ≡ i.octets = i.whole ∙ ap (λ q. i.octets ++ q) e ∙ append-nil i.octets in
    let d : SaidWithin s t i.value i.count o = subst (SaidWithin s t i.value i.count) (sym w) (record { is_encoded = i.is_encoded; few = i.few }) in
    record {
      value = i.value;
      count = i.count;
      is_encoded = d.is_encoded;
      few = d.few;
      short = l;
      shown = subst (TokensShow s t i.value) (sym f) i.shown;
      counted = ap skipped_in f ∙ i.counted;
      slices = subst (AreSlicesOf o) (sym f) i.slices;
    }

-- after a whole message the place is its end
pub at_last : {s : List Resolved} {t : ℕ} {o : List ℕ} {z : State} → StartsWithEncoding s t o z → z.here.octets ≡ [] → z.here.at ≡ length o
at_last {z = z} i e =
    let a = ap length i.whole in
    let b = length-append i.octets z.here.octets in
    let c = ap length e in
    let d = i.place in
    omega arith

some_left : (o : List ℕ) → (o ≡ [] → ⊥) → 1 ≤ length o
some_left [] n = absurd (n refl)
some_left (x ∷ o) n = omega arith

pub front_message : {s : List Resolved} {t : ℕ} {o : List ℕ} {z : State}
    → StartsWithEncoding s t o z
    → (z.here.octets ≡ [] → ⊥)
    → HasMessageFirst s t o
front_message {z = z} i n = record {
  value = i.value;
  count = i.count;
  octets = i.octets;
  rest = z.here.octets;
  is_encoded = i.is_encoded;
  whole = i.whole;
  some = some_left z.here.octets n;
}

-- ---- what is read

-- octets encode a value only of a type that is there
pub says_type : {s : List Resolved} {r : Rules} {t k : ℕ} {w : AbstractValue} {o : List ℕ} → EncodesTo s r t w k o → t < length s
says_type {s} {t = t} (says i h f) = found_below s t _ i.found

pub encoding_type : {s : List Resolved} {t : ℕ} {o : List ℕ} → IsEncoding s t o → t < length s
encoding_type i = says_type i.is_encoded

-- of two lists that begin another one, one begins the other
data Split (h x o r : List ℕ) : Type 0 where
  within : (m : List ℕ) → h ≡ o ++ m → 1 ≤ length m → Split h x o r
  following : (m : List ℕ) → o ≡ h ++ m → x ≡ m ++ r → Split h x o r

split : (h x o r : List ℕ) → h ++ x ≡ o ++ r → Split h x o r
split [] x o r e = following o refl e
split (a ∷ h) x [] r e = within (a ∷ h) refl (omega arith)
split (a ∷ h) x (b ∷ o) r e = by (split h x o r (ap rest_of e)) (ap (front_or 0) e)
  where
    by : Split h x o r → a ≡ b → Split (a ∷ h) x (b ∷ o) r
    by (within m f l) g = within m (ap (λ q. a ∷ q) f ∙ ap (λ q. q ∷ (o ++ m)) g) l
    by (following m f l) g = following m (ap (λ q. b ∷ q) f ∙ ap (λ q. q ∷ (h ++ m)) (sym g)) l

-- a proper front of an encoding ends early
pub ends_before : {s : List Resolved} {t : ℕ} {o : List ℕ} (b : BeginsEncoding s t o) → AreUnit b.octets → EndsEarly o
ends_before {o = o} b u = by (split u.header u.contents o b.missing (sym u.whole ∙ b.whole))
  where
    by : Split u.header u.contents o b.missing → EndsEarly o
    by (within m f l) = in_header m u.is_header f l
    by (following m f g) =
        let a = ap length u.whole in
        let c = length-append u.header u.contents in
        let d = ap length g in
        let e = length-append m b.missing in
        let x = b.is.short in
        let y = b.some in
        in_contents m u.is_header (omega arith) f (omega arith)

-- octets that begin with a header and its contents
pub record Headed (o : List ℕ) : Type 0 where
  pub tag : Tag
  pub constructed : Bool
  pub count : ℕ
  pub size : ℕ
  pub header : HeaderAt tag constructed count size o

pub headed : {p : List ℕ} (r o : List ℕ) → AreUnit p → o ≡ p ++ r → length o ≤ 16777216 → Headed o
headed {p} r o u e l =
    let a = ap length e in
    let b = length-append p r in
    let c = ap length u.whole in
    let d = length-append u.header u.contents in
    let f = length-append u.contents r in
    record {
      tag = u.tag;
      constructed = u.constructed;
      count = length u.contents;
      size = length u.header;
      header = record { header = u.header; rest = u.contents ++ r; is_header = u.is_header; few = omega arith; long = refl; whole = e ∙ ap (λ q. q ++ r) u.whole ∙ append_assoc u.header u.contents r; follow = omega arith };
    }

-- a fault is `Memory`, or another one
memory_or_not : (f : ReadFault) → (f ≡ faults.Memory) ⊎ (f ≡ faults.Memory → ⊥)
memory_or_not faults.Memory = inl refl
memory_or_not faults.MessageLimit = inr (λ e. cc)
memory_or_not faults.IntegerLimit = inr (λ e. cc)
memory_or_not faults.OidLimit = inr (λ e. cc)
memory_or_not faults.Truncated = inr (λ e. cc)
memory_or_not faults.Indefinite = inr (λ e. cc)
memory_or_not faults.BadLength = inr (λ e. cc)
memory_or_not faults.BadTag = inr (λ e. cc)
memory_or_not faults.UnexpectedTag = inr (λ e. cc)
memory_or_not faults.Missing = inr (λ e. cc)
memory_or_not faults.BadContents = inr (λ e. cc)
memory_or_not faults.EmptySegments = inr (λ e. cc)
memory_or_not faults.OutsideConstraint = inr (λ e. cc)
memory_or_not faults.Trailing = inr (λ e. cc)
memory_or_not faults.TooDeep = inr (λ e. cc)
memory_or_not faults.NotDer = inr (λ e. cc)

-- only `Memory` is left as the fault
pub fault_memory : (f : ReadFault) → ((f ≡ faults.Memory → ⊥) → ⊥) → f ≡ faults.Memory
fault_memory f n = ⊎_elim (λ e. e) (λ m. absurd (n m)) (memory_or_not f)

-- what is decoded of octets that others follow
pub record ReadOf (s : List Resolved) (t : TypeId) (o r : List ℕ) (budget : ℕ) : Type 0 where
  pub last : State
  pub reads : Reads (λ u. routine_at s u) Takes t (front s o budget) last
  pub following : last.here.octets ≡ r

pub read_of : {s : List Resolved} {t : TypeId} {p r : List ℕ} {budget : ℕ} (o : List ℕ) → IsReadTo s t p r budget → o ≡ p ++ r → ReadOf s t o r budget
read_of {s} {t} {p} {r} {budget} o i e = record { last = i.last; reads = subst (λ q. Reads (λ u. routine_at s u) Takes t (front s q budget) i.last) (sym e) i.reads; following = i.following }

pub true_false : {b : Bool} → b ≡ true → b ≡ false → ⊥
true_false e f = cc

pub none_there : (r : List ℕ) → 1 ≤ length r → r ≡ [] → ⊥
none_there r l e = let a = ap length e in omega arith
