-- How versions of a type read each other's messages of canonical PER.
use Rattle.std.proofs.Common.{◌≡◌, sym, subst, ℕ, ◌≤◌, List, length, true}
use Rattle.asn_base.specs.Abstract.{AbstractValue}
use Rattle.asn_base.specs.Same.{Same}
use Rattle.asn_base.specs.Types.{Resolved}
use Rattle.later_versions.specs.Projected.{projected}
use Rattle.packed_encodings.specs.Packing.{Reads}
use Rattle.packed_writer.specs.Message.{IsMessage}
use Rattle.version_laws.specs.LeftOut.{left_out_packed}
use Rattle.version_laws.specs.Lifted.{lifted}
use Rattle.resolve.specs.Program.{Program}
use Rattle.judging.specs.messages.declared.fault.Fault.{Fault}
use Rattle.judging.specs.messages.declared.fault.Fault.TheVariants as faults
use Rattle.judging.specs.named_values.Named.{Names}
use Rattle.asnc.specs.Packing.{IsPacked}
use Rattle.asnc.specs.Unpacking.{IsNotUnpackedAs, IsUnpackedAs}
use Rattle.asnc.specs.Versions.{IsCompared, IsPackedKeptAnswer, IsWidenedAnswer}
use Rattle.asnc.proofs.ReadBack.{message_refused, unpacked_of}
use Rattle.judging.specs.named_values.Given.{Given}

-- the message of a named value is one of a value of the type that its name finds
pub message_of_named : {p : Program} {s : List Resolved} {first : List ℕ} {second : Given} {o : List ℕ} {t : ℕ} →
    Names p first t
    → (w : IsPacked p s first second o)
    → IsMessage s t w.value o
message_of_named {s = s} {o = o} n w = subst (λ u. IsMessage s u w.value o)
    (n.only w.type w.meant.named.typed) w.message

-- what a type keeps, or makes, of a value is read of octets, with so many additions
abbrev pub IsReadFrom : List Resolved → ℕ → AbstractValue → ℕ → List ℕ → Type 0
IsReadFrom s t v k o = (w : AbstractValue) × Same s t v w × Reads s t w k o

pub older_packed : {p q : Program} {s r : List Resolved} {name o printed : List ℕ} {k : ℕ} {v : AbstractValue}
    (c : IsCompared p s q r name true)
    → IsReadFrom s c.older (projected s c.older v) (left_out_packed s c.older r c.newer v) o
    → IsUnpackedAs p s name o printed k
    → IsPackedKeptAnswer p s r c.newer name printed k v
older_packed {s = s} {r = r} {v = v} c b a =
    let q = unpacked_of c.older a (a.named.only c.older c.older_named.is) in
    let e = q.by_bits.only b.0 (left_out_packed s c.older r c.newer v) b.2 in
    record {
      type = c.older;
      named = c.older_named.is;
      value = q.value;
      same = subst (Same s c.older (projected s c.older v)) e.0 b.1;
      text = q.text;
      skipped = sym e.1;
    }

pub newer_packed : {p q : Program} {s r : List Resolved} {name o printed : List ℕ} {k : ℕ} {v : AbstractValue}
    (c : IsCompared p s q r name true)
    → IsReadFrom r c.newer (lifted r c.newer v) 0 o
    → IsUnpackedAs q r name o printed k
    → IsWidenedAnswer q r name printed k v
newer_packed {r = r} {v = v} c b a =
    let q = unpacked_of c.newer a (a.named.only c.newer c.newer_named.is) in
    let e = q.by_bits.only b.0 0 b.2 in
    record {
      type = c.newer;
      named = c.newer_named.is;
      value = q.value;
      same = subst (Same r c.newer (lifted r c.newer v)) e.0 b.1;
      text = q.text;
      none_skipped = sym e.1;
    }

pub refused_packed : (p : Program) (s : List Resolved) (name o : List ℕ) (t k : ℕ) (v : AbstractValue) (e : Fault)
    → Names p name t
    → IsReadFrom s t v k o
    → length o ≤ 16777216
    → IsNotUnpackedAs p s name o e
    → e ≡ faults.Memory
refused_packed p s name o t k v e n b short h =
    message_refused p s name o t k b.0 e (λ u m. m.only t n.is) n.is b.2 short h
