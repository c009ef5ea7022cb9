-- How versions of a type read each other's messages.
use Rattle.std.proofs.Common.{◌≡◌, sym, subst, refl, ℕ, ◌≤◌, List, length, true}
use Rattle.asn_base.specs.Abstract.{AbstractValue}
use Rattle.asn_base.specs.Same.{Same}
use Rattle.asn_base.specs.Types.{Resolved}
use Rattle.encodings.specs.Account.{Account}
use Rattle.encodings.specs.Encoding.{Der, EncodesTo}
use Rattle.encodings.specs.Rules.{Rules, Basic}
use Rattle.ber_reader.specs.Messages.{IsEncoding}
use Rattle.later_versions.specs.Projected.{projected, left_out}
use Rattle.version_laws.specs.Versions.{IsReadAs as IsReadable, IsStrictlyReadAs}
use Rattle.version_laws.specs.Lifted.{lifted}
use Rattle.resolve.specs.Program.{Program}
use Rattle.judging.specs.messages.declared.fault.Fault.{Fault}
use Rattle.judging.specs.messages.declared.fault.Fault.TheVariants as faults
use Rattle.judging.specs.named_values.Named.{Names}
use Rattle.asnc.specs.Reading.{IsNotReadAs, IsRead, IsReadAs, rules_of}
use Rattle.asnc.specs.Versions.{IsCompared, IsKeptAnswer, IsWidenedAnswer}
use Rattle.asnc.specs.Writing.{IsEncoded}
use Rattle.asnc.specs.declared.reading.Rules.{Rules as Rules'}
use Rattle.asnc.specs.declared.reading.Rules.TheVariants as asked
use Rattle.asnc.proofs.MessagesRead.{encoding_is_read}
use Rattle.judging.specs.named_values.Given.{Given}

-- the encoding of a named value is one of a value of the type that its name finds
pub der_of_named : {p : Program} {s : List Resolved} {first : List ℕ} {second : Given} {o : List ℕ} {a : Account}
    {t : ℕ} → Names p first t
    → (w : IsEncoded p s first second o a)
    → Der s t w.value 0 o
der_of_named {s = s} {o = o} n w = subst (λ u. Der s u w.value 0 o) (n.only w.type w.meant.named.typed) w.encoding.der

-- what is read under a name is a value of the type that it finds
pub read_of_named : {p : Program} {s : List Resolved} {l : Rules} {name o printed : List ℕ} {k t : ℕ} → Names p name t
    → (r : IsReadAs p s l name o printed k)
    → IsRead s l t o printed k
read_of_named {s = s} {l = l} {o = o} {printed = printed} {k = k} n r =
    subst (λ u. IsRead s l u o printed k) (n.only r.type r.named.is) r.read

-- octets that are read as a value encode one
pub readable : {s : List Resolved} {t k : ℕ} {v : AbstractValue} {o : List ℕ} (m : IsReadable s t v k o) →
    length o ≤ 16777216
    → IsEncoding s t o
readable {k = k} m short = record {
  value = m.value;
  count = k;
  is_value = m.same.second;
  is_encoded = m.encodes.says_it;
  few = m.few;
  short = short;
}

pub older_answer : {p q : Program} {s r : List Resolved} {name o printed : List ℕ} {k : ℕ} {v : AbstractValue}
    (c : IsCompared p s q r name true)
    → IsReadable s c.older (projected s c.older v) (left_out s c.older v) o
    → IsReadAs p s Basic name o printed k
    → IsKeptAnswer p s name printed k v
older_answer {s = s} {v = v} c m a =
    let d = read_of_named c.older_named a in
    let q = d.only m.value (left_out s c.older v) m.encodes in
    record {
      type = c.older;
      named = c.older_named.is;
      value = d.value;
      same = subst (Same s c.older (projected s c.older v)) q.0 m.same;
      text = d.text;
      skipped = sym q.1;
    }

pub newer_answer : {p q : Program} {s r : List Resolved} {l : Rules} {name o printed : List ℕ} {k : ℕ}
    {v : AbstractValue}
    (c : IsCompared p s q r name true)
    → IsReadable r c.newer (lifted r c.newer v) 0 o
    → IsReadAs q r l name o printed k
    → IsWidenedAnswer q r name printed k v
newer_answer {r = r} {v = v} c m a =
    let d = read_of_named c.newer_named a in
    let q = d.only m.value 0 m.encodes in
    record {
      type = c.newer;
      named = c.newer_named.is;
      value = d.value;
      same = subst (Same r c.newer (lifted r c.newer v)) q.0 m.same;
      text = d.text;
      none_skipped = sym q.1;
    }

pub older_refused : {p q : Program} {s r : List Resolved} {name o : List ℕ} {e : Fault} (v : AbstractValue)
    (c : IsCompared p s q r name true)
    → IsReadable s c.older (projected s c.older v) (left_out s c.older v) o
    → length o ≤ 16777216
    → IsNotReadAs p s Basic name o e
    → e ≡ faults.Memory
unfolding readable
older_refused {p = p} {s = s} {name = name} {o = o} {e = e} v c m short n =
    encoding_is_read p s Basic name o e c.older c.older_named.is (readable m short) m.encodes.says_it n

-- what is said by the distinguished rules is said by either
says_strictly : (l : Rules') {s : List Resolved} {t : ℕ} {v : AbstractValue} {o : List ℕ}
    (m : IsStrictlyReadAs s t v 0 o)
    → EncodesTo s (rules_of l) t m.is.value 0 o
says_strictly asked.Ber m = m.is.encodes.says_it
says_strictly asked.Der m = m.strict

pub newer_refused : {p q : Program} {s r : List Resolved} {name o : List ℕ} {e : Fault} (v : AbstractValue) (l : Rules')
    (c : IsCompared p s q r name true)
    → IsStrictlyReadAs r c.newer (lifted r c.newer v) 0 o
    → length o ≤ 16777216
    → IsNotReadAs q r (rules_of l) name o e
    → e ≡ faults.Memory
unfolding readable
newer_refused {q = q} {r = r} {name = name} {o = o} {e = e} v l c m short n =
    encoding_is_read q r (rules_of l) name o e c.newer c.newer_named.is (readable m.is short) (says_strictly l m) n
