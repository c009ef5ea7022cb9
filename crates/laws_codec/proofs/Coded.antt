-- What is read of the encodings of a value is that value.
use Rattle.std.proofs.Common.{◌≡◌, sym, ◌∙◌, subst, ℕ, ◌≤◌, List, length, Result, Ok, Err}
use Rattle.account_checker.specs.declared.reason.Reason.{Reason}
use Rattle.account_checker.specs.declared.reason.Verdict.{Verdict}
use Rattle.account_checker.specs.declared.reason.Verdict.TheVariants.{Yes, No}
use Rattle.asn_base.specs.Abstract.{AbstractValue, abstract}
use Rattle.asn_base.specs.Same.{Same}
use Rattle.asn_base.specs.Types.{Resolved}
use Rattle.asn_base.specs.declared.value.Value.{Value}
use Rattle.ber_reader.specs.Messages.{IsEncoding}
use Rattle.ber_reader.specs.declared.read.Read.{Read}
use Rattle.decode_faults.specs.declared.read_fault.ReadFault.{ReadFault}
use Rattle.encodings.specs.Encoding.{Der, EncodesTo}
use Rattle.encodings.specs.Levels.{levels}
use Rattle.encodings.specs.Reading.{Encodes}
use Rattle.encodings.specs.Rules.{Basic, Distinguished}
use Rattle.packed_encodings.specs.Packing.{Reads}
use Rattle.packed_reader.specs.declared.fault.PerFault.{PerFault}
use Rattle.laws_codec.specs.Calls.{IsBerResult, IsDerResult, IsOnly, IsUperResult}
use Rattle.laws_codec.specs.Headline.{GivesBack, IsBerMessage, IsReadAs, Unpacks}
use Rattle.encodings.specs.proving.Weaker.{basic_of}

-- ---- verdicts

pub never : {x : Verdict} {r : Reason} → x ≡ Yes → x ≡ No r → ⊥
never e f = let g = sym e ∙ f in cc

-- ---- octets

-- a message of a value is one that decoders must take
pub readable : {s : List Resolved} {t : ℕ} {v : AbstractValue} {o : List ℕ} → IsBerMessage s t v o → IsEncoding s t o
readable m = record {
  value = m.ber.0;
  count = 0;
  is_value = m.ber.1.second;
  is_encoded = m.ber.2;
  few = m.few;
  short = m.short;
}

-- what octets encode exactly is what a view of them shows
read_as : {s : List Resolved} {t : ℕ} {v w : AbstractValue} {o : List ℕ} (r : Read)
    → Same s t v w
    → Encodes s Basic t w 0 o
    → IsOnly s t o r
    → IsReadAs s t v r
read_as {s} {t} {v} {w} {o} r m e only = record {
  same = subst (Same s t v) (only w 0 e).0 m;
  none_skipped = sym (only w 0 e).1;
}

pub gives_back : {s : List Resolved} {t : ℕ} {v : AbstractValue} {o : List ℕ} (x : Result Read ReadFault)
    → IsBerMessage s t v o
    → IsBerResult s t o x
    → GivesBack s t v x
gives_back (Ok r) m c =
    read_as r m.ber.1 (record { value = m.ber.1.second; says_it = m.ber.2 }) c.only
gives_back (Err e) m c = c.read (readable m)

-- octets that encode a value by the distinguished rules encode it by the basic ones
pub message_of : {s : List Resolved} {t : ℕ} {v : AbstractValue} {o : List ℕ} (d : Der s t v 0 o)
    → ((b : EncodesTo s Basic t d.0 0 o) → levels b ≡ levels d.2)
    → levels d.2 ≤ 400
    → length o ≤ 16777216
    → IsBerMessage s t v o
message_of d one few short = record {
  ber = (d.0, d.1, basic_of d.2);
  few = subst (λ q. q ≤ 400) (sym (one (basic_of d.2))) few;
  short = short;
}

strict_back : {s : List Resolved} {t : ℕ} {v : AbstractValue} {o : List ℕ} (x : Result Read ReadFault)
    (m : IsBerMessage s t v o)
    → EncodesTo s Distinguished t m.ber.0 0 o
    → IsDerResult s t o x
    → GivesBack s t v x
unfolding readable
strict_back (Ok r) m d c = read_as r m.ber.1 (record { value = m.ber.1.second; says_it = m.ber.2 }) c.only
strict_back (Err e) m d c = c.read (readable m) d

pub gives_back_strictly : {s : List Resolved} {t : ℕ} {v : AbstractValue} {o : List ℕ} (x : Result Read ReadFault)
    (d : Der s t v 0 o)
    → ((b : EncodesTo s Basic t d.0 0 o) → levels b ≡ levels d.2)
    → levels d.2 ≤ 400
    → length o ≤ 16777216
    → IsDerResult s t o x
    → GivesBack s t v x
unfolding message_of
gives_back_strictly x d one few short c = strict_back x (message_of d one few short) d.2 c

-- ---- bits

pub unpacks : {s : List Resolved} {t : ℕ} {v w : AbstractValue} {o : List ℕ} (x : Result (Value × ℕ) PerFault)
    → ((a b : AbstractValue) (j k : ℕ) → Reads s t a j o → Reads s t b k o → (a ≡ b) × (j ≡ k))
    → Same s t v w
    → Reads s t w 0 o
    → length o ≤ 16777216
    → IsUperResult s t o x
    → Unpacks s t v x
unpacks {s} {t} {v} {w} {o} (Ok r) one m b short c =
    let e = one w (abstract r.0) 0 r.1 b c.reads in
    record { same = subst (Same s t v) e.0 m; none_skipped = sym e.1 }
unpacks {s} {t} {v} {w} {o} (Err e) one m b short c = c.read w 0 b short
