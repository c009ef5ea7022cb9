-- What is answered of a message by the distinguished rules.
use Rattle.std.proofs.Common.{◌≡◌, ℕ, List, sym, subst}
use Rattle.asn_base.specs.Abstract.{AbstractValue}
use Rattle.asn_base.specs.Types.{Resolved}
use Rattle.encodings.specs.Rules.{Basic, Distinguished}
use Rattle.encodings.specs.Encoding.{EncodesTo}
use Rattle.encodings.specs.Reading.{Encodes}
use Rattle.ber_reader.specs.Messages.{IsEncoding}
use Rattle.views.specs.Tree.{value_of}
use Rattle.ber_reader.specs.declared.read.Read.{Read}
use Rattle.ber_reader.specs.Readings.{IsReading, IsStrictReading}

-- an octet string that is read is an encoding of the value
pub encoding_of : {s : List Resolved} {t : ℕ} {o : List ℕ} {r : Read} → IsReading s t o r → IsEncoding s t o
encoding_of {r = r} i = record { value = value_of r.view; count = r.skipped; is_value = i.encodes.value; is_encoded = i.encodes.says_it; few = i.few; short = i.short }

-- what is judged is the value that is read
pub strict_reading : {s : List Resolved} {t : ℕ} {o : List ℕ} {r : Read} {w : AbstractValue} (i : IsReading s t o r) → w ≡ value_of r.view → ((k : ℕ) → Encodes s Basic t w k o → EncodesTo s Distinguished t w k o) → IsStrictReading s t o r
strict_reading {s} {t} {o} {r} {w} i e f =
    record { reading = i; strict = subst (λ q. EncodesTo s Distinguished t q r.skipped o) e (f r.skipped (subst (λ q. Encodes s Basic t q r.skipped o) (sym e) i.encodes)) }

pub not_strict : {s : List Resolved} {t : ℕ} {o : List ℕ} {r : Read} {w : AbstractValue} (i : IsReading s t o r) → w ≡ value_of r.view → ((k : ℕ) → Encodes s Basic t w k o → EncodesTo s Distinguished t w k o → ⊥) → (d : IsEncoding s t o) × (EncodesTo s Distinguished t d.value d.count o → ⊥)
unfolding encoding_of
not_strict {s} {t} {o} {r} {w} i e f =
    (encoding_of i, λ d. f r.skipped (subst (λ q. Encodes s Basic t q r.skipped o) (sym e) i.encodes) (subst (λ q. EncodesTo s Distinguished t q r.skipped o) (sym e) d))

-- another encoding is of this value
pub same_said : {s : List Resolved} {t : ℕ} {o : List ℕ} {r : Read} (i : IsReading s t o r) (d : IsEncoding s t o) → (d.value ≡ value_of r.view) × (d.count ≡ r.skipped) → EncodesTo s Distinguished t d.value d.count o → EncodesTo s Distinguished t (value_of r.view) r.skipped o
same_said {s} {t} {o} {r} i d e h = subst (λ q. EncodesTo s Distinguished t (value_of r.view) q o) e.1 (subst (λ q. EncodesTo s Distinguished t q d.count o) e.0 h)

pub said_same : {s : List Resolved} {t : ℕ} {o : List ℕ} {r : Read} (i : IsReading s t o r) (d : IsEncoding s t o) → (d.value ≡ value_of r.view) × (d.count ≡ r.skipped) → EncodesTo s Distinguished t (value_of r.view) r.skipped o → EncodesTo s Distinguished t d.value d.count o
said_same {s} {t} {o} {r} i d e h = subst (λ q. EncodesTo s Distinguished t q d.count o) (sym e.0) (subst (λ q. EncodesTo s Distinguished t (value_of r.view) q o) (sym e.1) h)

pub never_strict : {s : List Resolved} {t : ℕ} {o : List ℕ} {r : Read} {w : AbstractValue} (i : IsReading s t o r) → w ≡ value_of r.view → ((k : ℕ) → Encodes s Basic t w k o → EncodesTo s Distinguished t w k o → ⊥) → (d : IsEncoding s t o) → (d.value ≡ value_of r.view) × (d.count ≡ r.skipped) → EncodesTo s Distinguished t d.value d.count o → ⊥
never_strict {s} {t} {o} {r} {w} i e f d q h =
    f r.skipped (subst (λ z. Encodes s Basic t z r.skipped o) (sym e) i.encodes) (subst (λ z. EncodesTo s Distinguished t z r.skipped o) (sym e) (same_said i d q h))
