-- Octets that are read as a value are an encoding, in the words of messages.
use Rattle.std.proofs.Common.{ℕ, ◌≤◌, List, length}
use Rattle.std.specs.Prelude.{Err, IfOk, Ok, Result}
use Rattle.asn_base.specs.Abstract.{AbstractValue}
use Rattle.asn_base.specs.Types.{Resolved}
use Rattle.ber_reader.specs.Messages.{IsEncoding}
use Rattle.version_laws.specs.Versions.{IsReadAs}

abbrev pub encoding : {s : List Resolved} {t k : ℕ} {v : AbstractValue} {o : List ℕ} → IsReadAs s t v k o → length o ≤ 16777216 → IsEncoding s t o
encoding {k = k} r short = record {
  value = r.value;
  count = k;
  is_value = r.encodes.value;
  is_encoded = r.encodes.says_it;
  few = r.few;
  short = short;
}

-- what is known of a result gives what is to be known of it
pub if_ok : {A E : Type 0} {P Q : A → Type 0} (r : Result A E) → IfOk r P → ((x : A) → P x → Q x) → IfOk r Q
if_ok (Ok x) h f = f x h
if_ok (Err e) h f = tt
