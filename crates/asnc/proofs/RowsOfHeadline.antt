-- Rows of the headline: what each of its parts says, in full. A definition that lost a part would fail one of them.
use Rattle.std.proofs.Common.{◌≡◌, ℕ, ◌≤◌, List, length}
use Rattle.asn_base.specs.Abstract.{AbstractValue}
use Rattle.asn_base.specs.Same.{Same}
use Rattle.asn_base.specs.Typed.{IsValue}
use Rattle.asn_base.specs.Types.{Resolved}
use Rattle.account_checker.specs.Reasons.{IsRightAccount as IsRightBesideIt}
use Rattle.account_checker.specs.declared.reason.Verdict.TheVariants.{Yes}
use Rattle.encodings.specs.Account.{Account, Describes}
use Rattle.encodings.specs.Encoding.{Ber, Der, EncodesBy, EncodesTo}
use Rattle.encodings.specs.Levels.{levels}
use Rattle.encodings.specs.Reading.{Encodes}
use Rattle.encodings.specs.Rules.{Rules, Basic}
use Rattle.packed_encodings.specs.Lengths.{Bits}
use Rattle.packed_encodings.specs.Packing.{Packed, Reads}
use Rattle.packed_encodings.specs.Padding.{Padded}
use Rattle.later_versions.specs.Projected.{projected, left_out}
use Rattle.version_laws.specs.LeftOut.{left_out_packed}
use Rattle.version_laws.specs.Lifted.{lifted}
use Rattle.value_text.specs.Print.{print}
use Rattle.resolve.specs.Program.{Program}
use Rattle.judging.specs.messages.declared.fault.Fault.{Fault}
use Rattle.judging.specs.messages.declared.fault.Fault.TheVariants.{Memory}
use Rattle.judging.specs.front_end.Accepted.{Accepted}
use Rattle.judging.specs.front_end.ValueError.{DenotesValue}
use Rattle.judging.specs.Judged.{IsAccountIn, IsJudged}
use Rattle.judging.specs.named_values.Named.{AreGiven, TypeNamed}
use Rattle.judging.specs.named_values.Given.{Given}
use Rattle.judging.specs.named_values.Meant.{IsMeant}
use Rattle.asnc.specs.Headline.{IsAnswer, IsMessageOf, IsRight, IsRightlyPacked, IsRightlyRead, IsRightlyUnpacked}
use Rattle.asnc.specs.Packing.{IsNotPacked}
use Rattle.asnc.specs.Reading.{IsNotReadAs, IsRead, IsReadAs, rules_of}
use Rattle.asnc.specs.Unpacking.{IsNotUnpackedAs, IsUnpackedAs, IsUnpackedBy}
use Rattle.asnc.specs.Versions.{IsKeptAnswer, IsPackedKeptAnswer, IsWidenedAnswer}
use Rattle.asnc.specs.Whole.{IsWhole}
use Rattle.asnc.specs.Writing.{IsNotEncoded}
use Rattle.asnc.specs.declared.reading.Rules.{Rules as Rules'}

-- ---- messages

-- any encoding by the basic rules within the limits is a message of the value
message_made : (p : Program) (s : List Resolved) (n o : List ℕ) (t : ℕ) (v : AbstractValue)
    → TypeNamed p n t
    → IsValue s t v
    → (b : Ber s t v 0 o)
    → levels b.2 ≤ 400
    → length o ≤ 16777216
    → IsMessageOf p s n o v
message_made p s n o t v m i b l h = record { type = t; named = m; is = i; ber = b; few = l; short = h }

-- ---- what is written

module _ (xs : List (List ℕ)) (n : List ℕ) (m : Given) (o : List ℕ) (a : Account) (r : IsRight xs n m o a) where
  der_texts : Accepted xs r.program r.types
  der_texts = r.accepted

  der_names : AreGiven r.program n m r.type r.within r.notation
  der_names = r.named

  der_meaning : DenotesValue r.program r.within r.type r.notation r.value
  der_meaning = r.is_so

  der_value : IsValue r.types r.type r.value
  der_value = r.is

  der_octets : Der r.types r.type r.value 0 o
  der_octets = r.der

  der_alone : (q : List ℕ) → Der r.types r.type r.value 0 q → q ≡ o
  der_alone = r.only

  der_least : (q : List ℕ) → Ber r.types r.type r.value 0 q → length o ≤ length q
  der_least = r.shortest.least

  der_account : Describes r.types r.type r.value o a
  der_account = r.account

  der_checked : IsRightBesideIt r.types r.type r.value o a
  der_checked = r.checked

module _ (xs : List (List ℕ)) (n : List ℕ) (m : Given) (o : List ℕ) (r : IsRightlyPacked xs n m o) where
  per_texts : Accepted xs r.program r.types
  per_texts = r.accepted

  per_names : AreGiven r.program n m r.type r.within r.notation
  per_names = r.named

  per_meaning : DenotesValue r.program r.within r.type r.notation r.value
  per_meaning = r.is_so

  per_value : IsValue r.types r.type r.value
  per_value = r.is

  per_bits : Packed r.types r.type r.value r.bits
  per_bits = r.packed

  per_octets : Padded r.bits o
  per_octets = r.filled

  per_alone : (b : Bits) (q : List ℕ) → Packed r.types r.type r.value b → Padded b q → q ≡ o
  per_alone = r.only

  per_same : Same r.types r.type r.value r.back
  per_same = r.same

  per_back : Reads r.types r.type r.back 0 o
  per_back = r.reads

  per_sole : (w : AbstractValue) (k : ℕ) → Reads r.types r.type w k o → (w ≡ r.back) × (k ≡ 0)
  per_sole = r.sole

-- ---- what is read

module _ (xs : List (List ℕ)) (b : Rules) (n o x : List ℕ) (k : ℕ) (r : IsRightlyRead xs b n o x k) where
  read_texts : Accepted xs r.program r.types
  read_texts = r.accepted

  read_name : TypeNamed r.program n r.type
  read_name = r.named

  read_value : IsValue r.types r.type r.value
  read_value = r.is

  read_text : x ≡ print r.types r.type r.value
  read_text = r.text

  read_octets : Ber r.types r.type r.value k o
  read_octets = r.ber

  read_by_rules : EncodesBy b r.types r.type r.value k o
  read_by_rules = r.by_rules

  read_alone : (v : AbstractValue) (j : ℕ) → Ber r.types r.type v j o → Same r.types r.type v r.value × (j ≡ k)
  read_alone = r.same

module _ (xs : List (List ℕ)) (n o x : List ℕ) (k : ℕ) (r : IsRightlyUnpacked xs n o x k) where
  unpacked_texts : Accepted xs r.program r.types
  unpacked_texts = r.accepted

  unpacked_name : TypeNamed r.program n r.type
  unpacked_name = r.named

  unpacked_value : IsValue r.types r.type r.value
  unpacked_value = r.is

  unpacked_text : x ≡ print r.types r.type r.value
  unpacked_text = r.text

  unpacked_octets : Reads r.types r.type r.value k o
  unpacked_octets = r.reads

  unpacked_alone : (w : AbstractValue) (j : ℕ) → Reads r.types r.type w j o → (w ≡ r.value) × (j ≡ k)
  unpacked_alone = r.sole

module _ (s : List Resolved) (b : Rules) (t : ℕ) (o x : List ℕ) (k : ℕ) (r : IsRead s b t o x k) where
  reading_few : levels r.encodes.says_it ≤ 400
  reading_few = r.few

  reading_short : length o ≤ 16777216
  reading_short = r.short

  reading_alone : (w : AbstractValue) (j : ℕ) → Encodes s Basic t w j o → (w ≡ r.value) × (j ≡ k)
  reading_alone = r.only

  reading_by_rules : EncodesTo s b t r.value k o
  reading_by_rules = r.by_rules

module _ (s : List Resolved) (t : ℕ) (o : List ℕ) (w : AbstractValue) (k : ℕ) (r : IsUnpackedBy s t o w k) where
  bits_read : Reads s t w k o
  bits_read = r.reads

  bits_short : length o ≤ 16777216
  bits_short = r.short

  bits_alone : (v : AbstractValue) (j : ℕ) → Reads s t v j o → (v ≡ w) × (j ≡ k)
  bits_alone = r.only

-- ---- answers

module _ (p : Program) (s : List Resolved) (n x : List ℕ) (k : ℕ) (v : AbstractValue) where
  answer_name : (a : IsAnswer p s n x k v) → TypeNamed p n a.type
  answer_name a = a.named

  answer_same : (a : IsAnswer p s n x k v) → Same s a.type v a.value
  answer_same a = a.same

  answer_text : (a : IsAnswer p s n x k v) → x ≡ print s a.type a.value
  answer_text a = a.text

  answer_count : (a : IsAnswer p s n x k v) → k ≡ 0
  answer_count a = a.none_skipped

  kept_name : (a : IsKeptAnswer p s n x k v) → TypeNamed p n a.type
  kept_name a = a.named

  kept_same : (a : IsKeptAnswer p s n x k v) → Same s a.type (projected s a.type v) a.value
  kept_same a = a.same

  kept_text : (a : IsKeptAnswer p s n x k v) → x ≡ print s a.type a.value
  kept_text a = a.text

  kept_count : (a : IsKeptAnswer p s n x k v) → k ≡ left_out s a.type v
  kept_count a = a.skipped

  widened_name : (a : IsWidenedAnswer p s n x k v) → TypeNamed p n a.type
  widened_name a = a.named

  widened_same : (a : IsWidenedAnswer p s n x k v) → Same s a.type (lifted s a.type v) a.value
  widened_same a = a.same

  widened_text : (a : IsWidenedAnswer p s n x k v) → x ≡ print s a.type a.value
  widened_text a = a.text

  widened_count : (a : IsWidenedAnswer p s n x k v) → k ≡ 0
  widened_count a = a.none_skipped

module _ (p : Program) (s r : List Resolved) (t : ℕ) (n x : List ℕ) (k : ℕ) (v : AbstractValue)
    (a : IsPackedKeptAnswer p s r t n x k v) where
  packed_kept_name : TypeNamed p n a.type
  packed_kept_name = a.named

  packed_kept_same : Same s a.type (projected s a.type v) a.value
  packed_kept_same = a.same

  packed_kept_text : x ≡ print s a.type a.value
  packed_kept_text = a.text

  packed_kept_count : k ≡ left_out_packed s a.type r t v
  packed_kept_count = a.skipped

-- ---- the whole promise

module _ (xs : List (List ℕ)) (p : Program) (s : List Resolved) (n : List ℕ) (m : Given) (o b : List ℕ) (a : Account)
    (v u : AbstractValue) (w : IsWhole xs p s n m o b a v u) where
  whole_texts : Accepted xs p s
  whole_texts = w.accepted

  whole_meant : IsMeant p n m w.type v
  whole_meant = w.meant

  whole_one : (t : ℕ) (x : AbstractValue) → IsMeant p n m t x → (t ≡ w.type) × (x ≡ v)
  whole_one = w.one

  whole_same : u ≡ v
  whole_same = w.same

  whole_encodable : (e : Fault) → IsNotEncoded p s n m e → e ≡ Memory
  whole_encodable = w.encodable

  whole_packable : (e : Fault) → IsNotPacked p s n m e → e ≡ Memory
  whole_packable = w.packable

  whole_encoded : IsRight xs n m o a
  whole_encoded = w.encoded

  whole_judged : (x : List ℕ) → IsAccountIn x a → IsJudged xs n m o x Yes
  whole_judged = w.judged

  whole_read : (r : Rules) (q x : List ℕ) (k : ℕ) → IsMessageOf p s n q v → IsReadAs p s r n q x k
      → IsAnswer p s n x k v
  whole_read = w.read

  whole_not_refused : (q : List ℕ) (e : Fault) → IsMessageOf p s n q v → IsNotReadAs p s Basic n q e → e ≡ Memory
  whole_not_refused = w.not_refused

  whole_written : IsMessageOf p s n o v
  whole_written = w.written

  whole_read_back : (r : Rules') (e : Fault) → IsNotReadAs p s (rules_of r) n o e → e ≡ Memory
  whole_read_back = w.read_back

  whole_packed : IsRightlyPacked xs n m b
  whole_packed = w.packed

  whole_unpacked : (x : List ℕ) (k : ℕ) → IsUnpackedAs p s n b x k → IsAnswer p s n x k u
  whole_unpacked = w.unpacked

  whole_not_refused_bits : (e : Fault) → IsNotUnpackedAs p s n b e → e ≡ Memory
  whole_not_refused_bits = w.not_refused_bits
