-- Rows of what single calls return and refuse: what each of its parts says, in full. A definition that lost a part would
-- fail one of them.
use Rattle.std.proofs.Common.{◌≡◌, ◌↔◌, ◌⊎◌, ℕ, ◌<◌, ◌≤◌, Bool, List, [], ◌++◌, length, subst}
use Rattle.std.specs.Prelude.{IsTrue, None, Some, String, codes, string_bytes}
use Rattle.std.specs.Global.{Global}
use Rattle.asn_base.specs.Abstract.{AbstractValue}
use Rattle.asn_base.specs.Types.{Resolved}
use Rattle.asn_base.specs.declared.schema.TypeId.{TypeId}
use Rattle.account_text.specs.Text.{compact_text, IsAccountText}
use Rattle.ber_reader.specs.Messages.{BeginsEncoding, EncodesNoValue, HasEncodingFirst, HasMessageFirst, IsEncoding}
use Rattle.ber_reader.specs.Messages.{IsMessage, IsRead as IsReadWhole, budget_of}
use Rattle.ber_reader.specs.Stops.{IsStop, IsStopBefore}
use Rattle.ber_reader.specs.Readings.{IsBeforeInnermost, IsErrorPosition, IsReading, IsRefused}
use Rattle.ber_reader.specs.declared.read.Read.{Read}
use Rattle.codec_code.specs.Routines.{id_of}
use Rattle.broken_rules.specs.Broken.{IsViolation}
use Rattle.decode_faults.specs.declared.read_fault.ReadFault.{ReadFault}
use Rattle.decode_faults.specs.declared.read_fault.ReadFault.TheVariants as reading
use Rattle.decode_faults.specs.declared.refusal.Refusal.{Refusal}
use Rattle.decode_faults.specs.declared.refusal.Refusal.TheVariants.{Truncated}
use Rattle.der_writer.specs.Encoded.{IsEncoding as IsWritten, Went, WentInPart}
use Rattle.encodings.specs.Account.{Account, Describes}
use Rattle.encodings.specs.Encoding.{Der, EncodesTo}
use Rattle.encodings.specs.Reading.{Encodes}
use Rattle.encodings.specs.Rules.{Rules, Basic, Distinguished}
use Rattle.header_listing.specs.Listing.{IsListing}
use Rattle.judging.specs.front_end.Faults.{IsRightCompileError}
use Rattle.judging.specs.front_end.declared.fault.CompileError.{CompileError}
use Rattle.judging.specs.front_end.declared.fault.CompileError.TheVariants as texts
use Rattle.judging.specs.messages.declared.fault.BitDecodeError.{BitDecodeError}
use Rattle.judging.specs.messages.declared.fault.DecodeError.{DecodeError}
use Rattle.judging.specs.messages.declared.fault.Finding.{Finding}
use Rattle.judging.specs.messages.declared.fault.Fault.{Fault}
use Rattle.judging.specs.messages.declared.fault.Fault.TheVariants as faults
use Rattle.judging.specs.named_values.Given.{Given}
use Rattle.judging.specs.named_values.Meant.{IsMeant}
use Rattle.judging.specs.named_values.Named.{Names, TypeNamed}
use Rattle.later_versions.specs.DifferenceText.{HasText, comparison_of, says_later}
use Rattle.later_versions.specs.Differences.{IsComparison}
use Rattle.later_versions.specs.Later.{Later}
use Rattle.later_versions.specs.declared.reason.Explained.{Explained}
use Rattle.octet_account.specs.Flat.{AreRows, FlatRow}
use Rattle.octet_answers.specs.States.{Token}
use Rattle.packed_encodings.specs.Lengths.{Bits}
use Rattle.packed_encodings.specs.Packing.{Packed, Reads}
use Rattle.packed_encodings.specs.Padding.{Padded}
use Rattle.packed_encodings.specs.Weights.{weight}
use Rattle.packed_reader.specs.Answers.{BeginsMessage}
use Rattle.packed_reader.specs.Values.{faulty, message_from}
use Rattle.packed_reader.specs.declared.fault.PerFault.TheVariants as per
use Rattle.packed_reader.specs.declared.fault.RefusedBits.{RefusedBits}
use Rattle.packed_reader.specs.declared.part.Part.{Part}
use Rattle.packed_writer.specs.Message.{IsMessage as IsPackedMessage}
use Rattle.resolve.specs.Program.{Program}
use Rattle.sinks.specs.Sent.{SinkState}
use Rattle.value_text.specs.Print.{print}
use Rattle.views.specs.Tree.{value_of}
use Rattle.asnc.specs.Differences.{AreCompared}
use Rattle.asnc.specs.ErrorSites.{IsErrorSite, path_of}
use Rattle.asnc.specs.Kits.{IsNotOpened}
use Rattle.asnc.specs.Packing.{HasLongBits, IsPacked}
use Rattle.asnc.specs.Reading.{HasBrokenRule, IsLocatedFault, IsNotRead, IsNotReadAs, IsRead, IsReadAs, IsReadBy, IsReadFault, SaysBrokenRule}
use Rattle.asnc.specs.Showing.{IsBerVerdict, IsNotShownAs, IsShownAs, limit_of}
use Rattle.asnc.specs.Unpacking.{IsFirstFault, IsNotUnpacked, IsNotUnpackedAs, IsNotUnpackedBy, IsUnpackedAs, IsUnpackedBy}
use Rattle.asnc.specs.Unpacking.{with_parts}
use Rattle.asnc.specs.Versions.{IsCompared, IsNotCompared}
use Rattle.asnc.specs.Writing.{HasLongEncoding, IsAccountOf, IsEncoded, IsSent, IsSentInPart}
use Rattle.asnc.specs.declared.showing.Listing.{Listing}

-- the fault is that no type has this name
abbrev FindsNone : Program → (name given : List ℕ) → Type 0
FindsNone p name given = (given ≡ name) × ((t : ℕ) → TypeNamed p name t → ⊥)

-- ---- texts

module _ (xs : List (List ℕ)) where
  texts_refused : (f : CompileError) → IsNotOpened xs (faults.Front f) → (f ≡ texts.Memory → ⊥) × IsRightCompileError xs f
  texts_refused f h = h

  never_too_long : IsNotOpened xs faults.TooLong → ⊥
  never_too_long h = h

-- ---- octets that are written

module _ (p : Program) (s : List Resolved) (n : List ℕ) (m : Given) where
  module _ (o : List ℕ) (a : Account) (h : IsEncoded p s n m o a) where
    encoded_meaning : IsMeant p n m h.type h.value
    encoded_meaning = h.meant

    encoded_octets : IsWritten s h.type h.value o
    encoded_octets = h.encoding

    encoded_account : Describes s h.type h.value o a
    encoded_account = h.describes

  module _ (x : List ℕ) (h : IsAccountOf p s n m x) where
    account_encoded : IsEncoded p s n m h.octets h.account
    account_encoded = h.encoded

    account_text : IsAccountText x h.account
    account_text = h.text_of

    account_compact : (rs : List FlatRow) → AreRows h.account rs → x ≡ compact_text rs
    account_compact = h.compact

  module _ (a b : SinkState) where
    sent_whole : (c : Account)
        → IsSent p s n m a b c
        → (t : ℕ) × (v : AbstractValue) × IsMeant p n m t v × Went s t v a b c
    sent_whole c h = (h.type, h.value, h.meant, h.went)

    sent_part : (k : ℕ)
        → IsSentInPart p s n m a b k
        → (t : ℕ) × (v : AbstractValue) × IsMeant p n m t v × WentInPart s t v a b k
    sent_part k h = (h.type, h.value, h.meant, h.went)

  too_long : HasLongEncoding p s n m
      → (t : ℕ) × (v : AbstractValue) × IsMeant p n m t v × ((o : List ℕ) → Der s t v 0 o → 16777216 < length o)
  too_long h = (h.type, h.value, h.meant, h.longer)

  bits_packed : (o : List ℕ)
      → IsPacked p s n m o
      → (t : ℕ) × (v : AbstractValue) × IsMeant p n m t v × IsPackedMessage s t v o
  bits_packed o h = (h.type, h.value, h.meant, h.message)

  bits_too_long : HasLongBits p s n m
      → (t : ℕ) × (v : AbstractValue) × IsMeant p n m t v
      × ((16777216 < weight v) ⊎ ((b : Bits) (o : List ℕ) → Packed s t v b → Padded b o → 16777216 < length o))
  bits_too_long h = (h.type, h.value, h.meant, h.longer)

-- ---- octets that are read

module _ (s : List Resolved) (r : Rules) (t : ℕ) (o : List ℕ) where
  read_printed : (x : List ℕ) (k : ℕ) (h : IsRead s r t o x k) → Encodes s Basic t h.value k o × (x ≡ print s t h.value)
  read_printed x k h = (h.encodes, h.text)

  module _ (x : Read) (h : IsReadBy s r t o x) where
    view_reading : IsReading s t o x
    view_reading = h.reading

    view_alone : (w : AbstractValue) (j : ℕ)
        → Encodes s Basic t w j o
        → (w ≡ value_of x.view) × (j ≡ x.skipped)
    view_alone = h.only

    view_by_rules : EncodesTo s r t (value_of x.view) x.skipped o
    view_by_rules = h.by_rules

  module _ (e : ReadFault) (h : IsReadFault s r t o e) where
    fault_none : (i : IsEncoding s t o) → EncodesTo s r t i.value i.count o → ⊥
    fault_none = h.none

    fault_basic : (i : IsEncoding s t o) → (EncodesTo s r t i.value i.count o → ⊥) → e ≡ reading.NotDer
    fault_basic = h.basic

    fault_not_der : e ≡ reading.NotDer
        → (r ≡ Distinguished) × (i : IsEncoding s t o) × (EncodesTo s Distinguished t i.value i.count o → ⊥)
    fault_not_der d = let b = h.not_der d in (b.0, b.1.is, b.1.not_strict)

    fault_limit : (16777216 < length o) ↔ (e ≡ reading.MessageLimit)
    fault_limit = (h.limit, h.long)

    fault_more : HasEncodingFirst s t o → e ≡ reading.Trailing
    fault_more = h.more

    fault_trailing : e ≡ reading.Trailing → HasMessageFirst s t o
    fault_trailing = h.trailing

    fault_truncated : BeginsEncoding s t o → e ≡ reading.Truncated
    fault_truncated = h.truncated_value

    fault_why : (e ≡ reading.NotDer → ⊥) → IsRefused s (id_of t) o e
    fault_why = h.why

  unread : (u : DecodeError)
      → IsNotRead s r t o (faults.DecodeError u)
      → IsReadFault s r t o u.fault
      × ((u.fault ≡ reading.NotDer → ⊥) → IsErrorSite s t o u.offset (string_bytes u.path))
  unread u h = (h.unread, h.stop_site)

  rule_said : (u : DecodeError) (f : Finding)
      → IsLocatedFault s r t o u
      → u.fault ≡ reading.NotDer
      → u.finding ≡ Some f
      → SaysBrokenRule s t o u.offset f
  rule_said u f h e i = subst (λ q. HasBrokenRule s t o u.offset q) i (h.said e)

  never_unsaid : (u : DecodeError) → IsLocatedFault s r t o u → u.fault ≡ reading.NotDer → u.finding ≡ None → ⊥
  never_unsaid u h e i = subst (λ q. HasBrokenRule s t o u.offset q) i (h.said e)

  module _ (at : ℕ) (f : Finding) (h : SaysBrokenRule s t o at f) where
    rule_of_value : Encodes s Basic t h.value h.count o
    rule_of_value = h.encodes

    rule_broken : IsViolation s t h.value o at h.words
    rule_broken = h.broken

    rule_found : string_bytes f.found ≡ h.words ++ (codes " (" ++ h.more)
    rule_found = h.found

  never_a_name : (x : String Global) → IsNotRead s r t o (faults.NoType x) → ⊥
  never_a_name x h = h

module _ (p : Program) (s : List Resolved) (r : Rules) (n o : List ℕ) where
  read_named : (x : List ℕ) (k : ℕ) → IsReadAs p s r n o x k → (t : ℕ) × Names p n t × IsRead s r t o x k
  read_named x k h = (h.type, h.named, h.read)

  unread_named : (u : DecodeError)
      → IsNotReadAs p s r n o (faults.DecodeError u)
      → (t : ℕ) × Names p n t × IsReadFault s r t o u.fault
      × ((u.fault ≡ reading.NotDer → ⊥) → IsErrorSite s t o u.offset (string_bytes u.path))
  unread_named u h = (h.type, h.named, h.unread.unread, h.unread.stop_site)

  unread_without_type : (x : String Global) → IsNotReadAs p s r n o (faults.NoType x) → FindsNone p n (string_bytes x)
  unread_without_type x h = h

  never_written : IsNotReadAs p s r n o faults.TooLong → ⊥
  never_written h = h

-- ---- where octets are refused

module _ (s : List Resolved) (t : ℕ) (o : List ℕ) (at : ℕ) (path : List ℕ) (h : IsErrorSite s t o at path) where
  site_type : h.id.index ≡ t
  site_type = h.numbered

  site_found : IsErrorPosition s h.id o h.found
  site_found = h.is

  site_first : ((ts : List Token) → IsMessage s t o ts → ⊥)
      → length o ≤ 16777216
      → IsStop s h.id o (budget_of (length o)) h.found
  site_first = h.first

  site_judged : IsReadWhole s h.id o → t < length s → length o ≤ 16777216 → IsStopBefore s h.id o h.found
  site_judged = h.judged

  site_innermost : (r : IsReadWhole s h.id o) (n : EncodesNoValue s t o)
      → IsBeforeInnermost s h.id o r.last.emitted n.value h.found
  site_innermost = h.innermost

  site_octet : at ≡ h.found.place
  site_octet = h.at

  site_path : path ≡ path_of s h.found.values.items
  site_path = h.parts

-- ---- headers

module _ (p : Program) (s : List Resolved) (n o : List ℕ) where
  module _ (l : Listing) (h : IsShownAs p s n o l) where
    shown_name : Names p n h.type
    shown_name = h.named

    shown_judged : IsBerVerdict s h.type o l.refusal
    shown_judged = h.shown.judged

    shown_lines : IsListing o (limit_of o l.refusal) h.shown.stop (string_bytes l.lines)
    shown_lines = h.shown.lines

  not_shown_without_type : (x : String Global) → IsNotShownAs p n (faults.NoType x) → FindsNone p n (string_bytes x)
  not_shown_without_type x h = h

-- ---- bits

module _ (s : List Resolved) (t : ℕ) (o : List ℕ) where
  module _ (why : Refusal) (bit : ℕ) (parts : List Part) (h : IsFirstFault s t o why bit parts) where
    bits_short_enough : length o ≤ 16777216
    bits_short_enough = h.short

    bits_none : (w : AbstractValue) (k : ℕ) → Reads s t w k o → ⊥
    bits_none = h.none

    bits_first : message_from s t o ≡ faulty (record { why = why; path = parts }) bit
    bits_first = h.first

    bits_truncated : BeginsMessage s t o → why ≡ Truncated
    bits_truncated = h.truncated_value

  bits_refused : (u : RefusedBits) → IsNotUnpackedBy s t o (per.Refused u) → IsFirstFault s t o u.refusal u.bit u.path.items
  bits_refused u h = h

  bits_too_many : IsNotUnpackedBy s t o per.MessageLimit → 16777216 < length o
  bits_too_many h = h

module _ (p : Program) (s : List Resolved) (n o : List ℕ) where
  unpacked_named : (x : List ℕ) (k : ℕ)
      → IsUnpackedAs p s n o x k
      → (t : ℕ) × Names p n t × (w : AbstractValue) × IsUnpackedBy s t o w k × (x ≡ print s t w)
  unpacked_named x k h = (h.type, h.named, h.read.value, h.read.by_bits, h.read.text)

  bits_refused_named : (u : BitDecodeError)
      → IsNotUnpackedAs p s n o (faults.BitDecodeError u)
      → (t : ℕ) × Names p n t × (parts : List Part) × IsFirstFault s t o u.refusal u.bit parts
      × (string_bytes u.path ≡ with_parts s t [] parts)
  bits_refused_named u h = (h.type, h.named, h.fault.parts, h.fault.fault, h.fault.path)

  bits_too_many_named : IsNotUnpackedAs p s n o faults.MessageLimit → (t : ℕ) × Names p n t × (16777216 < length o)
  bits_too_many_named h = (h.type, h.named, h.fault)

  bits_without_type : (x : String Global) → IsNotUnpackedAs p s n o (faults.NoType x) → FindsNone p n (string_bytes x)
  bits_without_type x h = h

  never_octets : (u : DecodeError) → IsNotUnpackedAs p s n o (faults.DecodeError u) → ⊥
  never_octets u h = h

-- ---- versions

module _ (p : Program) (s : List Resolved) (q : Program) (r : List Resolved) (n : List ℕ) where
  compared : (b : Bool)
      → IsCompared p s q r n b
      → (t u : ℕ) × Names p n t × Names q n u × (u < length r) × (IsTrue b ↔ Later s t r u)
  compared b h = (h.older, h.newer, h.older_named, h.newer_named, h.newer_there, h.is)

  module _ (e : Explained) (h : AreCompared p s q r n e) where
    explained_names : Names p n h.older × Names q n h.newer × (h.newer < length r)
    explained_names = (h.older_named, h.newer_named, h.newer_there)

    explained_yes : IsTrue (says_later e) ↔ Later s h.older r h.newer
    explained_yes = h.yes

    explained_no : IsComparison s h.older r h.newer (comparison_of e)
    explained_no = h.is

    explained_text : HasText s h.older r e
    explained_text = h.text_of

  not_compared : (x : String Global)
      → IsNotCompared p q n (faults.NoType x)
      → (string_bytes x ≡ n) × (((t : ℕ) → TypeNamed p n t → ⊥) ⊎ ((t : ℕ) → TypeNamed q n t → ⊥))
  not_compared x h = h
