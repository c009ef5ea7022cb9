-- The value of a named type that octets are a message of in canonical PER, unaligned, and why none is read (X.691,
-- clauses 11 to 30).
use Rattle.std.specs.Prelude.{◌≡◌, ℕ, ◌<◌, ◌≤◌, List, [], ◌∷◌, length, Some, None, slice_get, string_bytes}
use Rattle.asn_base.specs.Abstract.{AbstractValue}
use Rattle.asn_base.specs.Schemas.{components}
use Rattle.asn_base.specs.Types.{Resolved}
use Rattle.value_text.specs.Print.{alternatives_in, element_in, kind_at, print}
use Rattle.ber_reader.specs.declared.open.Part.{Part}
use Rattle.ber_reader.specs.declared.open.Part.TheVariants.{Component, Alternative, Element}
use Rattle.packed_encodings.specs.Packing.{Reads}
use Rattle.decode_faults.specs.declared.refusal.Refusal.{Refusal}
use Rattle.decode_faults.specs.declared.refusal.Refusal.TheVariants.{Truncated}
use Rattle.packed_reader.specs.Answers.{BeginsMessage}
use Rattle.packed_reader.specs.Values.{faulty, message_from}
use Rattle.packed_reader.specs.declared.fault.PerFault.{PerFault}
use Rattle.packed_reader.specs.declared.fault.PerFault.TheVariants as per
use Rattle.packed_reader.specs.declared.part.Part.{Part as Part'}
use Rattle.packed_reader.specs.declared.part.Part.TheVariants as packed
use Rattle.resolve.specs.Program.{Program}
use Rattle.judging.specs.messages.declared.fault.Fault.{Fault}
use Rattle.judging.specs.messages.declared.fault.Fault.TheVariants as faults
use Rattle.judging.specs.messages.declared.fault.BitDecodeError.{BitDecodeError}
use Rattle.judging.specs.named_values.Named.{Names, TypeNamed}
use Rattle.asnc.specs.ErrorSites.{with_part}

-- ---- paths

-- a part of a value, as Places names it
abbrev pub part_of : Part' → Part
part_of (packed.Component i) = Component i
part_of (packed.Alternative i) = Alternative i
part_of (packed.Element i) = Element i

-- the type of a part of a value of type t; t itself if its values have no such part
abbrev pub type_in : List Resolved → ℕ → Part → ℕ
type_in s t (Component i) = elim (slice_get (components (kind_at s t)) i) [ None ↦ t | Some c ↦ c.type ]
type_in s t (Alternative i) = elim (slice_get (alternatives_in (kind_at s t)) i) [ None ↦ t | Some a ↦ a.type ]
type_in s t (Element i) = elim (element_in (kind_at s t)) [ None ↦ t | Some u ↦ u ]

-- a path followed by parts of a value of type t, each within the one before
abbrev pub with_parts : List Resolved → ℕ → List ℕ → List Part' → List ℕ
with_parts s t p [] = p
with_parts s t p (x ∷ xs) = with_parts s (type_in s t (part_of x)) (with_part s t p (part_of x)) xs

-- ---- what is read

-- The octets are at most 16,777,216. They are a message of exactly one value of type t, with k additions that the type
-- lacks, and of no other value, and with no other number of additions.
pub record IsUnpackedBy (s : List Resolved) (t : ℕ) (o : List ℕ) (w : AbstractValue) (k : ℕ) : Type 0 where
  pub reads : Reads s t w k o
  pub short : length o ≤ 16777216
  pub only : (v : AbstractValue) (j : ℕ) → Reads s t v j o → (v ≡ w) × (j ≡ k)

-- the same, and the printed text is that of the value
pub record IsUnpacked (s : List Resolved) (t : ℕ) (o printed : List ℕ) (k : ℕ) : Type 0 where
  pub value : AbstractValue
  pub by_bits : IsUnpackedBy s t o value k
  pub text : printed ≡ print s t value

-- the text names a type, and a value of this type is read and printed
pub record IsUnpackedAs (p : Program) (s : List Resolved) (name o printed : List ℕ) (k : ℕ) : Type 0 where
  pub type : ℕ
  pub named : Names p name type
  pub read : IsUnpacked s type o printed k

-- ---- why nothing is read

-- The octets are at most 16,777,216, and are a message of no value of type t. Their first fault is this one: it is at
-- this bit, from 0, and within these parts of the value, the outermost first.
pub record IsFirstFault (s : List Resolved) (t : ℕ) (o : List ℕ) (why : Refusal) (bit : ℕ)
    (parts : List Part') : Type 0 where
  pub short : length o ≤ 16777216
  pub none : (w : AbstractValue) (k : ℕ) → Reads s t w k o → ⊥
  pub first : message_from s t o ≡ faulty (record { why = why; path = parts }) bit
  -- `Truncated` if the octets are the start of a longer message
  pub truncated_value : BeginsMessage s t o → why ≡ Truncated

-- The fault of octets is true. `MessageLimit`: there are more than 16,777,216. `Memory` says nothing about the octets.
abbrev pub IsNotUnpackedBy : List Resolved → ℕ → List ℕ → PerFault → Type 0
IsNotUnpackedBy s t o per.Memory = Unit {0}
IsNotUnpackedBy s t o per.MessageLimit = 16777216 < length o
IsNotUnpackedBy s t o (per.Refused u) = IsFirstFault s t o u.refusal u.bit u.path.items

-- the fault is the first one, and the path is that of its parts
pub record IsLocatedBitFault (s : List Resolved) (t : ℕ) (o : List ℕ) (u : BitDecodeError) : Type 0 where
  pub parts : List Part'
  pub fault : IsFirstFault s t o u.refusal u.bit parts
  pub path : string_bytes u.path ≡ with_parts s t [] parts

-- the same as a fault
abbrev pub IsNotUnpacked : List Resolved → ℕ → List ℕ → Fault → Type 0
IsNotUnpacked s t o faults.Memory = Unit {0}
IsNotUnpacked s t o faults.MessageLimit = 16777216 < length o
IsNotUnpacked s t o (faults.BitDecodeError u) = IsLocatedBitFault s t o u
IsNotUnpacked s t o fault = ⊥

-- the text names a type, and the octets are refused as a value of this type
pub record IsRefusedAs (p : Program) (s : List Resolved) (name o : List ℕ) (e : Fault) : Type 0 where
  pub type : ℕ
  pub named : Names p name type
  pub fault : IsNotUnpacked s type o e

-- Nothing is read, for the reason that the fault gives. `NoType`: the text names no type. `MessageLimit` and
-- `BitDecodeError`: the text names a type, and the octets are refused. `Memory` says nothing about either.
abbrev pub IsNotUnpackedAs : Program → List Resolved → List ℕ → List ℕ → Fault → Type 0
IsNotUnpackedAs p s name o faults.Memory = Unit {0}
IsNotUnpackedAs p s name o (faults.NoType x) = (string_bytes x ≡ name) × ((t : ℕ) → TypeNamed p name t → ⊥)
IsNotUnpackedAs p s name o faults.MessageLimit = IsRefusedAs p s name o faults.MessageLimit
IsNotUnpackedAs p s name o (faults.BitDecodeError u) = IsRefusedAs p s name o (faults.BitDecodeError u)
IsNotUnpackedAs p s name o fault = ⊥
