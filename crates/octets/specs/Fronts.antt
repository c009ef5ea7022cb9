-- A header at the start of octets, or why none is there (X.690, 8.1.2 and 8.1.3).
use Rattle.std.specs.Prelude.{◌≡◌, ℕ, ◌+◌, ◌<◌, ◌≤◌, ◌^◌, Bool, ◌∷◌, ◌++◌, length, map}
use Rattle.std.specs.Int.Digits.{number_from_digits, AllBelowBase}
use Rattle.asn_base.specs.declared.tag.Class.{Class}
use Rattle.asn_base.specs.declared.tag.Class.TheVariants.{Universal}
use Rattle.asn_base.specs.declared.tag.Tag.{Tag}
use Rattle.encodings.specs.Header.{Octets, class_bits, form_bit, identifier, LengthOf, Header}
use Rattle.octets.specs.declared.header_fault.HeaderFault.{HeaderFault}
use Rattle.octets.specs.declared.header_fault.HeaderFault.TheVariants as faults

-- a header of k octets is at the start; it promises n octets of contents, no more than a message has, and they follow
-- it
pub record HeaderAt (t : Tag) (c : Bool) (n k : ℕ) (o : Octets) : Type 0 where
  pub header : Octets
  pub rest : Octets
  pub is_header : Header t c n header
  pub few : n ≤ 16777216
  pub long : length header ≡ k
  pub whole : o ≡ header ++ rest
  pub follow : n ≤ length rest

-- octets end within a header, or before the contents that it promises
pub data EndsEarly (o : Octets) : Type 0 where
  in_header : {t : Tag} {c : Bool} {n : ℕ} {header : Octets} (missing : Octets)
      → Header t c n header
      → header ≡ o ++ missing
      → 1 ≤ length missing
      → EndsEarly o
  in_contents : {t : Tag} {c : Bool} {n : ℕ} {header : Octets} (rest : Octets)
      → Header t c n header
      → n ≤ 16777216
      → o ≡ header ++ rest
      → length rest < n
      → EndsEarly o

-- the indefinite form follows the identifier octets (8.1.3.6)
pub record IsIndefinite (o : Octets) : Type 0 where
  pub tag : Tag
  pub constructed : Bool
  pub rest : Octets
  pub whole : o ≡ identifier tag.class tag.number constructed ++ (128 ∷ rest)

-- octets that are no length, or a length that no message has, follow the identifier octets
pub data HasBadLength (o : Octets) : Type 0 where
  reserved : (t : Tag) (c : Bool) (rest : Octets)
      → o ≡ identifier t.class t.number c ++ (255 ∷ rest)  -- 8.1.3.5 c
      → HasBadLength o
  too_great : (t : Tag) (c : Bool) {n : ℕ} {size : Octets} (rest : Octets)
      → LengthOf n size
      → 16777216 < n
      → o ≡ identifier t.class t.number c ++ (size ++ rest)
      → HasBadLength o

-- the first octet of an identifier with a number in septets (8.1.2.4.1)
abbrev pub leading : Class → Bool → ℕ
leading class c = class_bits class + form_bit c + 31

-- the first octets are an identifier of no tag, or can't be completed to one of a tag
pub data HasBadTag (o : Octets) : Type 0 where
  of_number_0 : (c : Bool) (rest : Octets)
      → o ≡ (class_bits Universal + form_bit c) ∷ rest
      → HasBadTag o
  to_30 : (class : Class) (c : Bool) (number : ℕ) (rest : Octets)
      → number ≤ 30  -- 8.1.2.2
      → o ≡ leading class c ∷ number ∷ rest
      → HasBadTag o
  zeros_first : (class : Class) (c : Bool) (rest : Octets)
      → o ≡ leading class c ∷ 128 ∷ rest  -- 8.1.2.4.2 c
      → HasBadTag o
  -- These septets are worth 2^24 or more, and each says that one more follows. With that one the number is 2^31 or
  -- greater.
  from_2_31 : (class : Class) (c : Bool) (ds rest : Octets)
      → AllBelowBase 128 ds
      → 2 ^ 24 ≤ number_from_digits 128 ds
      → o ≡ leading class c ∷ (map (λ d. 128 + d) ds ++ rest)
      → HasBadTag o

-- what each fault says of octets
abbrev pub IsRightFault : HeaderFault → Octets → Type 0
IsRightFault faults.Truncated = EndsEarly
IsRightFault faults.Indefinite = IsIndefinite
IsRightFault faults.BadLength = HasBadLength
IsRightFault faults.BadTag = HasBadTag
