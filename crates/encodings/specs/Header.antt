-- Identifier octets and length octets (X.690, clauses 8.1.2, 8.1.3 and 10.1).
use Rattle.std.specs.Prelude.{◌≡◌, ℕ, ◌+◌, ◌/◌, ◌%◌, ◌<◌, ◌≤◌, Bool, true, false, nat_lt, if◌then◌else◌}
use Rattle.std.specs.Prelude.{List, [], ◌∷◌, ◌++◌, length, map}
use Rattle.std.specs.Int.Digits.{digits_of, number_from_digits, AllBelowBase}
use Rattle.asn_base.specs.declared.tag.Class.{Class}
use Rattle.asn_base.specs.declared.tag.Class.TheVariants.{Universal, Application, Context, Private}
use Rattle.asn_base.specs.declared.tag.Tag.{Tag}
use Rattle.encodings.specs.Rules.{Rules, Strictly}

-- a list of octets, of which a definition says where it matters that each is below 256
abbrev pub Octets : Type 0
Octets = List ℕ

-- a list of encodings, in order
abbrev pub Encodings : Type 0
Encodings = List Octets

-- the two bits of a tag's class, at the top of an octet (X.690, clause 8.1.2.2)
abbrev pub class_bits : Class → ℕ
class_bits Universal = 0
class_bits Application = 64
class_bits Context = 128
class_bits Private = 192

-- the bit of an identifier octet that is set for constructed encodings (X.690, clause 8.1.2.5)
abbrev pub form_bit : Bool → ℕ
form_bit false = 0
form_bit true = 32

-- number n in octets of seven bits, the greatest first, the top bit set in all octets except the last (X.690, clause
-- 8.1.2.4.2)
abbrev pub septets : ℕ → Octets
septets n = map (λ d. 128 + d) (digits_of 128 (n / 128)) ++ ((n % 128) ∷ [])

-- The identifier octets of a tag's class and number, constructed if flag c says so (X.690, clause 8.1.2). Numbers to 30
-- are in five bits (8.1.2.2); greater ones follow 31 in septets (8.1.2.4).
unfoldable pub identifier : Class → ℕ → Bool → Octets
identifier class number c =
    if nat_lt number 31
    then (class_bits class + form_bit c + number) ∷ []
    else (class_bits class + form_bit c + 31) ∷ septets number

-- The 1 to 126 octets ds after the first one of the long form are worth length n, the greatest first, leading zeros
-- allowed (X.690, clause 8.1.3.5).
pub record LongForm (n : ℕ) (ds : Octets) : Type 0 where
  pub some : 1 ≤ length ds
  pub at_most : length ds ≤ 126
  pub octets : AllBelowBase 256 ds
  pub worth : number_from_digits 256 ds ≡ n

-- the octets are length octets of a length, in any definite form (X.690, clauses 8.1.3.3 to 8.1.3.5)
pub data LengthOf : ℕ → Octets → Type 0 where
  short : {n : ℕ} → n < 128 → LengthOf n (n ∷ [])  -- 8.1.3.4
  long : {n : ℕ} {ds : Octets} → LongForm n ds → LengthOf n ((128 + length ds) ∷ ds)  -- 8.1.3.5

-- Octets o are the identifier octets of tag t and the length octets of n contents octets, in any definite form (X.690,
-- clause 8.1.1.1). Flag c says that the encoding is constructed.
pub record Header (t : Tag) (c : Bool) (n : ℕ) (o : Octets) : Type 0 where
  pub size : Octets
  pub is_size : LengthOf n size
  pub whole : o ≡ identifier t.class t.number c ++ size

-- no header of tag t, constructed or not as c says, and length n has fewer octets than o (X.690, clause 10.1)
abbrev pub FewestOctets : Tag → Bool → ℕ → Octets → Type 0
FewestOctets t c n o = (p : Octets) → Header t c n p → length o ≤ length p

-- By rules r octets o are a header of tag t and length n, with the fewest octets unless r are the basic rules (X.690,
-- clause 10.1).
pub record HeaderBy (r : Rules) (t : Tag) (c : Bool) (n : ℕ) (o : Octets) : Type 0 where
  pub header : Header t c n o
  pub fewest : Strictly r (FewestOctets t c n o)
