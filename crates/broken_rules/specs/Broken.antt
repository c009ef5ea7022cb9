-- The words for a rule of DER that the encoding of a value breaks (X.690, 10 and 11). Which rule it is, and where it is
-- broken, is in `Broken` of der_check.
use Rattle.std.specs.Prelude.{◌≡◌, ◌⊎◌, ℕ, ◌<◌, ◌≤◌, List, [], ◌∷◌, ◌++◌, codes}
use Rattle.asn_base.specs.Abstract.{AbstractValue}
use Rattle.asn_base.specs.Types.{Resolved}
use Rattle.value_text.specs.Print.{hex_digits}
use Rattle.der_check.specs.Broken.{Breaks}
use Rattle.der_check.specs.declared.rule.RuleOfDer.{RuleOfDer}
use Rattle.der_check.specs.declared.rule.RuleOfDer.TheVariants.{FewestLengthOctets, PrimitiveString, OrderOfTags}
use Rattle.der_check.specs.declared.rule.RuleOfDer.TheVariants.{AllBitsOfTrue, ZerosAsUnusedBits, LastNamedBit}
use Rattle.der_check.specs.declared.rule.RuleOfDer.TheVariants.{NoDefault, OrderOfElements}

-- the start of the words for what breaks the rule
abbrev pub found_start : RuleOfDer → List ℕ
found_start FewestLengthOctets = codes "the length octets "
found_start PrimitiveString = codes "the constructed form"
found_start OrderOfTags = codes "the tag "
found_start AllBitsOfTrue = codes "the contents "
found_start ZerosAsUnusedBits = codes "an unused bit that is one"
found_start LastNamedBit = codes "a zero as the last bit"
found_start NoDefault = codes "the DEFAULT value"
found_start OrderOfElements = codes "an element that is less than the one before it"

-- the words say what breaks the rule
abbrev pub SaysWhatBreaks : RuleOfDer → List ℕ → Type 0
SaysWhatBreaks r words = (more : List ℕ) × (words ≡ found_start r ++ more)

-- The length octets of n contents octets, in words (8.1.3): one octet below 128, else an octet that counts the others,
-- and these.
abbrev pub IsSize : ℕ → List ℕ → Type 0
IsSize n words =
    ((n < 128) × (words ≡ hex_digits (n ∷ [])))
    ⊎ ((128 ≤ n) × ((more : List ℕ) × (words ≡ codes "8" ++ more)))

-- what the rule asks in its place, in words
abbrev pub IsExpected : RuleOfDer → List ℕ → Type 0
-- 10.1: the fewest length octets, in hexadecimal digits
IsExpected FewestLengthOctets words = (n : ℕ) × IsSize n words
-- 10.2: strings aren't constructed
IsExpected PrimitiveString words = words ≡ codes "the primitive form"
-- 10.3: the order of X.680, 8.6
IsExpected OrderOfTags words = words ≡ codes "the components of a SET in the order of their tags"
-- 11.1: all bits of TRUE are ones
IsExpected AllBitsOfTrue words = words ≡ codes "FF"
-- 11.2.1: unused bits are zeros
IsExpected ZerosAsUnusedBits words = words ≡ codes "zeros"
-- 11.2.2: no zero is at the end of a BIT STRING with named bits
IsExpected LastNamedBit words = words ≡ codes "a one, or no bits"
-- 11.5: a component with its DEFAULT value isn't encoded
IsExpected NoDefault words = words ≡ codes "no encoding of it"
-- 11.6: the order of the encodings of elements
IsExpected OrderOfElements words = words ≡ codes "the elements of a SET OF in ascending order"

-- The encoding o of value v of type t breaks a rule at this offset, and none at a lower one. The words say which.
pub record IsViolation (s : List Resolved) (t : ℕ) (v : AbstractValue) (o : List ℕ) (offset : ℕ)
    (words : List ℕ)
    : Type 0 where
  pub rule : RuleOfDer
  pub breaks : Breaks s t v o rule offset
  pub first : (r : RuleOfDer) (n : ℕ) → Breaks s t v o r n → offset ≤ n
  pub said : SaysWhatBreaks rule words

-- the same, and the other words say what this rule asks in its place
pub record IsExplained (s : List Resolved) (t : ℕ) (v : AbstractValue) (o : List ℕ) (offset : ℕ)
    (words asked : List ℕ)
    : Type 0 where
  pub violation : IsViolation s t v o offset words
  pub expected : IsExpected violation.rule asked
