-- Headers by the distinguished rules, as the steps of a routine require them (X.690, 10.1).
use Rattle.std.specs.Prelude.{◌≡◌, ◌+◌, ◌<◌, ℕ, Bool, List, [], ◌∷◌, ◌++◌, length}
use Rattle.asn_base.specs.declared.tag.Tag.{Tag}
use Rattle.encodings.specs.Header.{Octets, FewestOctets, HeaderBy, identifier}
use Rattle.encodings.specs.Rules.{Distinguished}
use Rattle.codec_code.specs.declared.step.Head.{Head as Head'}
use Rattle.codec_code.specs.declared.step.Step.{Step}
use Rattle.codec_code.specs.declared.step.Step.TheVariants.{Head}
use Rattle.der_check.specs.declared.rule.Breach.{Breach}
use Rattle.der_check.specs.declared.rule.RuleOfDer.{RuleOfDer}
use Rattle.der_check.specs.declared.rule.RuleOfDer.TheVariants.{FewestLengthOctets, PrimitiveString}
use Rattle.der_check.specs.Broken.{HasLongHeader, HasInnermost, IsFirst}

-- octets are the one header of the distinguished rules for h and contents x, and then x
pub record IsInside (h : Head') (x o : Octets) : Type 0 where
  pub header : Octets
  pub is_header : HeaderBy Distinguished h.tag h.constructed (length x) header
  pub whole : o ≡ header ++ x

-- the steps begin with no header
abbrev pub IsBare : List Step → Type 0
IsBare [] = Unit {0}
IsBare (Head h ∷ ss) = ⊥
IsBare (p ∷ ss) = Unit {0}

-- the steps after the headers that steps begin with, and the contents x that the octets have within these headers
pub data IsWithinHeaders : List Step → Octets → List Step → Octets → Type 0 where
  no_head : {ss : List Step} {x : Octets} → IsBare ss → IsWithinHeaders ss x ss x
  in_head : {h : Head'} {ss rest : List Step} {o x y : Octets}
      → IsInside h x o
      → IsWithinHeaders ss x rest y
      → IsWithinHeaders (Head h ∷ ss) o rest y

-- Header o of contents x, constructed or not as flag c says, has the tag of h. It breaks a rule at this offset.
pub data HeaderBreaks (h : Head') (c : Bool) (x o : Octets) : RuleOfDer → ℕ → Type 0 where
  other_form : (c ≡ h.constructed → ⊥) → HeaderBreaks h c x o PrimitiveString 0
  not_fewest : c ≡ h.constructed
      → (FewestOctets h.tag c (length x) o → ⊥)
      → HeaderBreaks h c x o FewestLengthOctets (length (identifier h.tag.class h.tag.number c))

-- one of the headers of these tags breaks a rule at this offset; the innermost one must have form d
pub data HeadersBreak (d : Bool) (tags : List Tag) (c : Bool) (x o : Octets) : RuleOfDer → ℕ → Type 0 where
  one_long : {n : ℕ} → HasLongHeader tags c x o n → HeadersBreak d tags c x o FewestLengthOctets n
  form_differs : {n : ℕ}
      → (c ≡ d → ⊥)
      → HasInnermost tags c x o n
      → HeadersBreak d tags c x o PrimitiveString n

-- the same of a breach, which is the first one, and whose offset is that of an octet before the contents
pub record FrameBreaks (d : Bool) (tags : List Tag) (c : Bool) (x o : Octets) (b : Breach) : Type 0 where
  pub first : IsFirst (HeadersBreak d tags c x o) b.rule b.offset
  pub within : b.offset + length x < length o
