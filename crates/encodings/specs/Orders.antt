-- Lists of encodings: in ascending order, permuted, and merged (X.690, clauses 8.11.2, 8.12.3, 10.3 and 11.6).
use Rattle.std.specs.Prelude.{◌≡◌, ℕ, ◌<◌, ◌⊎◌, Bool, [], ◌∷◌, ◌++◌}
use Rattle.asn_base.specs.declared.tag.Tag.{Tag}
use Rattle.asn_base.specs.Tags.{TagBefore}
use Rattle.encodings.specs.Header.{Octets, Encodings, Header}

-- each encoding in the list of octets is related by R to the next one
pub data Ascending (R : Octets → Octets → Type 0) : Encodings → Type 0 where
  ascending_none : Ascending R []
  ascending_one : {x : Octets} → Ascending R (x ∷ [])
  ascending_more : {x y : Octets} {ys : Encodings} → R x y → Ascending R (y ∷ ys) → Ascending R (x ∷ y ∷ ys)

-- The first octets are at most the second, octet by octet, if the shorter ones are filled with zeros (X.690, clause
-- 11.6).
abbrev pub AtMost : Octets → Octets → Type 0
AtMost [] ys = Unit {0}
AtMost (x ∷ xs) [] = (x ≡ 0) × AtMost xs []
AtMost (x ∷ xs) (y ∷ ys) = (x < y) ⊎ ((x ≡ y) × AtMost xs ys)

-- the octets o start with a header of tag g, in any definite form of lengths
pub record BeginsWith (g : Tag) (o : Octets) : Type 0 where
  pub constructed : Bool
  pub count : ℕ
  pub header : Octets
  pub rest : Octets
  pub is_header : Header g constructed count header
  pub whole : o ≡ header ++ rest

-- the tag of encoding x comes before that of y in the canonical order (X.690, clause 10.3)
pub record InTagOrder (x y : Octets) : Type 0 where
  pub former : Tag
  pub latter : Tag
  pub begins_former : BeginsWith former x
  pub begins_latter : BeginsWith latter y
  pub before : TagBefore former latter

-- the second list of encodings is the first with x at some place
pub data EncodingInserted : Octets → Encodings → Encodings → Type 0 where
  here : {x : Octets} {xs : Encodings} → EncodingInserted x xs (x ∷ xs)
  there : {x y : Octets} {xs ys : Encodings} → EncodingInserted x xs ys → EncodingInserted x (y ∷ xs) (y ∷ ys)

-- the second list has the encodings of the first in some order
pub data Permutes : Encodings → Encodings → Type 0 where
  permutes_none : Permutes [] []
  permutes_more : {x : Octets} {xs ys zs : Encodings} → Permutes xs ys → EncodingInserted x ys zs → Permutes (x ∷ xs) zs

-- the third list has the encodings of the first two, and keeps the order of each
pub data Merges : Encodings → Encodings → Encodings → Type 0 where
  merges_none : Merges [] [] []
  merges_first : {x : Octets} {xs ys zs : Encodings} → Merges xs ys zs → Merges (x ∷ xs) ys (x ∷ zs)
  merges_second : {y : Octets} {xs ys zs : Encodings} → Merges xs ys zs → Merges xs (y ∷ ys) (y ∷ zs)
