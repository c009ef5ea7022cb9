-- Where the encodings of a SET's components are.
use Rattle.std.specs.Prelude.{◌≡◌, ℕ, List, [], ◌∷◌}
use Rattle.asn_base.specs.declared.tag.Tag.{Tag}
use Rattle.asn_base.specs.Abstract.{AbstractValue, Row, end, absent, present}
use Rattle.asn_base.specs.Tags.{First}
use Rattle.asn_base.specs.Types.{Component, Resolved}
use Rattle.encodings.specs.Header.{Octets, Encodings}
use Rattle.der_check.specs.Units.{IsUnit}

-- one of some encodings
pub data Has (x : Octets) : Encodings → Type 0 where
  has_first : {xs : Encodings} → Has x (x ∷ xs)
  has_later : {y : Octets} {xs : Encodings} → Has x xs → Has x (y ∷ xs)

-- one of some encodings, and no other is equal to it
pub data Once (x : Octets) : Encodings → Type 0 where
  once_first : {xs : Encodings} → (Has x xs → ⊥) → Once x (x ∷ xs)
  once_later : {y : Octets} {xs : Encodings} → (x ≡ y → ⊥) → Once x xs → Once x (y ∷ xs)

-- an encoding whose tag can be the first one of the type
pub record BeginsType (s : List Resolved) (t : ℕ) (x : Octets) : Type 0 where
  pub tag : Tag
  pub unit : IsUnit tag x
  pub is_first : First s t tag

-- x is the only one of the encodings whose tag can be the first one of the type
pub record IsOnly (s : List Resolved) (t : ℕ) (ys : Encodings) (x : Octets) : Type 0 where
  pub there : Has x ys
  pub begins : BeginsType s t x
  pub only : (y : Octets) → Has y ys → BeginsType s t y → y ≡ x

-- the encoding of each component that is present is the only one of its type
pub data ArePlaced (s : List Resolved) (ys : Encodings) : List Component → Row → Encodings → Type 0 where
  placed_none : ArePlaced s ys [] end []
  placed_absent : {c : Component} {cs : List Component} {ws : Row} {xs : Encodings}
      → ArePlaced s ys cs ws xs
      → ArePlaced s ys (c ∷ cs) (absent ws) xs
  placed_present : {c : Component} {cs : List Component} {w : AbstractValue} {ws : Row} {x : Octets} {xs : Encodings}
      → IsOnly s c.type ys x
      → ArePlaced s ys cs ws xs
      → ArePlaced s ys (c ∷ cs) (present w ws) (x ∷ xs)
