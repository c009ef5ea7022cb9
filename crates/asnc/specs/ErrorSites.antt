-- Where octets are refused, in the names of a schema.
use Rattle.std.specs.Prelude.{◌≡◌, ℕ, ◌<◌, ◌≤◌, List, [], ◌∷◌, ◌++◌, length, Some, None, codes, decimal, slice_get}
use Rattle.asn_base.specs.declared.schema.TypeId.{TypeId}
use Rattle.asn_base.specs.Schemas.{components}
use Rattle.asn_base.specs.Types.{Resolved}
use Rattle.value_text.specs.Print.{alternatives_in, kind_at}
use Rattle.octet_answers.specs.States.{Token}
use Rattle.ber_reader.specs.declared.open.OpenValue.{OpenValue}
use Rattle.ber_reader.specs.declared.open.Part.{Part}
use Rattle.ber_reader.specs.declared.open.Part.TheVariants.{Component, Alternative, Element}
use Rattle.ber_reader.specs.declared.stop.ErrorPosition.{ErrorPosition}
use Rattle.ber_reader.specs.Messages.{IsMessage, IsRead, EncodesNoValue, budget_of}
use Rattle.ber_reader.specs.Stops.{IsStop, IsStopBefore}
use Rattle.ber_reader.specs.Readings.{IsBeforeInnermost, IsErrorPosition}

-- the identifier of component i of type t
abbrev pub component_name : List Resolved → ℕ → ℕ → List ℕ
component_name s t i = elim (slice_get (components (kind_at s t)) i) [
  | None ↦ []
  | Some c ↦ c.name
]

-- the identifier of alternative i of type t
abbrev pub alternative_name : List Resolved → ℕ → ℕ → List ℕ
alternative_name s t i = elim (slice_get (alternatives_in (kind_at s t)) i) [
  | None ↦ []
  | Some a ↦ a.name
]

-- a path followed by a name, after a dot, unless the path is empty
abbrev pub with_name : List ℕ → List ℕ → List ℕ
with_name [] x = x
with_name (c ∷ p) x = (c ∷ p) ++ (codes "." ++ x)

-- a path followed by the number of an element in square brackets
abbrev pub with_number : List ℕ → ℕ → List ℕ
with_number p i = p ++ (codes "[" ++ (decimal i ++ codes "]"))

-- a path followed by a part of a value of type t
abbrev pub with_part : List Resolved → ℕ → List ℕ → Part → List ℕ
with_part s t p (Component i) = with_name p (component_name s t i)
with_part s t p (Alternative i) = with_name p (alternative_name s t i)
with_part s t p (Element i) = with_number p i

-- a path followed by the part of an open value that was being read, if any
abbrev pub with_open : List Resolved → List ℕ → OpenValue → List ℕ
with_open s p o = elim o.part [
  | None ↦ p
  | Some part ↦ with_part s o.ty.index p part
]

abbrev pub with_opens : List Resolved → List ℕ → List OpenValue → List ℕ
with_opens s p [] = p
with_opens s p (o ∷ os) = with_opens s (with_open s p o) os

-- the path of the parts that were being read, the outermost first
abbrev pub path_of : List Resolved → List OpenValue → List ℕ
path_of s os = with_opens s [] os

-- The octet at which reading the octets as a value of type t stops, and the parts that were being read there. If the
-- octets are read to their end, it is the start of the part that is judged wrong. If they encode something that isn't a
-- value of the type, this is the innermost value that isn't one of its type.
pub record IsErrorSite (s : List Resolved) (t : ℕ) (o : List ℕ) (offset : ℕ) (path : List ℕ) : Type 0 where
  pub id : TypeId
  pub numbered : id.index ≡ t
  pub found : ErrorPosition
  pub is : IsErrorPosition s id o found
  pub first : ((ts : List Token) → IsMessage s t o ts → ⊥)
      → length o ≤ 16777216
      → IsStop s id o (budget_of (length o)) found
  pub judged : IsRead s id o → t < length s → length o ≤ 16777216 → IsStopBefore s id o found
  pub innermost : (r : IsRead s id o) → (n : EncodesNoValue s t o) →
      IsBeforeInnermost s id o r.last.emitted n.value found
  pub at : offset ≡ found.place
  pub parts : path ≡ path_of s found.values.items
