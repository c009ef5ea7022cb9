-- Components with a DEFAULT whose types lead back to the lists that hold them (own rule, narrower than X.680, clause
-- 25).
use Rattle.std.specs.Prelude.{◌≡◌, ◌<◌, ℕ, Bool, List, Some, slice_get}
use Rattle.type_table.specs.asn_base.declared.tag.Tag.{Tag}
use Rattle.type_table.specs.trees.Values.{Tree}
use Rattle.type_table.specs.trees.declared.types.ListKind.{ListKind}
use Rattle.type_table.specs.trees.declared.types.ElementsKind.{ElementsKind}
use Rattle.type_table.specs.trees.declared.types.Keyword.{Keyword}
use Rattle.type_table.specs.trees.Types.{default}
use Rattle.type_table.specs.Table.{Part, WrittenKind, reference, tagged, members, elements, Type'}

-- type k is one that a type of this kind refers to, tags or directly contains
pub data IsPart (k : ℕ) : WrittenKind → Type 0 where
  referred : IsPart k (reference k)
  target_tag : {g : Tag} {w : Keyword} → IsPart k (tagged g w k)
  member : {l : ListKind} {m : Bool} {cs : List Part} (n : ℕ) (c : Part) →
      slice_get cs n ≡ Some c →
      c.ty ≡ k →
      IsPart k (members l m cs)
  element : {e : ElementsKind} → IsPart k (elements e k)

-- type j is type i, or references, tags and contained types lead from i to it, at any depth
pub data Reaches (ts : List Type') : ℕ → ℕ → Type 0 where
  itself : {i : ℕ} → Reaches ts i i
  onward : {i j : ℕ} (k : ℕ) (t : Type') →
      slice_get ts i ≡ Some t →
      IsPart k t.kind →
      Reaches ts k j →
      Reaches ts i j

-- In a table of written types, a component with a DEFAULT has a type that leads back to the list, type i, that has the
-- component. The meaning of the default would depend on itself.
pub record IsWrittenDefaultCircle (ts : List Type') (i : ℕ) : Type 0 where
  pub written : Type'
  pub there : slice_get ts i ≡ Some written
  pub list : ListKind
  pub marker : Bool
  pub components : List Part
  pub is : written.kind ≡ members list marker components
  pub number : ℕ
  pub component : Part
  pub held : slice_get components number ≡ Some component
  pub notation : Tree
  pub defaulted : component.presence ≡ default notation
  pub back : Reaches ts component.ty i

-- type i is the first list in a circle, by the numbers of types
abbrev pub IsFirstDefaultCircle : List Type' → ℕ → Type 0
IsFirstDefaultCircle ts i = IsWrittenDefaultCircle ts i × ((k : ℕ) → k < i → IsWrittenDefaultCircle ts k → ⊥)

-- no list of the table has a component with a DEFAULT whose type leads back to that list (own rule)
abbrev pub NoDefaultCircles : List Type' → Type 0
NoDefaultCircles ts = (i : ℕ) → IsWrittenDefaultCircle ts i → ⊥
