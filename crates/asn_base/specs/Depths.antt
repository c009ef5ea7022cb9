-- The levels of defaults, kept beside a schema: a table has a row for each type, and a row has a number for each
-- component.
use Rattle.std.specs.Prelude.{◌≡◌, ◌≤◌, ◌↔◌, ℕ, List, [], ◌∷◌, length, map, zero, suc, Option, Some, None, IfSome, slice_get}
use Rattle.std.specs.Prelude.{Vec}
use Rattle.std.specs.List.{AllByRecursion}
use Rattle.std.specs.declared.alloc.Global.{Global}
use Rattle.asn_base.specs.Abstract.{AbstractValue}
use Rattle.asn_base.specs.Types.{Kind, default, Component, Resolved}
use Rattle.asn_base.specs.Typed.{ValueIn}
use Rattle.asn_base.specs.Schemas.{HasValue, components}

-- the number at a place of a row, 1 after the row's end
abbrev pub in_row : List ℕ → ℕ → ℕ
in_row [] j = 1
in_row (l ∷ ls) zero = l
in_row (l ∷ ls) (suc j) = in_row ls j

-- the row at a place, an empty row after the table's end
abbrev pub row_at : List (List ℕ) → ℕ → List ℕ
row_at [] t = []
row_at (r ∷ rs) zero = r
row_at (r ∷ rs) (suc t) = row_at rs t

abbrev pub depth_at : List (List ℕ) → ℕ → ℕ → ℕ
depth_at rows t j = in_row (row_at rows t) j

-- the component's default, if it has one, has at most n levels exactly if l is at most n, for each n up to b
abbrev pub IsDepth : List Resolved → ℕ → Component → ℕ → Type 0
IsDepth s b c l = (d : AbstractValue) → c.presence ≡ default d → (n : ℕ) → n ≤ b → (l ≤ n ↔ ValueIn s n c.type d)

-- each number of the row is the depth of the component at its place
abbrev pub IsDepthRow : List Resolved → ℕ → List Component → List ℕ → Type 0
IsDepthRow s b cs row = (j : ℕ) (c : Component) → slice_get cs j ≡ Some c → IsDepth s b c (in_row row j)

-- each row of the table has the depths of the components of the type at its place
abbrev pub AreDepths : List Resolved → ℕ → List (List ℕ) → Type 0
AreDepths s b rows = (t : ℕ) (r : Resolved) → slice_get s t ≡ Some r →
    IsDepthRow s b (components r.kind) (row_at rows t)

-- the rows of a table, apart from how memory holds them
abbrev pub rows_of : List (Vec ℕ Global) → List (List ℕ)
rows_of = map (λ v. v.items)

-- the table, if there is one, has the levels of all defaults, exactly up to b
abbrev pub AreKnown : List Resolved → ℕ → Option (Vec (Vec ℕ Global) Global) → Type 0
AreKnown s b table = IfSome table (λ v. AreDepths s b (rows_of v.items))

-- no SEQUENCE or SET of the list has more components than a number of 32 bits counts
abbrev pub AreNumbered : List Resolved → Type 0
AreNumbered s = (t : ℕ) (r : Resolved) → slice_get s t ≡ Some r → length (components r.kind) ≤ 4294967295

-- each DEFAULT in the list is a value of its component's type
abbrev pub AreValues : List Resolved → Type 0
AreValues s = (t : ℕ) (r : Resolved) → slice_get s t ≡ Some r → AllByRecursion (HasValue s) (components r.kind)

-- what is known of types by which values are judged; without a table of levels, their DEFAULTs are values
pub record IsReady (s : List Resolved) (table : Option (Vec (Vec ℕ Global) Global)) : Type 0 where
  pub numbered : AreNumbered s
  pub values : table ≡ None → AreValues s

-- type t is of this kind
abbrev pub IsOf : List Resolved → ℕ → Kind → Type 0
IsOf s t k = (r : Resolved) × (slice_get s t ≡ Some r) × (r.kind ≡ k)

abbrev pub AreOf : List Resolved → ℕ → List Component → Type 0
AreOf s t cs = (r : Resolved) × (slice_get s t ≡ Some r) × (components r.kind ≡ cs)

-- no number of a table is above n
abbrev pub NoneAbove : ℕ → List (List ℕ) → Type 0
NoneAbove n rows = (t j : ℕ) → depth_at rows t j ≤ n
