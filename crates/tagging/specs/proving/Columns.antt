-- What is found once for all types of a table: the types that references lead to, and which lists are tagged
-- automatically.
use Rattle.std.specs.Prelude.{◌≡◌, ℕ, Bool, true, false, List, Option, map, length}
use Rattle.trees.specs.declared.module.TagDefault.{TagDefault}
use Rattle.type_table.specs.Table.{Type', WrittenKind, reference, IsWrittenType}
use Rattle.type_table.specs.proving.Notes.{AreRight, AreNoted}
use Rattle.tagging.specs.Tags.{automatic_kind}
use Rattle.tagging.specs.declared.table.TableRef.{TableRef}
use Rattle.tagging.specs.declared.table.TableRef.TheVariants.{Owned, Lent}
use Rattle.tagging.specs.declared.table.TagTable.{TagTable}

abbrev pub is_reference : WrittenKind → Bool
is_reference (reference j) = true
is_reference k = false

-- type f is the first type, from type i on through references, that is no reference
pub data Front (ts : List Type') : ℕ → ℕ → Type 0 where
  here : {i : ℕ} {k : WrittenKind} {d : TagDefault} {l : Option (ℕ × ℕ)} →
      IsWrittenType ts i k d l →
      is_reference k ≡ false →
      Front ts i i
  through : {i j f : ℕ} {d : TagDefault} {l : Option (ℕ × ℕ)} →
      IsWrittenType ts i (reference j) d l →
      Front ts j f →
      Front ts i f

-- the fronts that are noted are right
abbrev pub AreKnown : List Type' → List ℕ → Type 0
AreKnown ts fronts = AreRight (length ts) (Front ts) fronts

-- these are the fronts of all types, in order
abbrev pub AreFronts : List Type' → List ℕ → Type 0
AreFronts ts fronts = AreNoted (length ts) (Front ts) fronts

-- whether the members of each type are tagged automatically; false for a type that is no list
abbrev pub all_automatic : List Type' → List Bool
all_automatic ts = map (λ t. automatic_kind ts t.kind t.default) ts

-- the table that is owned or lent
abbrev pub held : TableRef → TagTable
held (Owned t) = t
held (Lent t) = t.now

-- the table has what is found once for these types
pub record HoldsOf (ts : List Type') (t : TagTable) : Type 0 where
  pub fronts : AreFronts ts t.fronts.items
  pub automatic : t.automatic.items ≡ all_automatic ts
