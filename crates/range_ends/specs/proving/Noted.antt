-- Where references lead in constraints on types, as it was found for all ends at once.
use Rattle.std.specs.Prelude.{◌≡◌, ℕ, List, Option, Some, slice_get}
use Rattle.type_table.specs.Table.{WrittenKind}
use Rattle.type_table.specs.Walks.{follow, ArrivesAt}
use Rattle.resolve.specs.Program.{Program}
use Rattle.range_ends.specs.Cores.{HasKind}
use Rattle.range_ends.specs.proving.Steps.{next}
use Rattle.range_ends.specs.declared.notes.Note.{Note}
use Rattle.range_ends.specs.declared.finder.Finder.{Finder}

-- in a constraint on type `core`, value i leads to value c
abbrev pub Leads : Program → List (Option ℕ) → (core i c : ℕ) → Type 0
Leads p os core i c = (k : WrittenKind) → HasKind p.types core k → ArrivesAt (next p k os) i c

-- what each of these notes says is true
abbrev pub AreRight : Program → List (Option ℕ) → List Note → Type 0
AreRight p os ns = (i : ℕ) (n : Note) → slice_get ns i ≡ Some n → Leads p os n.core n.start n.reached

-- what was found so far is true
pub record AreFound (p : Program) (os : List (Option ℕ)) (f : Finder) : Type 0 where
  pub latest : AreRight p os f.latest.items
  pub kept : AreRight p os f.kept.items

-- in a constraint on a type of kind k, a walk of this many steps leads from value i to a value that leads to value c
pub record IsPath (p : Program) (k : WrittenKind) (os : List (Option ℕ)) (steps i c : ℕ) : Type 0 where
  pub place : ℕ
  pub chain : follow (next p k os) steps i ≡ Some place
  pub goes : ArrivesAt (next p k os) place c
