-- Which of several faults of constraints is reported (X.680, clauses 49 to 52), and where in the text. Types are
-- checked by their numbers, and before each one those that its references and tags lead to, the farthest first. The
-- constraints of a type are checked in order. For each one the order is: no earlier one has a marker; the type takes
-- it; its own marker; its ranges.
use Rattle.std.specs.Prelude.{◌≡◌, ◌⊎◌, ◌<◌, ℕ, true, false, List, Some, Vec, map, slice_get}
use Rattle.std.specs.Global.{Global}
use Rattle.trees.specs.declared.location.At.{At as Placed}
use Rattle.trees.specs.declared.location.SourceLocation.{SourceLocation}
use Rattle.trees.specs.declared.constraint.CharsSyntax.{CharsSyntax}
use Rattle.trees.specs.declared.constraint.ConstraintForm.TheVariants as forms
use Rattle.trees.specs.declared.constraint.ConstraintSyntax.{ConstraintSyntax}
use Rattle.trees.specs.declared.constraint.RangesSyntax.{RangesSyntax}
use Rattle.trees.specs.Constraints.{ConstraintTree, constraint_of, chars_of}
use Rattle.trees.specs.Values.{Name}
use Rattle.names.specs.declared.sources.AssignedAt.{AssignedAt}
use Rattle.names.specs.Faults.{fault_module, fault_name}
use Rattle.names.specs.Sources.{Value, assignment_of}
use Rattle.type_table.specs.declared.table.TypeNode.{TypeNode}
use Rattle.type_table.specs.Seen.{types_of}
use Rattle.type_table.specs.Table.{WrittenKind, walk}
use Rattle.resolve.specs.Program.{Program, IsAssignment}
use Rattle.tagging.specs.Faults.{IsWrittenIn}
use Rattle.range_ends.specs.Characters.{CharsTree, IsCharacter, IsFit, AreReversed}
use Rattle.range_ends.specs.Ends.{IsTypeOfKind}
use Rattle.range_ends.specs.First.{IsFirstWrong}
use Rattle.range_ends.specs.declared.written_ranges.Counted.TheVariants.{Numbers, Sizes}
use Rattle.range_ends.specs.declared.written_ranges.RangeFault.{RangeFault}
use Rattle.range_ends.specs.declared.written_ranges.RangeFault.TheVariants as ranges
use Rattle.constraints.specs.Constraints.{takes, is_marked, IsFitting}
use Rattle.constraints.specs.declared.characters.CharsFault.{CharsFault}
use Rattle.constraints.specs.declared.characters.CharsFault.TheVariants as chars
use Rattle.constraints.specs.declared.column.Fault.{Fault}
use Rattle.constraints.specs.declared.column.Fault.TheVariants as faults
use Rattle.constraints.specs.declared.fault.BoundFault.{BoundFault}
use Rattle.constraints.specs.declared.fault.BoundFault.TheVariants as reported
use Rattle.constraints.specs.declared.limit.Limit.{Limit}
use Rattle.constraints.specs.declared.meaning.Rule.{Rule}
use Rattle.constraints.specs.declared.meaning.Rule.TheVariants as rules
use Rattle.constraints.specs.declared.meaning.ConstraintFault.{ConstraintFault}
use Rattle.constraints.specs.declared.meaning.ConstraintFault.TheVariants as wrongs
use Rattle.constraints.specs.proving.Columns.{IsLimitOf, IsStartOf, fault_of}
use Rattle.constraints.specs.proving.Limits.{IsMarkedIn, LeavesNone}

-- ---- characters

-- An end of a range isn't a single character; this is reported at that end, and the first end is checked before the
-- last. Or the first character has a greater code than the last, which is reported at the first.
abbrev pub AreEndsWrong : Placed (Vec ℕ Global) → Placed (Vec ℕ Global) → CharsFault → Type 0
AreEndsWrong a b (chars.NoCharacter at) =
    ((at ≡ a.at) × ((c : ℕ) → IsCharacter a.it.items c → ⊥))
    ⊎ ((at ≡ b.at) × (c : ℕ) × IsCharacter a.it.items c × ((d : ℕ) → IsCharacter b.it.items d → ⊥))
AreEndsWrong a b (chars.Reversed at) = (at ≡ a.at) × AreReversed a.it.items b.it.items

-- the fault is the first one of a range of characters; a text that is no range has none
abbrev pub IsCharsWrong : CharsSyntax → CharsFault → Type 0
IsCharsWrong c f = (b : Placed (Vec ℕ Global)) × (c.last ≡ Some b) × AreEndsWrong c.first b f

-- the first fault in texts and ranges of characters
pub record IsFirstChars (cs : List CharsSyntax) (f : CharsFault) : Type 0 where
  pub number : ℕ
  pub range : CharsSyntax
  pub there : slice_get cs number ≡ Some range
  pub fault : IsCharsWrong range f
  pub before : (n : ℕ) (c : CharsTree) → n < number → slice_get (map chars_of cs) n ≡ Some c → IsFit c

-- ---- one constraint

-- the fault of a constraint in which this is the fault of a range
abbrev pub wrong_of : RangeFault → ConstraintFault
wrong_of (ranges.NoEnd at) = wrongs.At rules.WrongKind at
wrong_of (ranges.Reversed at) = wrongs.At rules.LowerAboveUpper at
wrong_of (ranges.Circular v) = wrongs.Circular v

-- the fault of a constraint in which this is the fault of a range of characters
abbrev pub wrong_chars : CharsFault → ConstraintFault
wrong_chars (chars.NoCharacter at) = wrongs.At rules.WrongKind at
wrong_chars (chars.Reversed at) = wrongs.At rules.LowerAboveUpper at

-- The first fault of a constraint by itself, of a type of kind k, read in module M. It is at the constraint, or at an
-- end of a range in it.
pub data IsConstraintWrong (p : Program) (k : WrittenKind) (M : Name) (c : ConstraintSyntax)
    (w : ConstraintFault) : Type 0 where
  memory : w ≡ wrongs.Memory → IsConstraintWrong p k M c w
  not_taken : takes k (constraint_of c) ≡ false →
      w ≡ wrongs.At rules.WrongKind c.at →
      IsConstraintWrong p k M c w
  misplaced : takes k (constraint_of c) ≡ true →
      is_marked k (constraint_of c) ≡ false →
      w ≡ wrongs.At rules.MarkerPlace c.at →
      IsConstraintWrong p k M c w
  in_numbers : (r : RangesSyntax) (f : RangeFault) →
      takes k (constraint_of c) ≡ true →
      is_marked k (constraint_of c) ≡ true →
      c.form ≡ forms.Values r →
      IsFirstWrong p k M Numbers r.ranges.items f →
      w ≡ wrong_of f →
      IsConstraintWrong p k M c w
  in_sizes : (r : RangesSyntax) (f : RangeFault) →
      takes k (constraint_of c) ≡ true →
      is_marked k (constraint_of c) ≡ true →
      c.form ≡ forms.Size r →
      IsFirstWrong p k M Sizes r.ranges.items f →
      w ≡ wrong_of f →
      IsConstraintWrong p k M c w
  in_characters : (cs : Vec CharsSyntax Global) (f : CharsFault) →
      takes k (constraint_of c) ≡ true →
      c.form ≡ forms.From cs →
      IsFirstChars cs.items f →
      w ≡ wrong_chars f →
      IsConstraintWrong p k M c w

-- ---- the constraints of a type

-- A marker is before constraint n. It is in an earlier one of these constraints, or in one of a type that this type
-- leads to; l is what the constraints of that type allow.
abbrev pub IsAfterMarker : List ConstraintSyntax → Limit → ℕ → Type 0
IsAfterMarker cs l n = (l.extensible ≡ true) ⊎ IsMarkedIn (map constraint_of cs) n

-- the first fault of c, which is constraint n of these
pub data IsNextWrong (p : Program) (k : WrittenKind) (M : Name) (cs : List ConstraintSyntax) (l : Limit) (n : ℕ)
    (c : ConstraintSyntax) (w : ConstraintFault) : Type 0 where
  reconstrained : IsAfterMarker cs l n →
      w ≡ wrongs.At rules.Reconstrained c.at →
      IsNextWrong p k M cs l n c w
  itself : (IsAfterMarker cs l n → ⊥) →
      IsConstraintWrong p k M c w →
      IsNextWrong p k M cs l n c w

-- the first fault of these constraints
pub record IsFirstConstraint (p : Program) (k : WrittenKind) (M : Name) (cs : List ConstraintSyntax) (l : Limit)
    (w : ConstraintFault)
    : Type 0 where
  pub number : ℕ
  pub constraint : ConstraintSyntax
  pub there : slice_get cs number ≡ Some constraint
  pub fault : IsNextWrong p k M cs l number constraint w
  pub before : (n : ℕ) (c : ConstraintTree) →
      n < number →
      slice_get (map constraint_of cs) n ≡ Some c →
      IsFitting p k M c
  -- no earlier constraint comes after a marker
  pub unmarked : (n : ℕ) → n < number → IsAfterMarker cs l n → ⊥

-- The first fault of all constraints of a type that begins at the place. It is the fault of one constraint, or each has
-- a meaning and together they allow nothing.
pub data IsLimitWrong (p : Program) (k : WrittenKind) (M : Name) (cs : List ConstraintSyntax) (l : Limit) (place : ℕ)
    (w : ConstraintFault) : Type 0 where
  of_one : IsFirstConstraint p k M cs l w → IsLimitWrong p k M cs l place w
  empty : LeavesNone p k M (map constraint_of cs) l →
      w ≡ wrongs.At rules.Empty place →
      IsLimitWrong p k M cs l place w

-- ---- types

-- the first fault of type i; these are the types as they are written
pub record IsTypeFault (p : Program) (ws : List TypeNode) (i : ℕ) (f : Fault) : Type 0 where
  pub written : TypeNode
  pub there : slice_get ws i ≡ Some written
  pub kind : WrittenKind
  pub of_kind : IsTypeOfKind p.types i kind
  pub within : Name
  pub assigns : Name
  pub is_so : IsAssignment p written.assignment within assigns
  -- what the constraints of the types that this type leads to allow; each of these types is left something
  pub start : Limit
  pub starts : IsStartOf p i start
  pub wrong : ConstraintFault
  pub fault : IsLimitWrong p kind within written.constraints.items start written.at wrong
  pub reported : f ≡ fault_of wrong i

-- The first fault of a program: of type `number`, or of a type that it leads to. For all types with lower numbers, the
-- constraints have a meaning and allow something, and so do those of the types that they lead to.
pub record IsFirstFault (p : Program) (ws : List TypeNode) (f : Fault) : Type 0 where
  pub number : ℕ
  pub steps : ℕ
  pub of : ℕ
  pub chain : walk p.types steps number ≡ Some of
  pub fault : IsTypeFault p ws of f
  pub before : (i : ℕ) → i < number → (l : Limit) × IsLimitOf p i l

-- ---- faults by name

-- the first fault breaks the rule, and the spot has the module and the assignment in which its type is written
pub record IsFirstAt (p : Program) (ws : List TypeNode) (r : Rule) (s : SourceLocation) : Type 0 where
  pub ty : ℕ
  pub first : IsFirstFault p ws (faults.At r ty s.at)
  pub is_so : IsWrittenIn p ty (fault_module s) (fault_name s)

-- The first fault is that an end leads into a circle of values. It is reported at the place where the first of them
-- gets its name.
pub record IsFirstCircularEnd (p : Program) (ws : List TypeNode) (gs : List AssignedAt) (s : SourceLocation)
    : Type 0 where
  pub number : ℕ
  pub first : IsFirstFault p ws (faults.Circular number)
  pub value : Value
  pub there : slice_get p.values number ≡ Some value
  pub is_so : IsAssignment p value.assignment (fault_module s) (fault_name s)
  pub assigned : AssignedAt
  pub written : slice_get gs value.assignment ≡ Some assigned
  pub at : s.at ≡ assigned.name.at

-- the types and the assignments of the program, with their places in the text
pub record AreWritten (p : Program) (ws : List TypeNode) (gs : List AssignedAt) : Type 0 where
  pub types : types_of ws ≡ p.types
  pub assignments : map assignment_of gs ≡ p.assignments

-- this fault is the first of a program whose types and assignments are written so; `Memory` says nothing
abbrev pub IsFirst : Program → List TypeNode → List AssignedAt → BoundFault → Type 0
IsFirst p ws gs reported.Memory = Unit {0}
IsFirst p ws gs (reported.Circular s) = IsFirstCircularEnd p ws gs s
IsFirst p ws gs (reported.Empty s) = IsFirstAt p ws rules.Empty s
IsFirst p ws gs (reported.WrongKind s) = IsFirstAt p ws rules.WrongKind s
IsFirst p ws gs (reported.Reconstrained s) = IsFirstAt p ws rules.Reconstrained s
IsFirst p ws gs (reported.LowerAboveUpper s) = IsFirstAt p ws rules.LowerAboveUpper s
IsFirst p ws gs (reported.MarkerPlace s) = IsFirstAt p ws rules.MarkerPlace s

-- ---- one fault

-- two spots have one module, one name and one place
abbrev pub IsSameSpot : SourceLocation → SourceLocation → Type 0
IsSameSpot s t = (fault_module s ≡ fault_module t) × (fault_name s ≡ fault_name t) × (s.at ≡ t.at)

-- both faults report the same rule at the same spot; `Memory` says nothing
abbrev pub ReportsSame : BoundFault → BoundFault → Type 0
ReportsSame reported.Memory f = Unit {0}
ReportsSame e reported.Memory = Unit {0}
ReportsSame (reported.Circular s) (reported.Circular t) = IsSameSpot s t
ReportsSame (reported.Empty s) (reported.Empty t) = IsSameSpot s t
ReportsSame (reported.WrongKind s) (reported.WrongKind t) = IsSameSpot s t
ReportsSame (reported.Reconstrained s) (reported.Reconstrained t) = IsSameSpot s t
ReportsSame (reported.LowerAboveUpper s) (reported.LowerAboveUpper t) = IsSameSpot s t
ReportsSame (reported.MarkerPlace s) (reported.MarkerPlace t) = IsSameSpot s t
ReportsSame e f = ⊥
