-- The results for one constraint of a type of kind k, read in module M.
use Rattle.std.specs.Prelude.{◌≡◌, ◌↔◌, ◌<◌, ℕ, ℤ, List, MatchOption, true}
use Rattle.asn_base.specs.Names.{IsMember}
use Rattle.asn_base.specs.Types.{Range}
use Rattle.asn_base.specs.Typed.{IsInSome}
use Rattle.trees.specs.Values.{Name}
use Rattle.trees.specs.Constraints.{RangesTree, ConstraintTree, values_in, sizes_in}
use Rattle.type_table.specs.Table.{WrittenKind}
use Rattle.resolve.specs.Program.{Program}
use Rattle.range_ends.specs.Answers.{IsOf}
use Rattle.range_ends.specs.Ranges.{IsWithinOne, AreRanges}
use Rattle.range_ends.specs.declared.written_ranges.Counted.{Counted}
use Rattle.range_ends.specs.declared.written_ranges.Counted.TheVariants.{Numbers, Sizes}
use Rattle.constraints.specs.Constraints.{IsFitting, is_marked, AllowsNumber, AllowsCharacter, has_marker}
use Rattle.constraints.specs.Allowed.{IsCounted}
use Rattle.constraints.specs.Bounded.{IsUnfitConstraint, IsRound, IsTurnedRound, HasMisplacedMarker}
use Rattle.constraints.specs.declared.meaning.Rule.{Rule}
use Rattle.constraints.specs.declared.meaning.Rule.TheVariants as rules
use Rattle.constraints.specs.declared.meaning.ConstraintFault.{ConstraintFault}
use Rattle.constraints.specs.declared.meaning.ConstraintFault.TheVariants as wrongs
use Rattle.constraints.specs.declared.meaning.ConstraintMeaning.{ConstraintMeaning}

-- ranges as a constraint on numbers or sizes
abbrev pub ranged : Counted → RangesTree → ConstraintTree
ranged Numbers r = values_in r
ranged Sizes r = sizes_in r

-- the numbers of ranges, whose marker is at an allowed place
pub record AreNumbersOf (p : Program) (k : WrittenKind) (M : Name) (of : Counted) (r : RangesTree) (ns : List Range)
    : Type 0 where
  pub ranges : AreRanges p k M (IsOf of) r.ranges
  pub marked : is_marked k (ranged of r) ≡ true
  pub same : (z : ℤ) → (IsInSome z ns ↔ (IsOf of z × IsWithinOne p k M r.ranges z))

-- m is what a constraint allows
pub record IsMeaningOf (p : Program) (k : WrittenKind) (M : Name) (c : ConstraintTree)
    (m : ConstraintMeaning) : Type 0 where
  pub fitting : IsFitting p k M c
  pub numbers : MatchOption m.numbers
      ((z : ℤ) → AllowsNumber p k M c z)
      (λ ns. (z : ℤ) → (IsInSome z ns ↔ (IsCounted k z × AllowsNumber p k M c z)))
  pub codes : MatchOption m.codes
      ((x : ℕ) → AllowsCharacter c x)
      (λ cs. (x : ℕ) → (IsMember x cs ↔ (AllowsCharacter c x × (x < 128))))
  pub marker : m.marker ≡ has_marker c

-- the constraint breaks the rule by itself
abbrev pub BreaksAlone : Program → WrittenKind → Name → ConstraintTree → Rule → Type 0
BreaksAlone p k M c rules.WrongKind = IsUnfitConstraint p k M c
BreaksAlone p k M c rules.LowerAboveUpper = IsTurnedRound p k M c
BreaksAlone p k M c rules.MarkerPlace = HasMisplacedMarker k M c
BreaksAlone p k M c rules.Empty = ⊥
BreaksAlone p k M c rules.Reconstrained = ⊥

abbrev pub IsWrong : Program → WrittenKind → Name → ConstraintTree → ConstraintFault → Type 0
IsWrong p k M c wrongs.Memory = Unit {0}
IsWrong p k M c (wrongs.Circular v) = IsRound p v k M c
IsWrong p k M c (wrongs.At rule at) = BreaksAlone p k M c rule
