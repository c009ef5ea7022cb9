-- Which of several faults of ranges is reported (X.680, clauses 51.2, 51.4 and 51.5), and where in the text: that of
-- the first range at fault. In a range the lower end goes before the upper one, and both before their order. Ends are
-- read in module M, in a constraint on a type of kind k.
use Rattle.std.specs.Prelude.{◌≡◌, ◌⊎◌, ◌<◌, ℕ, ℤ, List, Some, None, map, slice_get}
use Rattle.trees.specs.declared.constraint.EndSyntax.{EndSyntax}
use Rattle.trees.specs.declared.constraint.EndSyntax.TheVariants as written
use Rattle.trees.specs.declared.constraint.RangeSyntax.{RangeSyntax}
use Rattle.trees.specs.declared.constraint.RangeSyntax.TheVariants as syntax
use Rattle.trees.specs.Constraints.{RangeTree, between, end_of, range_of}
use Rattle.trees.specs.Values.{Name}
use Rattle.names.specs.declared.scope.Assigned.{Assigned}
use Rattle.names.specs.Names.{Meaning}
use Rattle.type_table.specs.Table.{WrittenKind}
use Rattle.resolve.specs.Program.{Program}
use Rattle.range_ends.specs.Answers.{IsOf}
use Rattle.range_ends.specs.Ends.{EndIs, HasNoNumber, IsCircularEnd, notation_of}
use Rattle.range_ends.specs.Ranges.{IsEnd, IsRange, IsReversed}
use Rattle.range_ends.specs.declared.written_ranges.Counted.{Counted}
use Rattle.range_ends.specs.declared.written_ranges.RangeFault.{RangeFault}
use Rattle.range_ends.specs.declared.written_ranges.RangeFault.TheVariants as faults
use Rattle.range_ends.specs.declared.written_ranges.RangesFault.{RangesFault}
use Rattle.range_ends.specs.declared.written_ranges.RangesFault.TheVariants as wrong

-- the offset of an end in the text: that of its number or of its name
abbrev pub end_place : EndSyntax → ℕ
end_place (written.Number n) = n.at
end_place (written.Reference r) = r.at

-- the end stands for no number, or for one that may not be an end; the fault has the offset of the end
abbrev pub IsEndWrong : Program → WrittenKind → Name → Counted → EndSyntax → RangeFault → Type 0
IsEndWrong p k M of e (faults.NoEnd at) =
    (at ≡ end_place e)
    × (HasNoNumber p k M (notation_of (end_of e)) ⊎ ((z : ℤ) × EndIs p k M (end_of e) z × (IsOf of z → ⊥)))
IsEndWrong p k M of e (faults.Circular v) = IsCircularEnd p k M (notation_of (end_of e)) v
IsEndWrong p k M of e (faults.Reversed at) = ⊥

-- the lower end is above the upper one; the fault has the offset of the lower end
abbrev pub IsTurnedAt : Program → WrittenKind → Name → Counted → EndSyntax → EndSyntax → RangeFault → Type 0
IsTurnedAt p k M of a b (faults.Reversed at) =
    (at ≡ end_place a) × IsReversed p k M (IsOf of) (between (Some (end_of a)) (Some (end_of b)))
IsTurnedAt p k M of a b f = ⊥

-- the first fault of a range with two ends
pub data IsBetweenWrong (p : Program) (k : WrittenKind) (M : Name) (of : Counted) (a b : EndSyntax) : RangeFault →
    Type 0 where
  of_lower : {f : RangeFault} →
      IsEndWrong p k M of a f →
      IsBetweenWrong p k M of a b f
  of_upper : {f : RangeFault} →
      IsEnd p k M (IsOf of) (end_of a) →
      IsEndWrong p k M of b f →
      IsBetweenWrong p k M of a b f
  of_both : {f : RangeFault} →
      IsTurnedAt p k M of a b f →
      IsBetweenWrong p k M of a b f

-- the first fault of a range
abbrev pub IsRangeWrong : Program → WrittenKind → Name → Counted → RangeSyntax → RangeFault → Type 0
IsRangeWrong p k M of (syntax.Single e) f = IsEndWrong p k M of e f
IsRangeWrong p k M of (syntax.Between (Some a) (Some b)) f = IsBetweenWrong p k M of a.value b.value f
IsRangeWrong p k M of (syntax.Between (Some a) None) f = IsEndWrong p k M of a.value f
IsRangeWrong p k M of (syntax.Between None (Some b)) f = IsEndWrong p k M of b.value f
IsRangeWrong p k M of (syntax.Between None None) f = ⊥

-- the first fault of ranges: all ranges before that one have a meaning
pub record IsFirstWrong (p : Program) (k : WrittenKind) (M : Name) (of : Counted) (rs : List RangeSyntax)
    (f : RangeFault)
    : Type 0 where
  pub number : ℕ
  pub range : RangeSyntax
  pub there : slice_get rs number ≡ Some range
  pub fault : IsRangeWrong p k M of range f
  pub before : (n : ℕ) (r : RangeTree) →
      n < number →
      slice_get (map range_of rs) n ≡ Some r →
      IsRange p k M (IsOf of) r

-- the first fault of ranges, or that there was not enough memory
abbrev pub IsFirst : Program → WrittenKind → Name → Counted → List RangeSyntax → RangesFault → Type 0
IsFirst p k M of rs wrong.Memory = Unit {0}
IsFirst p k M of rs (wrong.At f) = IsFirstWrong p k M of rs f

-- no name has two meanings in one module
abbrev pub HaveOneMeaning : Program → Type 0
HaveOneMeaning p = (M x : Name) (a b : Assigned) → Meaning p.modules M x a → Meaning p.modules M x b → a ≡ b

-- both faults report the same
abbrev pub ReportsSame : RangeFault → RangeFault → Type 0
ReportsSame (faults.NoEnd m) (faults.NoEnd n) = m ≡ n
ReportsSame (faults.Reversed m) (faults.Reversed n) = m ≡ n
ReportsSame (faults.Circular v) (faults.Circular w) = v ≡ w
ReportsSame f g = ⊥
