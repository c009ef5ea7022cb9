-- What constraints mean.
use Rattle.std.proofs.Common.{◌≡◌, ◌↔◌, ◌<◌, ℕ, ℤ, List, Some, None, true, false, refl, inr}
use Rattle.asn_base.specs.Names.{IsMember}
use Rattle.asn_base.specs.Types.{Range}
use Rattle.asn_base.specs.Typed.{IsInSome}
use Rattle.asn_base.specs.Schemas.{IsSize}
use Rattle.trees.specs.Values.{Name}
use Rattle.trees.specs.Constraints.{RangesTree, values_in, sizes_in, chars_in}
use Rattle.trees.specs.Types.{an_integer}
use Rattle.trees.specs.Types as types
use Rattle.type_table.specs.Table.{WrittenKind, simple, reference, tagged, members, elements}
use Rattle.resolve.specs.Program.{Program}
use Rattle.range_ends.specs.Answers.{AreRangesOf, AreRangesWrong}
use Rattle.range_ends.specs.Characters.{CharsTree, IsAmongAny, AreFit}
use Rattle.range_ends.specs.declared.written_ranges.Counted.{Counted}
use Rattle.range_ends.specs.declared.written_ranges.Counted.TheVariants.{Numbers, Sizes}
use Rattle.range_ends.specs.declared.written_ranges.RangesFault.TheVariants as wrong
use Rattle.range_ends.specs.declared.written_ranges.RangeFault.TheVariants as faults
use Rattle.constraints.specs.Constraints.{takes, is_integer, has_size, is_marked}
use Rattle.constraints.specs.Allowed.{IsCounted}
use Rattle.constraints.specs.Bounded.{IsUnfitConstraint, IsTurnedRound}
use Rattle.constraints.specs.proving.Meanings.{ranged, AreNumbersOf, IsMeaningOf}
use Rattle.constraints.specs.proving.Characters.{AreCharsWrong}
use Rattle.constraints.specs.declared.characters.CharsFault.TheVariants as chars_faults
use Rattle.constraints.specs.declared.meaning.ConstraintMeaning.{ConstraintMeaning}

pub numbers_are : (p : Program) (k : WrittenKind) (M : Name) (of : Counted) (r : RangesTree) (ss ns : List Range) →
    is_marked k (ranged of r) ≡ true →
    AreRangesOf p k M of r.ranges ss →
    ((z : ℤ) → (IsInSome z ns ↔ IsInSome z ss)) →
    AreNumbersOf p k M of r ns
numbers_are p k M of r ss ns m a s = record {
  ranges = a.ranges;
  marked = m;
  same = λ z. (λ i. (a.same z).0 ((s z).0 i), λ i. (s z).1 ((a.same z).1 i));
}

pub turned : (p : Program) (k : WrittenKind) (M : Name) (of : Counted) (r : RangesTree) (at : ℕ) →
    AreRangesWrong p k M of r.ranges (wrong.At (faults.Reversed at)) →
    IsTurnedRound p k M (ranged of r)
turned p k M Numbers r at (x, i, w) = (x, i, w)
turned p k M Sizes r at (x, i, w) = (x, i, w)

pub misfit : (p : Program) (k : WrittenKind) (M : Name) (of : Counted) (r : RangesTree) (at : ℕ) →
    AreRangesWrong p k M of r.ranges (wrong.At (faults.NoEnd at)) →
    IsUnfitConstraint p k M (ranged of r)
misfit p k M Numbers r at (x, i, w) = inr (x, i, w)
misfit p k M Sizes r at (x, i, w) = inr (x, i, w)

pub counted_number : (k : WrittenKind) (z : ℤ) → is_integer k ≡ true → IsCounted k z
counted_number (simple (an_integer ns)) z e = tt
counted_number (simple types.a_boolean) z e = absurd cc
counted_number (simple (types.a_bit_string bs)) z e = absurd cc
counted_number (simple types.an_octet_string) z e = absurd cc
counted_number (simple types.a_null) z e = absurd cc
counted_number (simple types.an_object_identifier) z e = absurd cc
counted_number (simple types.a_relative_oid) z e = absurd cc
counted_number (simple (types.an_enumerated a b)) z e = absurd cc
counted_number (simple types.a_utf8_string) z e = absurd cc
counted_number (simple (types.a_restricted_string s)) z e = absurd cc
counted_number (reference j) z e = absurd cc
counted_number (tagged t w j) z e = absurd cc
counted_number (members l m cs) z e = absurd cc
counted_number (elements y j) z e = absurd cc

pub counted_size : (k : WrittenKind) (z : ℤ) → has_size k ≡ true → (IsCounted k z ↔ IsSize z)
counted_size (simple (an_integer ns)) z e = absurd cc
counted_size (simple types.a_boolean) z e = (λ i. i, λ i. i)
counted_size (simple (types.a_bit_string bs)) z e = (λ i. i, λ i. i)
counted_size (simple types.an_octet_string) z e = (λ i. i, λ i. i)
counted_size (simple types.a_null) z e = (λ i. i, λ i. i)
counted_size (simple types.an_object_identifier) z e = (λ i. i, λ i. i)
counted_size (simple types.a_relative_oid) z e = (λ i. i, λ i. i)
counted_size (simple (types.an_enumerated a b)) z e = (λ i. i, λ i. i)
counted_size (simple types.a_utf8_string) z e = (λ i. i, λ i. i)
counted_size (simple (types.a_restricted_string s)) z e = (λ i. i, λ i. i)
counted_size (reference j) z e = (λ i. i, λ i. i)
counted_size (tagged t w j) z e = (λ i. i, λ i. i)
counted_size (members l m cs) z e = (λ i. i, λ i. i)
counted_size (elements y j) z e = (λ i. i, λ i. i)

pub values_meaning : (p : Program) (k : WrittenKind) (M : Name) (r : RangesTree) (ns : List Range)
    (m : ConstraintMeaning) →
    takes k (values_in r) ≡ true →
    AreNumbersOf p k M Numbers r ns →
    m.numbers ≡ Some ns →
    m.codes ≡ None →
    m.marker ≡ r.marker →
    IsMeaningOf p k M (values_in r) m
values_meaning p k M r ns m t a e f g = record {
  fitting = record { takes_it = t; meant = a.ranges; marked = a.marked };
  numbers = rw e (λ z. (λ i. (counted_number k z t, ((a.same z).0 i).1), λ i. (a.same z).1 (tt, i.1)));
  codes = rw f (λ x. tt);
  marker = g;
}

pub sizes_meaning : (p : Program) (k : WrittenKind) (M : Name) (r : RangesTree) (ns : List Range)
    (m : ConstraintMeaning) →
    takes k (sizes_in r) ≡ true →
    AreNumbersOf p k M Sizes r ns →
    m.numbers ≡ Some ns →
    m.codes ≡ None →
    m.marker ≡ r.marker →
    IsMeaningOf p k M (sizes_in r) m
sizes_meaning p k M r ns m t a e f g = record {
  fitting = record { takes_it = t; meant = a.ranges; marked = a.marked };
  numbers = rw e (λ z. (
    λ i. (let j = (a.same z).0 i in ((counted_size k z t).1 j.0, j.1)),
    λ i. (a.same z).1 ((counted_size k z t).0 i.0, i.1),
  ));
  codes = rw f (λ x. tt);
  marker = g;
}

pub chars_meaning : (p : Program) (k : WrittenKind) (M : Name) (xs : List CharsTree) (cs : List ℕ)
    (m : ConstraintMeaning) →
    takes k (chars_in xs) ≡ true →
    AreFit xs →
    ((c : ℕ) → (IsMember c cs ↔ (IsAmongAny xs c × (c < 128)))) →
    m.numbers ≡ None →
    m.codes ≡ Some cs →
    m.marker ≡ false →
    IsMeaningOf p k M (chars_in xs) m
chars_meaning p k M xs cs m t a s e f g = record {
  fitting = record { takes_it = t; meant = a; marked = refl };
  numbers = rw e (λ z. tt);
  codes = rw f s;
  marker = g;
}

pub chars_misfit : (p : Program) (k : WrittenKind) (M : Name) (xs : List CharsTree) (at : ℕ) →
    AreCharsWrong xs (chars_faults.NoCharacter at) →
    IsUnfitConstraint p k M (chars_in xs)
chars_misfit p k M xs at (x, i, w) = inr (x, i, w)
