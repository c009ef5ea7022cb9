use Rattle.std.proofs.Common.{◌≡◌, map, rules, refl, sym, subst, ◌∙◌}
use Rattle.asn_base.specs.Seen.{range_of}
use Rattle.trees.specs.Constraints.{ranges_of, range_of as tree_of}
use Rattle.type_table.specs.Seen.{kind_of}
use Rattle.range_ends.specs.Answers.{AreRangesOf, AreRangesWrong}
use Rattle.range_ends.specs.declared.written_ranges.RangesFault.TheVariants as wrong
use Rattle.range_ends.specs.declared.written_ranges.RangeFault.TheVariants as faults
use Rattle.range_ends.specs.First.{IsFirst}
use Rattle.constraints.specs.declared.meaning.Rule.TheVariants as broken
use Rattle.constraints.specs.declared.meaning.ConstraintFault.TheVariants as wrongs
use Rattle.constraints.specs.proving.Reported.{AreRangesWrong as AreWrong, range}
use Rattle.constraints.proofs.Senses.{numbers_are, turned}
use Rattle.constraints.proofs.meaning.numbers_of.Goals as goal

pub returns-in-Ok-union_of-clause-found : goal.returns-in-Ok-union_of-clause-found
returns-in-Ok-union_of-clause-found c =
    let s = c.args.site.now in
    numbers_are s.scope.now.program (kind_of s.shape.now) s.within.now s.of (ranges_of c.args.ranges.now)
    (map range_of c.in-Ok.all.items) c.in-Ok-union_of.numbers (sym (c.is_marked.ensures s.of) ∙ c.if-not-is_marked.false)
    (subst (λ xs. AreRangesOf s.scope.now.program (kind_of s.shape.now) s.within.now s.of (map tree_of xs) (map range_of c.in-Ok.all.items))
    c.deref.ensures.value c.in-Ok.ensures.found) c.in-Ok-union_of.ensures.members

pub returns-in-Err-At-Reversed-clause-found : goal.returns-in-Err-At-Reversed-clause-found
returns-in-Err-At-Reversed-clause-found c =
    let s = c.args.site.now in
    let w = subst (λ xs. AreRangesWrong s.scope.now.program (kind_of s.shape.now) s.within.now s.of (map tree_of xs) c.in-Err-At-Reversed.field-0)
    c.deref.ensures.value c.in-Err-At-Reversed.ensures.found in
    let q : c.in-Err-At-Reversed.field-0 ≡ wrong.At (faults.Reversed c.in-Err-At-Reversed.place) = search rules in
    turned s.scope.now.program (kind_of s.shape.now) s.within.now s.of (ranges_of c.args.ranges.now) c.in-Err-At-Reversed.place
    (subst (λ f. AreRangesWrong s.scope.now.program (kind_of s.shape.now) s.within.now s.of (ranges_of c.args.ranges.now).ranges f) q w)

pub returns-in-Err-At-NoEnd-clause-wrong : goal.returns-in-Err-At-NoEnd-clause-wrong
returns-in-Err-At-NoEnd-clause-wrong c =
    let s = c.args.site.now in
    let x = c.in-Err-At-NoEnd in
    let h = subst (λ xs. IsFirst s.scope.now.program (kind_of s.shape.now) s.within.now s.of xs x.field-0) c.deref.ensures.value
    x.ensures.first in
    let q : x.field-0 ≡ wrong.At (faults.NoEnd x.place) = search rules in
    let g : AreWrong s.scope.now.program (kind_of s.shape.now) s.within.now s.of c.args.at c.args.ranges.now (wrongs.At broken.WrongKind x.place) =
    range (faults.NoEnd x.place) (sym (c.is_marked.ensures s.of) ∙ c.if-not-is_marked.false)
    (subst (IsFirst s.scope.now.program (kind_of s.shape.now) s.within.now s.of c.args.ranges.now.ranges.items) q h) refl in
    rw q g

pub returns-in-Err-At-Reversed-clause-wrong : goal.returns-in-Err-At-Reversed-clause-wrong
returns-in-Err-At-Reversed-clause-wrong c =
    let s = c.args.site.now in
    let x = c.in-Err-At-Reversed in
    let h = subst (λ xs. IsFirst s.scope.now.program (kind_of s.shape.now) s.within.now s.of xs x.field-0) c.deref.ensures.value
    x.ensures.first in
    let q : x.field-0 ≡ wrong.At (faults.Reversed x.place) = search rules in
    let g : AreWrong s.scope.now.program (kind_of s.shape.now) s.within.now s.of c.args.at c.args.ranges.now (wrongs.At broken.LowerAboveUpper x.place) =
    range (faults.Reversed x.place) (sym (c.is_marked.ensures s.of) ∙ c.if-not-is_marked.false)
    (subst (IsFirst s.scope.now.program (kind_of s.shape.now) s.within.now s.of c.args.ranges.now.ranges.items) q h) refl in
    rw q g

pub returns-in-Err-At-Circular-clause-wrong : goal.returns-in-Err-At-Circular-clause-wrong
returns-in-Err-At-Circular-clause-wrong c =
    let s = c.args.site.now in
    let x = c.in-Err-At-Circular in
    let h = subst (λ xs. IsFirst s.scope.now.program (kind_of s.shape.now) s.within.now s.of xs x.field-0) c.deref.ensures.value
    x.ensures.first in
    let q : x.field-0 ≡ wrong.At (faults.Circular x.value) = search rules in
    let g : AreWrong s.scope.now.program (kind_of s.shape.now) s.within.now s.of c.args.at c.args.ranges.now (wrongs.Circular x.value) =
    range (faults.Circular x.value) (sym (c.is_marked.ensures s.of) ∙ c.if-not-is_marked.false)
    (subst (IsFirst s.scope.now.program (kind_of s.shape.now) s.within.now s.of c.args.ranges.now.ranges.items) q h) refl in
    rw q g
