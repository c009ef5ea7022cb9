use Rattle.asn_base.specs.Schemas.{IsNumber}
use Rattle.asn_base.specs.Seen.{constraint_of}
use Rattle.asn_base.specs.Typed.{IsInSome}
use Rattle.later_versions.proofs.Marks.{same_allowed, with_unit}
use Rattle.later_versions.proofs.SameRanges.{same_kept}
use Rattle.later_versions.proofs.constraints.allow_same_numbers.Goals as goal

pub returns-then-have_same_ranges : goal.returns-then-have_same_ranges
returns-then-have_same_ranges c =
    same_kept IsNumber (constraint_of c.args.one.now) (constraint_of c.args.other.now)
    (c.have_same_ranges.ensures c.if-have_same_ranges.true)

pub returns : goal.returns
returns c =
    same_allowed (constraint_of c.args.one.now) (constraint_of c.args.other.now) IsNumber (λ z. IsInSome z c.in_ok-numbers.numbers) (λ z. IsInSome z c.in_ok-others.others)
    (with_unit c.in_ok-numbers.ensures) (with_unit c.in_ok-others.ensures) c.have_same.ensures
