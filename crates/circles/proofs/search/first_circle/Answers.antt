use Rattle.std.proofs.Common.{◌<◌, inl, inr, subst, arith}
use Rattle.std.proofs.lemmas.Option.{slice_get_within}
use Rattle.type_table.specs.Seen.{types_of}
use Rattle.circles.specs.Circles.{IsWrittenDefaultCircle}
use Rattle.type_table.specs.proving.Tables.{as_long}
use Rattle.circles.proofs.Marking.{last_or}
use Rattle.circles.proofs.search.first_circle.Goals as goal

pub loop-list-init : goal.loop-list-init
loop-list-init c = record { earlier = c.requires.earlier; none = λ i l h. absurd (omega (arith, l)) }

pub is_in_circle-requires : goal.is_in_circle-requires
is_in_circle-requires c =
    record {
      parts = c.requires.parts;
      ranked = c.requires.ranked;
      long = omega (arith, c.loop-list.auto.marks, c.requires.long);
      there = c.loop-list-test.true;
      earlier = c.loop-list.invariant.earlier;
    }

pub loop-list-preserved : goal.loop-list-preserved
loop-list-preserved c =
    record {
      earlier = c.in_ok-is_in_circle.ensures.marks;
      none = λ i l h. elim (last_or i c.loop-list.list l) [
        | inl k ↦ c.loop-list.invariant.none i k h
        | inr e ↦ (let t = c.in_ok-is_in_circle.ensures.circle.1 (subst (λ z. IsWrittenDefaultCircle (types_of c.args.ranked.types.now) z) e h) in let f = c.if-branch.false in cc)
      ];
    }

pub returns : goal.returns
returns c = λ i h.
    let here = slice_get_within (types_of c.args.ranked.types.now) i h.written h.there in
    let inside : i < c.loop-list.list = omega (arith, here, as_long c.args.ranked.types.now, c.loop-list-test.false) in
    c.loop-list.invariant.none i inside h
