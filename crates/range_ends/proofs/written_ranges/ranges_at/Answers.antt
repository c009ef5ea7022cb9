use Rattle.std.proofs.Common.{length, refl, map, subst, sym, arith, take, [], ◌∷◌}
use Rattle.std.proofs.lemmas.List.{map-append}
use Rattle.asn_base.specs.Seen.{range_of as seen_of}
use Rattle.asn_base.specs.Typed.{IsInSome}
use Rattle.trees.specs.Constraints.{range_of}
use Rattle.type_table.specs.Seen.{kind_of}
use Rattle.std.proofs.lemmas.Option.{slice_get_read}
use Rattle.range_ends.proofs.Bounds.{more_of}
use Rattle.range_ends.proofs.First.{take_before}
use Rattle.range_ends.proofs.Lists.{seen_here, taken_more}
use Rattle.range_ends.proofs.written_ranges.ranges_at.Goals as goal

pub returns-in-Err-clause-found : goal.returns-in-Err-clause-found
returns-in-Err-clause-found c =
    let here = seen_here range_of c.args.ranges.now c.loop-range.range-index c.range-item.result
    (omega (arith, c.loop-range-test.true, c.loop-range.auto.range-index-end)) c.range-item.is in
    (range_of c.range-item.result, (c.loop-range.range-index, here), c.in-Err.ensures.found)

pub loop-range-preserved : goal.loop-range-preserved
loop-range-preserved c =
    let s = c.args.site.now in
    let here = seen_here range_of c.args.ranges.now c.loop-range.range-index c.range-item.result
    (omega (arith, c.loop-range-test.true, c.loop-range.auto.range-index-end)) c.range-item.is in
    let e = more_of s.scope.now.program (kind_of s.shape.now) s.within.now s.of
    (take c.loop-range.range-index (map range_of c.args.ranges.now)) (map seen_of c.loop-range.all.items)
    (range_of c.range-item.result) (seen_of c.in-Ok.found) c.loop-range.invariant c.in-Ok.ensures.found in
    let long = taken_more (map range_of c.args.ranges.now) c.loop-range.range-index (range_of c.range-item.result) here in
    let pushed = map-append seen_of c.loop-range.all.items (c.in-Ok.found ∷ []) in
    rw long
    (record {
      ranges = e.ranges;
      same = λ z. (let a = c.in-Ok-added.ensures z in let b = e.same z in (
        λ i. b.0 (subst (IsInSome z) pushed (a.0 i)),
        λ i. a.1 (subst (IsInSome z) (sym pushed) (b.1 i)),
      ));
    })

pub returns-in-Err-clause-first : goal.returns-in-Err-clause-first
returns-in-Err-clause-first c =
    let s = c.args.site.now in
    record {
      number = c.loop-range.range-index;
      range = c.range-item.result;
      there = slice_get_read c.args.ranges.now (length c.args.ranges.now) c.loop-range.range-index c.range-item.result refl
          (omega (arith, c.loop-range-test.true, c.loop-range.auto.range-index-end)) c.range-item.is;
      fault = c.in-Err.ensures.wrong;
      before = λ n r l e. take_before s.scope.now.program (kind_of s.shape.now) s.within.now s.of
          (map range_of c.args.ranges.now) c.loop-range.range-index n r c.loop-range.invariant.ranges l e;
    }
