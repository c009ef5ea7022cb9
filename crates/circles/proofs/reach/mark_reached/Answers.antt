use Rattle.std.proofs.Common.{◌≡◌, ◌+◌, ◌<◌, [], ◌∷◌, length, subst, ap, ◌∙◌, arith, length-append}
use Rattle.type_table.specs.Seen.{type_of, types_of}
use Rattle.circles.specs.proving.Reach.{unmarked}
use Rattle.type_table.specs.proving.Tables.{type_at, as_long}
use Rattle.circles.proofs.Marking.{IsSearching, searching_first, searching_next, searching_below, searching_last}
use Rattle.circles.proofs.reach.mark_reached.Goals as goal

pub loop-at-init : goal.loop-at-init
loop-at-init c = searching_first (types_of c.args.types.now) c.args.search c.args.marks.now c.args.waiting.now.items c.requires.wait c.requires.marked

pub bounds-types-at : goal.bounds-types-at
bounds-types-at c =
    let h = subst (λ w. IsSearching (types_of c.args.types.now) c.args.search c.args.marks.now c.loop-at.marks w) c.in-Some.ensures.items c.loop-at.invariant in
    let below = searching_below (types_of c.args.types.now) c.args.search c.in-Some.at c.args.marks.now c.loop-at.marks c.pop.new.self.items h in
    let inside : c.in-Some.at < length c.args.types.now = omega (arith, below, h.long, c.requires.long) in
    inside

pub offset_bounds-types-at : goal.offset_bounds-types-at
offset_bounds-types-at c =
    let h = subst (λ w. IsSearching (types_of c.args.types.now) c.args.search c.args.marks.now c.loop-at.marks w) c.in-Some.ensures.items c.loop-at.invariant in
    let below = searching_below (types_of c.args.types.now) c.args.search c.in-Some.at c.args.marks.now c.loop-at.marks c.pop.new.self.items h in
    let inside : c.in-Some.at < length c.args.types.now = omega (arith, below, h.long, c.requires.long) in
    omega arith

pub mark_parts-requires : goal.mark_parts-requires
mark_parts-requires c = λ k p.
    let h = subst (λ w. IsSearching (types_of c.args.types.now) c.args.search c.args.marks.now c.loop-at.marks w) c.in-Some.ensures.items c.loop-at.invariant in
    let below = searching_below (types_of c.args.types.now) c.args.search c.in-Some.at c.args.marks.now c.loop-at.marks c.pop.new.self.items h in
    let inside : c.in-Some.at < length c.args.types.now = omega (arith, below, h.long, c.requires.long) in
    let there = type_at c.args.types.now c.in-Some.at c.index-types-at.result inside c.index-types-at.is in
    let part = c.requires.parts c.in-Some.at k (type_of c.index-types-at.result) there p in
    omega (arith, part, as_long c.args.types.now, h.long, c.requires.long)

pub loop-at-preserved : goal.loop-at-preserved
loop-at-preserved c =
    let h = subst (λ w. IsSearching (types_of c.args.types.now) c.args.search c.args.marks.now c.loop-at.marks w) c.in-Some.ensures.items c.loop-at.invariant in
    let below = searching_below (types_of c.args.types.now) c.args.search c.in-Some.at c.args.marks.now c.loop-at.marks c.pop.new.self.items h in
    let inside : c.in-Some.at < length c.args.types.now = omega (arith, below, h.long, c.requires.long) in
    let there = type_at c.args.types.now c.in-Some.at c.index-types-at.result inside c.index-types-at.is in
    searching_next (types_of c.args.types.now) c.args.search c.in-Some.at (type_of c.index-types-at.result) c.args.marks.now c.loop-at.marks c.mark_parts.new.marks c.pop.new.self.items c.mark_parts.new.waiting.items h there c.in_ok-mark_parts.ensures

pub loop-at-smaller : goal.loop-at-smaller
loop-at-smaller c =
    let one = ap length c.in-Some.ensures.items ∙ length-append c.pop.new.self.items (c.in-Some.at ∷ []) in
    let two = c.in_ok-mark_parts.ensures.count in
    let less : unmarked c.args.search c.mark_parts.new.marks + length c.mark_parts.new.waiting.items < unmarked c.args.search c.loop-at.marks + length c.loop-at.waiting.items = omega (arith, one, two) in
    less

pub returns : goal.returns
returns c =
    let none : length c.loop-at.waiting.items ≡ 0 = omega (arith, c.in_default.ensures.cases.0) in
    searching_last (types_of c.args.types.now) c.args.search c.args.marks.now c.loop-at.marks c.loop-at.waiting.items none c.loop-at.invariant
