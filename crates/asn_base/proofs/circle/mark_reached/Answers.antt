use Rattle.std.proofs.Common.{◌≡◌, ◌+◌, ◌<◌, [], ◌∷◌, length, subst, sym, ap, ◌∙◌, arith, length-append}
use Rattle.asn_base.specs.Depths.{rows_of}
use Rattle.asn_base.specs.Names.{IsMember}
use Rattle.asn_base.specs.proving.Reaching.{Marks, unmarked}
use Rattle.asn_base.proofs.DepthLaws.{row_here}
use Rattle.asn_base.proofs.Reaching.{IsSearching, searching_first, searching_next, searching_below, searching_last}
use Rattle.asn_base.proofs.circle.mark_reached.Goals as goal
use Rattle.asn_base.specs.proving.Lists.{length_mapped}

pub loop-at-init : goal.loop-at-init
loop-at-init c = searching_first (rows_of c.args.rows.now) c.args.marks.now c.args.waiting.now.items c.requires.wait c.requires.marked

pub bounds-rows-at : goal.bounds-rows-at
bounds-rows-at c =
    let h = subst (λ w. IsSearching (rows_of c.args.rows.now) c.args.marks.now c.loop-at.marks w) c.in-Some.ensures.items c.loop-at.invariant in
    let below = searching_below (rows_of c.args.rows.now) c.in-Some.at c.args.marks.now c.loop-at.marks c.pop.new.self.items h in
    omega (arith, below, h.long, c.requires.long)

pub offset_bounds-rows-at : goal.offset_bounds-rows-at
offset_bounds-rows-at c =
    let h = subst (λ w. IsSearching (rows_of c.args.rows.now) c.args.marks.now c.loop-at.marks w) c.in-Some.ensures.items c.loop-at.invariant in
    let below = searching_below (rows_of c.args.rows.now) c.in-Some.at c.args.marks.now c.loop-at.marks c.pop.new.self.items h in
    let inside : c.in-Some.at < length c.args.rows.now = omega (arith, below, h.long, c.requires.long) in
    omega arith

pub mark_row-requires : goal.mark_row-requires
mark_row-requires c = λ k p.
    let h = subst (λ w. IsSearching (rows_of c.args.rows.now) c.args.marks.now c.loop-at.marks w) c.in-Some.ensures.items c.loop-at.invariant in
    let below = searching_below (rows_of c.args.rows.now) c.in-Some.at c.args.marks.now c.loop-at.marks c.pop.new.self.items h in
    let inside : c.in-Some.at < length c.args.rows.now = omega (arith, below, h.long, c.requires.long) in
    let row = row_here c.args.rows.now c.in-Some.at c.index-rows-at.result inside ∙ ap (λ v. v.items) (sym c.index-rows-at.is) ∙ sym c.as_slice.ensures.value in
    let part = c.requires.closed c.in-Some.at k (subst (IsMember k) (sym row) p) in
    omega (arith, part, length_mapped (λ v. v.items) c.args.rows.now, h.long, c.requires.long)

pub loop-at-preserved : goal.loop-at-preserved
loop-at-preserved c =
    let h = subst (λ w. IsSearching (rows_of c.args.rows.now) c.args.marks.now c.loop-at.marks w) c.in-Some.ensures.items c.loop-at.invariant in
    let below = searching_below (rows_of c.args.rows.now) c.in-Some.at c.args.marks.now c.loop-at.marks c.pop.new.self.items h in
    let inside : c.in-Some.at < length c.args.rows.now = omega (arith, below, h.long, c.requires.long) in
    let row = row_here c.args.rows.now c.in-Some.at c.index-rows-at.result inside ∙ ap (λ v. v.items) (sym c.index-rows-at.is) ∙ sym c.as_slice.ensures.value in
    searching_next (rows_of c.args.rows.now) c.in-Some.at c.args.marks.now c.loop-at.marks c.mark_row.new.marks c.pop.new.self.items c.mark_row.new.waiting.items h
    (subst (λ q. Marks (λ k. IsMember k q) c.loop-at.marks c.mark_row.new.marks c.pop.new.self.items c.mark_row.new.waiting.items) (sym row) c.in_ok-mark_row.ensures)

pub loop-at-smaller : goal.loop-at-smaller
loop-at-smaller c =
    let one = ap length c.in-Some.ensures.items ∙ length-append c.pop.new.self.items (c.in-Some.at ∷ []) in
    let two = c.in_ok-mark_row.ensures.count in
    let less : unmarked c.mark_row.new.marks + length c.mark_row.new.waiting.items < unmarked c.loop-at.marks + length c.loop-at.waiting.items = omega (arith, one, two) in
    less

pub returns : goal.returns
returns c =
    let none : length c.loop-at.waiting.items ≡ 0 = omega (arith, c.in_default.ensures.cases.0) in
    searching_last (rows_of c.args.rows.now) c.args.marks.now c.loop-at.marks c.loop-at.waiting.items none c.loop-at.invariant
