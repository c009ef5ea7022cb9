use Rattle.std.proofs.Common.{◌<◌, ◌∙◌, length, arith}
use Rattle.asn_base.specs.Depths.{rows_of}
use Rattle.asn_base.specs.Names.{IsMember}
use Rattle.asn_base.proofs.Reaching.{first_wait, first_marked, found, finds}
use Rattle.asn_base.proofs.circle.search.Goals as goal

pub mark_row-requires : goal.mark_row-requires
mark_row-requires c = λ k d. let here = c.requires.inside k d in omega (arith, here, c.requires.long)

pub mark_reached-requires : goal.mark_reached-requires
mark_reached-requires c =
    record {
      closed = c.requires.closed;
      long = c.in_ok-mark_row.ensures.long ∙ c.requires.long;
      wait = first_wait (λ k. IsMember k c.args.row.now) c.args.marks.now c.mark_row.new.marks c.new-waiting.result.items c.mark_row.new.waiting.items c.requires.fresh c.in_ok-mark_row.ensures;
      marked = first_marked (λ k. IsMember k c.args.row.now) c.args.marks.now c.mark_row.new.marks c.new-waiting.result.items c.mark_row.new.waiting.items c.new-waiting.ensures.items c.in_ok-mark_row.ensures;
    }

pub bounds-marks-ty : goal.bounds-marks-ty
bounds-marks-ty c = omega (arith, c.in_ok-mark_reached.ensures.long, c.in_ok-mark_row.ensures.long, c.requires.long, c.requires.there)

pub returns : goal.returns
returns c =
    let inside : c.args.ty < length c.mark_reached.new.marks = omega (arith, c.in_ok-mark_reached.ensures.long, c.in_ok-mark_row.ensures.long, c.requires.long, c.requires.there) in (
      found (rows_of c.args.rows.now) c.args.row.now c.args.ty c.args.marks.now c.mark_row.new.marks c.mark_reached.new.marks c.new-waiting.result.items c.mark_row.new.waiting.items c.requires.fresh c.in_ok-mark_row.ensures c.in_ok-mark_reached.ensures inside,
      finds (rows_of c.args.rows.now) c.args.row.now c.args.ty c.args.marks.now c.mark_row.new.marks c.mark_reached.new.marks c.new-waiting.result.items c.mark_row.new.waiting.items c.in_ok-mark_row.ensures c.in_ok-mark_reached.ensures,
    )
