use Rattle.std.proofs.Common.{◌≤◌, length, map, sym, ◌∙◌, arith}
use Rattle.std.specs.Prelude.{option_map}
use Rattle.asn_base.specs.Abstract.{abstract, row_of_options}
use Rattle.packed_writer.proofs.Rows.{any_at, any_next, any_end}
use Rattle.packed_writer.proofs.values.any_present.Goals as goal

pub returns-in-Some : goal.returns-in-Some
returns-in-Some c = sym (c.loop-place.invariant ∙ any_at (row_of_options (map (option_map abstract) c.args.values.now)) c.loop-place.place (abstract c.in-Some._component.now) c.in-Some.ensures)

pub loop-place-preserved : goal.loop-place-preserved
loop-place-preserved c = c.loop-place.invariant ∙ any_next (row_of_options (map (option_map abstract) c.args.values.now)) c.loop-place.place c.in_default.ensures

pub returns : goal.returns
returns c =
    let l : length c.args.values.now ≤ c.loop-place.place = grind arith in
    sym (c.loop-place.invariant ∙ any_end c.args.values.now c.loop-place.place l)
