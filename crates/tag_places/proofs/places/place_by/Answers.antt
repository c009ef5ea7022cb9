use Rattle.std.proofs.Common.{ap, sym, ◌∙◌}
use Rattle.asn_base.specs.Seen.{types_of}
use Rattle.tag_places.specs.Keys.{below}
use Rattle.tag_places.proofs.Keyed.{place_by_sorted}
use Rattle.tag_places.proofs.places.place_by.Goals as goal

pub returns : goal.returns
returns c = λ us a.
    c.count_below.ensures a.ascending
    ∙ (ap (below c.args.keys.now) c.key.ensures
    ∙ sym (place_by_sorted (types_of c.args.types.now) us c.args.keys.now c.args.id.index a.same))
