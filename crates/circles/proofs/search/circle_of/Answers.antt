use Rattle.std.proofs.Common.{◌≡◌, ◌∙◌, length, replicate, sym, subst, ap}
use Rattle.std.proofs.lemmas.List.{length-replicate}
use Rattle.circles.specs.proving.Reach.{AreUpTo}
use Rattle.type_table.specs.Seen.{types_of}
use Rattle.circles.proofs.Circling.{has_parts}
use Rattle.circles.proofs.Marking.{no_marks}
use Rattle.circles.proofs.search.circle_of.Goals as goal

pub first_circle-requires : goal.first_circle-requires
first_circle-requires c =
    let zeros : c.deref_mut.result.now ≡ replicate (length c.args.types.now) 0 = c.deref_mut.ensures.value ∙ c.in_ok-marks.ensures.items_if_clones_equal (λ y h. h) in
    record {
      parts = has_parts (types_of c.args.types.now) c.requires.closed c.requires.parts c.requires.inner;
      ranked = c.all_rise-rise.ensures;
      long = ap length zeros ∙ length-replicate (length c.args.types.now) 0;
      earlier = subst (λ z. AreUpTo 0 z) (sym zeros) (no_marks (length c.args.types.now));
    }

pub returns : goal.returns
returns c = c.in_ok-circle.ensures
