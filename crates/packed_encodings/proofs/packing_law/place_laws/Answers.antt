use Rattle.std.specs.Prelude.{map}
use Rattle.packed_encodings.proofs.Fronts.{root_apart, root_tagged, type_at, below_root}
use Rattle.packed_encodings.proofs.LeafFronts.{place_fits}
use Rattle.asn_base.specs.proving.Places.{one_place}
use Rattle.packed_encodings.proofs.packing_law.place_laws.Goals as goal

pub returns : goal.returns
returns c = record {
  one = λ s t i j tags root more e a b h is f g r. one_place s (map (λ z. z.type) root) i j a.type b.type (root_apart s root more (h.distinct_tags t tags _ is)) (root_tagged s root more (h.sound t tags _ is).types) (type_at i root f) (type_at j root g) r;
  below = λ s t i tags root more e a h is f. below_root s root i (root_tagged s root more (h.sound t tags _ is).types) f;
  fits = place_fits;
}
