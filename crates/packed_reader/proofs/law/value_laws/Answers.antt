use Rattle.packed_encodings.specs.Packing.{lenient}
use Rattle.std.proofs.Common.{refl, []}
use Rattle.packed_reader.proofs.AllKinds.{value_exact}
use Rattle.packed_reader.proofs.law.value_laws.Goals as goal

pub returns : goal.returns
returns c = λ s l t n i. value_exact s (record {
  schema = i;
  bit = c.field_laws.ensures.bit;
  field = c.field_laws.ensures.field;
  small = c.field_laws.ensures.small;
  numbers = c.count_laws.ensures.count;
  size = c.count_laws.ensures.size;
  in_size = c.count_laws.ensures.in_size;
  sized = c.count_laws.ensures.sized;
  octets = c.octets_laws.ensures;
  front = c.part_laws.ensures.octets_front;
  leaf = c.leaf_laws.ensures s;
  tells = c.computing_laws.ensures.defaults s;
  only = λ u j k v w x a b. (c.reading_laws.ensures.none_begins_another s lenient u j k v w x x [] [] i a b refl).0;
  one_place = λ u j k tags root more e a b is f g h. c.place_laws.ensures.one s u j k tags root more e a b i is f g h;
  place_fits = λ u j tags root more e a is f. c.place_laws.ensures.fits _ _ (c.place_laws.ensures.below s u j tags root more e a i is f);
}) l t n
