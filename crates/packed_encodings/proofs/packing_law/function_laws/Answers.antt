use Rattle.packed_encodings.specs.Packing.{exact}
use Rattle.packed_encodings.specs.Computed.{IsEncoding}
use Rattle.packed_encodings.proofs.Sorting.{filled}
use Rattle.packed_encodings.proofs.Theorems.{none_begins_another}
use Rattle.packed_encodings.proofs.Computing.{sized_is, counted_is, open_is, padded_computed}
use Rattle.packed_encodings.proofs.ComputingNumbers.{leaf_is, unsigned_is}
use Rattle.packed_encodings.proofs.Permuted.{sorted_is}
use Rattle.packed_encodings.proofs.packing_law.function_laws.Goals as goal

pub returns : goal.returns
returns c = record {
  leaf = λ s k v w b i e x. leaf_is s i e x;
  sized = λ z xs b x. sized_is x;
  counted = λ xs b x. counted_is x;
  open_type = λ x y o. open_is o;
  filled = padded_computed;
  fewest = unsigned_is;
  sorted = λ s t xs ys i a p l.
      sorted_is (IsEncoding s t) (λ x y m n h k. (let r = filled x y h k in (none_begins_another s exact t 0 0 m.0 n.0 x y r.a r.b i m.1 n.1 r.same).2)) xs ys a p l;
}
