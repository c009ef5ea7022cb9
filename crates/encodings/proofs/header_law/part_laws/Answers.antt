use Rattle.encodings.proofs.Fronts.{size_front}
use Rattle.encodings.proofs.Identifiers.{identifier_front}
use Rattle.encodings.proofs.header_law.part_laws.Goals as goal

pub returns : goal.returns
returns c = record {
  identifiers = λ b d m n f g x y e. (let r = identifier_front b d m n f g x y e in (r.classes, r.numbers, r.forms, r.rest));
  lengths = λ m n p q x y. size_front {n = m} {m = n} {p = p} {q = q} x y;
}
