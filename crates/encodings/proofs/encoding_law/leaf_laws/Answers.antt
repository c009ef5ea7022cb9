use Rattle.encodings.proofs.Least.{leaves_best}
use Rattle.encodings.proofs.Leaves.{leaf_in}
use Rattle.encodings.proofs.Utf8.{utf8_octets}
use Rattle.encodings.proofs.encoding_law.leaf_laws.Goals as goal

pub returns : goal.returns
returns c = record {
  some = λ s k v i f. let l = leaf_in s utf8_octets i f in (l.w, l.octets, l.same, l.contents);
  one = λ s k v w x y a d e. (leaves_best a d e).only;
}
