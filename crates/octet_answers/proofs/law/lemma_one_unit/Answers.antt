use Rattle.std.proofs.Common.{refl}
use Rattle.octet_answers.proofs.OneAnswer.{unit_once, never_empty}
use Rattle.octet_answers.proofs.law.lemma_one_unit.Goals as goal

pub returns : goal.returns
returns n = record {
  once = λ g f c d k j x y r s o u v. (let w = unit_once n.header_laws.ensures.none_begins_another u v in (w.tags, w.forms, w.counts, w.contents, w.rests));
  some = λ g c k x r u. never_empty u refl;
}
