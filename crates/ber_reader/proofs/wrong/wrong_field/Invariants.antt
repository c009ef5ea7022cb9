use Rattle.asn_base.specs.Schemas.{components}
use Rattle.ber_reader.specs.Judged.{kind_at}
use Rattle.ber_reader.proofs.Judging.{Fields}
use Rattle.ber_reader.proofs.wrong.wrong_field.Given as goal

abbrev pub invariant-loop-i : goal.invariant-loop-i
invariant-loop-i l = Fields l.code (components (kind_at l.code l.id.index)) l.size l.fn.members l.i l.left
