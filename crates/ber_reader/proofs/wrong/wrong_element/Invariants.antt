use Rattle.ber_reader.proofs.Judging.{Elements}
use Rattle.ber_reader.proofs.wrong.wrong_element.Given as goal

abbrev pub invariant-loop-i : goal.invariant-loop-i
invariant-loop-i l = Elements l.code l.ty.index l.fn.members l.i l.left
