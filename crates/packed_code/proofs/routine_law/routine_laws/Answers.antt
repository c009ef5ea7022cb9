use Rattle.std.proofs.Common.{sym, subst}
use Rattle.packed_encodings.specs.Packing.{Packed}
use Rattle.packed_code.proofs.Written.{written}
use Rattle.packed_code.proofs.routine_law.routine_laws.Goals as goal

pub returns : goal.returns
returns c = record {
  bits = λ s t v i a. written s t 64 v i a;
  packed = λ s t v i a. subst (Packed s t v) (sym (written s t 64 v i a)) (c.computing_laws.ensures.packed s t v i a);
}
