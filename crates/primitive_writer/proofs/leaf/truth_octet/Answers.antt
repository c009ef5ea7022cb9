use Rattle.std.proofs.Common.{arith, [], ◌∷◌, false, refl, sym, subst}
use Rattle.asn_base.specs.Abstract.{boolean}
use Rattle.asn_base.specs.Types.{a_boolean}
use Rattle.encodings.specs.Rules.{Distinguished}
use Rattle.encodings.specs.Contents.{Contents, of_true, of_false}
use Rattle.primitive_writer.proofs.leaf.truth_octet.Goals as goal

pub returns-then-truth : goal.returns-then-truth
returns-then-truth c = subst (λ b. Contents Distinguished a_boolean (boolean b) false (255 ∷ [])) (sym c.if-truth.true) (of_true (omega arith) (omega arith) refl)

pub returns-else-truth : goal.returns-else-truth
returns-else-truth c = subst (λ b. Contents Distinguished a_boolean (boolean b) false (0 ∷ [])) (sym c.if-truth.false) of_false
