use Rattle.der_check.proofs.Passing.{others_strict}
use Rattle.der_check.proofs.quick.is_quickly_distinguished.Goals as goal

pub returns-in_default : goal.returns-in_default
returns-in_default c = λ v y h. others_strict c.args.kind c.in_default.not-Boolean c.in_default.not-BitString c.in_default.not-NamedBits h
