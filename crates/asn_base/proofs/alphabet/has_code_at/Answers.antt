use Rattle.std.proofs.lemmas.Bool.{eqb-true}
use Rattle.asn_base.proofs.Searched.{code_found}
use Rattle.asn_base.proofs.alphabet.has_code_at.Goals as goal

pub returns-in-Some : goal.returns-in-Some
returns-in-Some c = λ t. code_found c.args.alphabet.now _ c.in-Some.other.now c.args.code c.in-Some.ensures.lookup.3.0 c.in-Some.ensures.lookup.1 (eqb-true _ _ t)
