use Rattle.std.proofs.Common.{arith, refl, subst}
use Rattle.encodings.specs.Encoding.{EncodesTo}
use Rattle.encodings.specs.Rules.{Distinguished}
use Rattle.views.specs.Tree.{value_of}
use Rattle.der_check.proofs.Deciding.{says_count}
use Rattle.der_check.proofs.value.first_broken.Goals as goal

pub returns-in-Ok-clause-none : goal.returns-in-Ok-clause-none
returns-in-Ok-clause-none c = λ k e l.
    let s = c.args.code.now in
    let v = value_of c.args.part.now in
    let d = (c.in-Ok.ensures (record { few = (omega arith); value = e.value; count = k; says_it = e.says_it; short = l })).0 in
    let n = says_count c.der_laws.ensures.ber c.schema_laws.ensures.says_one c.lemma_invariant.ensures (c.lemma_sameness.ensures.itself s c.args.id.index v e.value) d.1 e.says_it in
    (λ q. subst (λ q. EncodesTo s Distinguished c.args.id.index v q c.args.octets.now) n d.1, λ q. refl)
