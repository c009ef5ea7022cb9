use Rattle.std.proofs.Common.{◌≡◌, true, false, subst}
use Rattle.octets.specs.Fronts.{IsRightFault}
use Rattle.octets.specs.declared.header_fault.HeaderFault.TheVariants as faults
use Rattle.ber_reader.proofs.view.ends_early.Goals as goal

never : {P : Type 0} → false ≡ true → P
never e = absurd (let f : false ≡ true = e in cc)

pub returns-in-Ok-clause-early : goal.returns-in-Ok-clause-early
returns-in-Ok-clause-early c e = never e

pub returns-in-Ok-clause-late : goal.returns-in-Ok-clause-late
returns-in-Ok-clause-late c e = absurd (let f = c.in-Ok.ensures.just faults.Truncated e in cc)

pub returns-in-Ok-clause-none : goal.returns-in-Ok-clause-none
returns-in-Ok-clause-none c e = never e

pub returns-in-Truncated-clause-early : goal.returns-in-Truncated-clause-early
returns-in-Truncated-clause-early c e = subst (λ f. IsRightFault f c.args.octets.now) c.in-Truncated.is c.in-Err.ensures.err

pub returns-in-Truncated-clause-none : goal.returns-in-Truncated-clause-none
returns-in-Truncated-clause-none c e g b n k h = c.lemma_one_front.ensures.either faults.Truncated g b n k c.args.octets.now (subst (λ f. IsRightFault f c.args.octets.now) c.in-Truncated.is c.in-Err.ensures.err) h

pub returns-in-Indefinite-clause-early : goal.returns-in-Indefinite-clause-early
returns-in-Indefinite-clause-early c e = never e

pub returns-in-Indefinite-clause-late : goal.returns-in-Indefinite-clause-late
returns-in-Indefinite-clause-late c e = absurd (let f = c.in-Err.ensures.just faults.Truncated e in let g = c.in-Indefinite.is in cc)

pub returns-in-Indefinite-clause-none : goal.returns-in-Indefinite-clause-none
returns-in-Indefinite-clause-none c e = never e

pub returns-in-BadLength-clause-early : goal.returns-in-BadLength-clause-early
returns-in-BadLength-clause-early c e = never e

pub returns-in-BadLength-clause-late : goal.returns-in-BadLength-clause-late
returns-in-BadLength-clause-late c e = absurd (let f = c.in-Err.ensures.just faults.Truncated e in let g = c.in-BadLength.is in cc)

pub returns-in-BadLength-clause-none : goal.returns-in-BadLength-clause-none
returns-in-BadLength-clause-none c e = never e

pub returns-in-BadTag-clause-early : goal.returns-in-BadTag-clause-early
returns-in-BadTag-clause-early c e = never e

pub returns-in-BadTag-clause-late : goal.returns-in-BadTag-clause-late
returns-in-BadTag-clause-late c e = absurd (let f = c.in-Err.ensures.just faults.Truncated e in let g = c.in-BadTag.is in cc)

pub returns-in-BadTag-clause-none : goal.returns-in-BadTag-clause-none
returns-in-BadTag-clause-none c e = never e
