use Rattle.std.proofs.Common.{arith, ◌<◌, length, subst}
use Rattle.asnc.proofs.law.one_refusal.Goals as goal

pub returns-clause-octets : goal.returns-clause-octets
returns-clause-octets c = λ p s r name o x u a b. a.1 b.type b.named.is

pub returns-clause-bits : goal.returns-clause-bits
returns-clause-bits c = λ p s name o x u a b. a.1 b.type b.named.is

pub returns-clause-length : goal.returns-clause-length
returns-clause-length c = λ p s name o x a b. a.1 b.type b.named.is

pub returns-clause-limit : goal.returns-clause-limit
returns-clause-limit c = λ p s name o u a b. let l = a.fault in let g = b.fault.fault.short in absurd (omega (arith, l, g))
