use Rattle.codec_code.proofs.RoutineEncodes.{describes}
use Rattle.codec_code.proofs.Some.{some}
use Rattle.codec_code.proofs.law.routine_laws.Goals as goal

pub returns-clause-some : goal.returns-clause-some
returns-clause-some c = λ s t v i a.
    let q = c.lemma_sameness.ensures in
    let l = c.lemma_alike_values.ensures in
    let p = some s i (q.alike_turned s) (q.alike_joined s) (l.levels s) (l.decided s) (c.leaf_laws.ensures.some s) a in
    (p.events, p.steps)

pub returns-clause-describes : goal.returns-clause-describes
returns-clause-describes c = λ s t v es i a d.
    let q = c.lemma_sameness.ensures in
    let l = c.lemma_alike_values.ensures in
    let p = describes s i (q.alike_turned s) (q.alike_joined s) (l.groups s) (l.levels s) c.header_laws.ensures.is a es d in
    record {
      tree = p.tree;
      told = p.is;
      der = λ o ot lt. let e = p.holds o ot lt in (e.w, record { first = a; second = e.value; are_alike = e.same }, e.is);
    }
