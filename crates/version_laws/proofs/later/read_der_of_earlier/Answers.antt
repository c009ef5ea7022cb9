use Rattle.std.proofs.Common.{sym, subst}
use Rattle.asn_base.specs.Same.{Same}
use Rattle.version_laws.specs.Lifted.{lifted}
use Rattle.version_laws.proofs.Read.{encoding, if_ok}
use Rattle.version_laws.proofs.later.read_der_of_earlier.Goals as goal

pub returns-clause-read : goal.returns-clause-read
returns-clause-read c s t v l h d short =
    let r = c.lemma_later_reads.ensures.distinguished s c.args.code.now t c.args.id.index v c.args.octets.now c.lemma_invariant.ensures l h d in
    c.read_der.ensures.read (encoding r.is short) r.strict

pub returns-clause-same : goal.returns-clause-same
returns-clause-same c = if_ok c.read_der.result c.read_der.ensures.only (λ read only s t v l h d.
    let r = (c.lemma_later_reads.ensures.distinguished s c.args.code.now t c.args.id.index v c.args.octets.now c.lemma_invariant.ensures l h d).is in
    let o = only r.value 0 r.encodes in
    (subst (λ w. Same c.args.code.now c.args.id.index (lifted c.args.code.now c.args.id.index v) w) o.0 r.same, sym o.1))
