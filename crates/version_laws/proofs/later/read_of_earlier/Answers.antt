use Rattle.std.proofs.Common.{sym, subst}
use Rattle.asn_base.specs.Same.{Same}
use Rattle.encodings.specs.Rules.{Basic}
use Rattle.version_laws.specs.Lifted.{lifted}
use Rattle.version_laws.proofs.Read.{encoding, if_ok}
use Rattle.version_laws.proofs.later.read_of_earlier.Goals as goal

pub returns-clause-read : goal.returns-clause-read
returns-clause-read c s t v l h d short =
    c.read_ber.ensures.read (encoding (c.lemma_later_reads.ensures.distinguished s c.args.code.now t c.args.id.index v c.args.octets.now c.lemma_invariant.ensures l h d).is short)

pub returns-clause-basic : goal.returns-clause-basic
returns-clause-basic c s t v l h r short =
    c.read_ber.ensures.read (encoding (c.lemma_later_reads.ensures.basic s c.args.code.now t c.args.id.index v c.args.octets.now c.lemma_invariant.ensures l h r) short)

pub returns-clause-same : goal.returns-clause-same
returns-clause-same c = if_ok c.read_ber.result c.read_ber.ensures.only (λ read only s t v l h d.
    let r = (c.lemma_later_reads.ensures.distinguished s c.args.code.now t c.args.id.index v c.args.octets.now c.lemma_invariant.ensures l h d).is in
    let o = only r.value 0 r.encodes in
    (subst (λ w. Same c.args.code.now c.args.id.index (lifted c.args.code.now c.args.id.index v) w) o.0 r.same, sym o.1))

pub returns-clause-is_so : goal.returns-clause-is_so
returns-clause-is_so c = if_ok c.read_ber.result c.read_ber.ensures.only (λ read only s t w l h e.
    let n = c.lemma_later_reads.ensures.is_so s c.args.code.now Basic t c.args.id.index w c.args.octets.now c.lemma_invariant.ensures l h e in
    let o = only (lifted c.args.code.now c.args.id.index w) 0 n in
    (sym o.0, sym o.1))
