use Rattle.std.proofs.Common.{sym, subst}
use Rattle.asn_base.specs.Same.{Same}
use Rattle.ber_reader.specs.Messages.{IsEncoding}
use Rattle.later_versions.specs.Projected.{projected, left_out}
use Rattle.version_laws.proofs.Read.{if_ok}
use Rattle.version_laws.proofs.earlier.read_of_later.Goals as goal

pub returns-clause-same : goal.returns-clause-same
returns-clause-same c = if_ok c.read_ber.result c.read_ber.ensures.only (λ read only s' t' v schema l known d.
    let s = c.args.code.now in
    let u = c.args.id.index in
    let r = c.lemma_earlier_reads.ensures s s' u t' v c.args.octets.now schema l known c.lemma_are_octets.ensures d in
    let o = only r.value (left_out s u v) r.encodes in
    (subst (λ w. Same s u (projected s u v) w) o.0 r.same, sym o.1))

pub returns-clause-read : goal.returns-clause-read
returns-clause-read c s' t' v schema l known d short =
    let s = c.args.code.now in
    let u = c.args.id.index in
    let r = c.lemma_earlier_reads.ensures s s' u t' v c.args.octets.now schema l known c.lemma_are_octets.ensures d in
    let e : IsEncoding s u c.args.octets.now = record {
      value = r.value;
      count = left_out s u v;
      is_value = r.encodes.value;
      is_encoded = r.encodes.says_it;
      few = r.few;
      short = short;
    } in
    c.read_ber.ensures.read e
