use Rattle.std.proofs.Common.{sym, subst, ◌∙◌, ◌≤◌}
use Rattle.asn_base.specs.Same.{Same}
use Rattle.encodings.specs.Rules.{Basic, Distinguished}
use Rattle.asnc.specs.Reading.{IsRead}
use Rattle.asnc.proofs.MessagesRead.{answer_of, never_refused, written_message, written_is_read}
use Rattle.encodings.specs.proving.Weaker.{basic_of}
use Rattle.asnc.proofs.law.reading.Goals as goal

pub returns-clause-right : goal.returns-clause-right
returns-clause-right c = λ xs p s l name o printed k a r. record {
  program = p;
  types = s;
  accepted = a;
  type = r.type;
  named = r.named.is;
  value = r.read.value;
  is = c.message_laws.ensures.value s Basic r.type k r.read.value o a.types.accepted r.read.encodes.value r.read.encodes.says_it r.read.short;
  text = r.read.text;
  ber = c.der_laws.ensures.as_it_stands s r.type k r.read.value o r.read.encodes;
  by_rules = (r.read.value, c.lemma_sameness.ensures.itself s r.type r.read.value r.read.encodes.value, r.read.by_rules);
  same = λ v j b. (let q = r.read.only b.0 j (record { value = b.1.second; says_it = b.2 }) in (subst (Same s r.type v) q.0 b.1, q.1));
}

pub returns-clause-answered : goal.returns-clause-answered
returns-clause-answered c = λ p s l name o printed k v m r.
    answer_of m.ber.0 m.named (subst (λ t. IsRead s l t o printed k) (sym (r.named.only m.type m.named)) r.read) m.ber.1 m.ber.2

pub returns-clause-not_refused : goal.returns-clause-not_refused
returns-clause-not_refused c = λ p s name o v e m. never_refused p s Basic name o v e m m.ber.2

pub returns-clause-not_refused_strictly : goal.returns-clause-not_refused_strictly
returns-clause-not_refused_strictly c = λ xs p s name o v e a m d n. never_refused p s Distinguished name o v e
    (record {
      type = m.type;
      named = m.named;
      is = m.is;
      ber = (d.0, d.1, basic_of d.2);
      few = subst (λ l. l ≤ 400)
          (c.level_laws.ensures.one s Basic Distinguished m.type 0 0 m.ber.0 d.0 o m.ber.2 d.2 a.types.accepted.tagged a.types.accepted.distinct_tags
          ∙ sym (c.level_laws.ensures.one s Basic Distinguished m.type 0 0 d.0 d.0 o (basic_of d.2) d.2 a.types.accepted.tagged a.types.accepted.distinct_tags))
          m.few;
      short = m.short;
    })
    d.2
    n

pub returns-clause-written : goal.returns-clause-written
returns-clause-written c = λ xs p s first second o a ok w.
    written_message (λ t v d b. c.level_laws.ensures.one s Basic Distinguished t 0 0 v v o b d ok.types.accepted.tagged ok.types.accepted.distinct_tags) w

pub returns-clause-read_back : goal.returns-clause-read_back
returns-clause-read_back c = λ xs p s first second o a l e ok w.
    written_is_read l e (λ t v d b. c.level_laws.ensures.one s Basic Distinguished t 0 0 v v o b d ok.types.accepted.tagged ok.types.accepted.distinct_tags) w
