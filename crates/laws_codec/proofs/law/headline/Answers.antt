use Rattle.std.proofs.Common.{subst, sym}
use Rattle.asn_base.specs.Same.{Same}
use Rattle.encodings.specs.Rules.{Basic, Distinguished}
use Rattle.packed_encodings.specs.Padding.{Padded}
use Rattle.laws_codec.proofs.Coded.{gives_back, gives_back_strictly, message_of, never, unpacks}
use Rattle.laws_codec.proofs.law.headline.Goals as goal

pub returns : goal.returns
returns c = λ s t v i. record {
  der = λ o a w. w.encoding.der;
  one_der = λ o p a u w m d. c.schema_laws.ensures.one_der s t v u o p i m w.encoding.der d;
  shortest = λ o p a w b. w.encoding.shortest.least p b;
  accepted = λ o a x w y. y.1 (record { value = w.encoding.value; describes = w.account });
  never_no = λ o a x r w y e. never (y.1 (record { value = w.encoding.value; describes = w.account })) e;
  yes_alone = λ o a x y e. (let q = y.0 e in
      (q.value, c.account_laws.ensures.shortest s t v o a i q.value.shaped q.describes));
  ber = λ o a w. (let d = w.encoding.der in
      message_of d
      (λ b. c.level_laws.ensures.one s Basic Distinguished t 0 0 d.0 d.0 o b d.2 i.tagged i.distinct_tags)
      (w.encoding.few_levels d.0 d.2 d.1.second)
      w.encoding.not_too_long);
  one_value = λ o w k b d. (let q = c.reading_laws.ensures.ber s t 0 k v w o i.tagged i.distinct_tags b d in (q.0, sym q.1));
  read = λ o x m r. gives_back x m r;
  read_strictly = λ o x d short r. gives_back_strictly x d
      (λ b. c.level_laws.ensures.one s Basic Distinguished t 0 0 d.0 d.0 o b d.2 i.tagged i.distinct_tags)
      (c.level_laws.ensures.within_limit s t d.0 o d.2 i.few_tags d.1.second)
      short
      r;
  packed = λ o m. (m.bits, m.packed, m.filled);
  one_message = λ o p u b m same k f. c.message_laws.ensures.one_filling m.bits o p m.filled
      (subst (λ z. Padded z p) (c.writing_laws.ensures.one_list s t v u m.bits b i same m.packed k) f);
  one_unpacked = λ o w k m d. (let b = c.writing_laws.ensures.message s t v m.bits o m.value m.light m.packed m.filled in
      let e = c.message_laws.ensures.one_value s t 0 k b.0 w o i b.2 d in
      (subst (Same s t v) e.0 b.1, sym e.1));
  unpacked = λ o x m r. (let b = c.writing_laws.ensures.message s t v m.bits o m.value m.light m.packed m.filled in
      unpacks x (λ w u j k. c.message_laws.ensures.one_value s t j k w u o i) b.1 b.2 m.not_too_long r);
}
