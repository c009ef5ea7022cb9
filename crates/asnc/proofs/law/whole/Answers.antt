use Rattle.asnc.proofs.law.whole.Goals as goal

pub returns : goal.returns
returns c = λ xs p s first second o b a ok w q. record {
  accepted = ok;
  type = w.type;
  meant = w.meant;
  one = λ t x m. c.one_meaning.ensures.one p first second t w.type x w.value (c.lemma_accepted_checked.ensures xs p ok.accepted) m w.meant;
  same =
      (c.one_meaning.ensures.one p first second q.type w.type q.value w.value
      (c.lemma_accepted_checked.ensures xs p ok.accepted) q.meant w.meant).1;
  encodable = λ e h. c.one_answer.ensures.written xs p s first second o a e ok w h;
  packable = λ e h. c.one_answer.ensures.packed xs p s first second b e ok q h;
  encoded = c.headline.ensures xs p s first second o a ok w;
  judged = λ text t. c.judged.ensures.account xs p s first second o text a ok w t;
  read = λ r m printed k h g. c.reading.ensures.answered p s r first m printed k w.value h g;
  not_refused = λ m e h g. c.reading.ensures.not_refused p s first m w.value e h g;
  written = c.reading.ensures.written xs p s first second o a ok w;
  read_back = λ r e h. c.reading.ensures.read_back xs p s first second o a r e ok w h;
  packed = c.packed.ensures xs p s first second b ok q;
  unpacked = λ printed k h. c.unpacked.ensures.answered p s first second b printed k q h;
  not_refused_bits = λ e h. c.unpacked.ensures.read_back p s first second b e q h;
}
