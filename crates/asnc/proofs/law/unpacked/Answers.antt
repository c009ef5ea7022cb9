use Rattle.std.proofs.Common.{sym}
use Rattle.asnc.proofs.ReadBack.{answer_of_message, one_answer, written_refused}
use Rattle.asnc.proofs.law.unpacked.Goals as goal

pub returns-clause-right : goal.returns-clause-right
returns-clause-right c = λ xs p s name o printed k a r. record {
  program = p;
  types = s;
  accepted = a;
  type = r.type;
  named = r.named.is;
  value = r.read.value;
  is = r.read.by_bits.reads.value;
  text = r.read.text;
  reads = r.read.by_bits.reads;
  sole = r.read.by_bits.only;
}

pub returns-clause-one : goal.returns-clause-one
returns-clause-one c = one_answer

pub returns-clause-answered : goal.returns-clause-answered
returns-clause-answered c = λ p s first second o printed k w r.
    answer_of_message w r (c.written_is_read.ensures s w.type w.value o w.message)

pub returns-clause-read_back : goal.returns-clause-read_back
returns-clause-read_back c = λ p s first second o e w n.
    written_refused p s first second o e w (c.written_is_read.ensures s w.type w.value o w.message) n
