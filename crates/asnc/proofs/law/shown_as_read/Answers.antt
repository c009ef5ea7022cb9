use Rattle.asnc.proofs.ShownAsRead.{not_refused, refused_too}
use Rattle.asnc.proofs.law.shown_as_read.Goals as goal

pub returns-clause-accepted : goal.returns-clause-accepted
returns-clause-accepted c = λ p s name o printed k l q w. not_refused p s name o printed k w.type l.refusal q w.named w.shown.judged

pub returns-clause-refused : goal.returns-clause-refused
returns-clause-refused c = λ p s name o u l q w. refused_too p s name o w.type u l.refusal q w.named w.shown.judged
