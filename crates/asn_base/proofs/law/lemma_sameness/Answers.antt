use Rattle.asn_base.proofs.Sameness.{alike_sym, alike_trans, same_self, same_sym, same_trans}
use Rattle.asn_base.proofs.law.lemma_sameness.Goals as goal

pub returns : goal.returns
returns c = record { itself = same_self; turned = same_sym; joined = same_trans; alike_turned = λ s t v w a. alike_sym a; alike_joined = λ s t v w x a b. alike_trans a b }
