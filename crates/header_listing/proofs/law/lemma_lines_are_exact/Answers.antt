use Rattle.header_listing.proofs.Exact.{all_joined, is_there, joined_is}
use Rattle.header_listing.proofs.law.lemma_lines_are_exact.Goals as goal

pub returns-clause-joined : goal.returns-clause-joined
returns-clause-joined c = λ o limit stop text l. joined_is l.shown

pub returns-clause-there : goal.returns-clause-there
returns-clause-there c = λ o limit stop text l. is_there l.shown

pub returns-clause-all : goal.returns-clause-all
returns-clause-all c = λ o stop text l. all_joined l
