use Rattle.views.specs.Tree.{leaf, member, no_member}
use Rattle.views.proofs.Borrowed.{closed_borrowed, joined_borrowed}
use Rattle.views.proofs.law.lemma_borrowed_while_built.Goals as goal

pub returns-clause-with_leaf : goal.returns-clause-with_leaf
returns-clause-with_leaf c m k l b p q = record { here = joined_borrowed m b.here (member k (leaf l) no_member) p.here (q, tt); waits = p.waits }

pub returns-clause-closed : goal.returns-clause-closed
returns-clause-closed c m a b w ws t p q = closed_borrowed m a b w ws t p q
