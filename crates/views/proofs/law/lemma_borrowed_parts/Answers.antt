use Rattle.views.proofs.Borrowed.{component_borrowed}
use Rattle.views.proofs.law.lemma_borrowed_parts.Goals as goal

pub returns-clause-component : goal.returns-clause-component
returns-clause-component c m k ms t b e = component_borrowed m k ms t b e
