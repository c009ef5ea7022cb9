use Rattle.syntax.proofs.Assigned.{module_laws}
use Rattle.syntax.proofs.ModuleText.{one_tree}
use Rattle.syntax.proofs.parsing.lemma_one_module.Goals as goal

pub returns : goal.returns
returns c = one_tree (module_laws c.lemma_heads_are_read.ensures c.lemma_types_are_read.ensures)
