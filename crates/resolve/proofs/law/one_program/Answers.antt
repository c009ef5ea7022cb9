use Rattle.resolve.proofs.Programs as programs
use Rattle.resolve.proofs.law.one_program.Goals as goal

pub returns : goal.returns
returns c = programs.one_program c.lemma_apart.ensures c.lemma_one_table.ensures
