use Rattle.resolve.proofs.Exclusion.{fault_not_sound}
use Rattle.resolve.proofs.Programs as programs
use Rattle.resolve.proofs.law.lemma_link_faults_exclude.Goals as goal

pub returns : goal.returns
returns c = λ ms p e n f l. programs.link_exclude c.lemma_apart.ensures c.lemma_one_table.ensures c.lemma_name_faults_exclude.ensures c.lemma_table_faults_exclude.ensures fault_not_sound ms p l e n f
