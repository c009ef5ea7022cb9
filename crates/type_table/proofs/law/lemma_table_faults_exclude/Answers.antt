use Rattle.type_table.proofs.Occurring.{table_exclude}
use Rattle.type_table.proofs.law.lemma_table_faults_exclude.Goals as goal

pub returns : goal.returns
returns c = λ ms hs gs roots ts all apart few unfolds e n f. table_exclude ms hs gs roots ts all apart few unfolds e n f
