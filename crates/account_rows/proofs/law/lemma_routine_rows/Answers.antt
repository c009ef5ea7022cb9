use Rattle.account_rows.proofs.Joins.{is_at}
use Rattle.account_rows.proofs.Rows.{lemma_routine_rows}
use Rattle.account_rows.proofs.law.lemma_routine_rows.Goals as goal

pub returns-clause-rows : goal.returns-clause-rows
returns-clause-rows c = λ s t v es i a d.
    lemma_routine_rows s i (c.lemma_sameness.ensures.alike_turned s) (c.lemma_sameness.ensures.alike_joined s) (c.lemma_alike_values.ensures.levels s) c.header_laws.ensures.is c.header_laws.ensures.only (c.leaf_laws.ensures.one s) t v es a d

pub returns-clause-stand : goal.returns-clause-stand
returns-clause-stand c = is_at
