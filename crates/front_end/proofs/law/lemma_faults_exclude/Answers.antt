use Rattle.front_end.proofs.Excluding.{excluded}
use Rattle.front_end.proofs.law.lemma_faults_exclude.Goals as goal

pub returns : goal.returns
returns c = excluded (record {
  tokens = c.lemma_one_list_of_tokens.ensures;
  texts = c.lemma_tokens_or_fault.ensures;
  list = c.one_list.ensures;
  program = c.one_program.ensures;
  read = c.lemma_modules_linked.ensures;
  links = c.lemma_link_faults_exclude.ensures;
  tags = c.lemma_fault_excludes.ensures;
  bounds = c.lemma_fault_excludes-2.ensures;
  schema_of_modules = c.lemma_fault_excludes-3.ensures;
})
