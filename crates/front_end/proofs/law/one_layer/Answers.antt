use Rattle.front_end.proofs.Order.{not_of_both, one_layer, one_of_octets, one_of_tokens}
use Rattle.front_end.proofs.law.one_layer.Goals as goal

pub returns-clause-layer : goal.returns-clause-layer
returns-clause-layer c =
    one_layer
    (record {
      tokens = c.lemma_one_list_of_tokens.ensures;
      texts = c.lemma_tokens_or_fault.ensures;
      list = c.one_list.ensures;
      program = c.one_program.ensures;
      read = c.lemma_modules_linked.ensures;
      links = c.lemma_link_faults_exclude.ensures;
      tags = c.lemma_fault_excludes.ensures;
      bounds = c.lemma_fault_excludes-2.ensures;
      schema_of_modules = c.lemma_fault_excludes-3.ensures;
    })
    (record {
      default_after_markers = c.one_kind.ensures.default_after_markers;
      assigned_after_markers = c.one_kind.ensures.assigned_after_markers;
      assigned_after_defaults = c.one_kind.ensures.assigned_after_defaults;
    })

pub returns-clause-octets : goal.returns-clause-octets
returns-clause-octets c = one_of_octets c.lemma_tokens_or_fault.ensures c.lemma_one_fault.ensures

pub returns-clause-tokens : goal.returns-clause-tokens
returns-clause-tokens c = one_of_tokens c.lemma_one_list_of_tokens.ensures c.lemma_one_fault-2.ensures

pub returns-clause-either : goal.returns-clause-either
returns-clause-either c = not_of_both c.lemma_one_list_of_tokens.ensures c.lemma_tokens_or_fault.ensures
