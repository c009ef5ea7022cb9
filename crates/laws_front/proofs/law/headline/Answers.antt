use Rattle.std.proofs.Common.{[]}
use Rattle.laws_front.proofs.Together.{together}
use Rattle.laws_front.proofs.law.headline.Goals as goal

pub returns : goal.returns
returns c = together (record {
  kept = c.lemma_accepted_checked.ensures;
  excluded = c.lemma_faults_exclude.ensures;
  layer = c.one_layer.ensures.layer;
  octets = c.one_layer.ensures.octets;
  tokens = c.one_layer.ensures.tokens;
  either = c.one_layer.ensures.either;
  one_tag = c.one_place.ensures.tags;
  one_bound = c.one_place.ensures.constraints;
  one_addition = c.one_place.ensures.additions;
  one_link = c.one_place.ensures.names;
  linked = c.lemma_modules_linked.ensures;
  one_default = c.one_place.ensures.defaults;
  one_assigned = c.one_place.ensures.assigned;
  program = c.one_program.ensures;
  tags = c.same_tags.ensures.one;
  notations = c.one_value.ensures;
  values = c.same_values.ensures.whole;
  printed = c.lemma_printed_is_read_back.ensures;
  layers = record {
    tokens = c.lemma_one_list_of_tokens.ensures;
    list = c.one_list.ensures;
    program = c.one_program-2.ensures;
    links = c.lemma_link_faults_exclude.ensures;
    tags = c.lemma_fault_excludes.ensures;
    bounds = c.lemma_fault_excludes-2.ensures;
    schema_of_modules = c.lemma_fault_excludes-3.ensures;
  };
  meanings = record {
    names = c.one_name.ensures;
    values = c.lemma_values_of_schema.ensures;
    notations = λ p M i n v w k. c.one_value.ensures p [] M i n v w k.read.apart k.read.sound.lists;
    meant = c.one_meaning.ensures.one;
    refused = c.one_meaning.ensures.refused;
  };
})
