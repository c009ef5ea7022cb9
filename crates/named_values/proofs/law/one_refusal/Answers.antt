use Rattle.trees.specs.Values.{tree_of}
use Rattle.named_values.proofs.Once.{name_or_text, name_refused, octets_or_tokens, octets_refused, one_text, one_tree, text_typed, tokens_refused}
use Rattle.named_values.proofs.law.one_refusal.Goals as goal

pub returns-clause-type_before_value : goal.returns-clause-type_before_value
returns-clause-type_before_value c = λ p first second x y a b. a.1 b.0.0 b.0.1

pub returns-clause-type_before_notation : goal.returns-clause-type_before_notation
returns-clause-type_before_notation c = λ p first second x t a b. a.1 b.type b.named.typed

pub returns-clause-value_before_notation : goal.returns-clause-value_before_notation
returns-clause-value_before_notation c = λ p first second x t a b. name_refused p first second b.within (tree_of b.notation) x b.named.given a.1

pub returns-clause-type_before_text : goal.returns-clause-type_before_text
returns-clause-type_before_text c = λ p first second x f a b. (let t = text_typed p first second f b in a.1 t.0 t.1)

pub returns-clause-name_or_text : goal.returns-clause-name_or_text
returns-clause-name_or_text c = λ p first second x f a b. name_or_text p first second x f a.1 b

pub returns-clause-octets_before_notation : goal.returns-clause-octets_before_notation
returns-clause-octets_before_notation c = λ p first second f t a b. octets_refused c.lemma_wrong_texts_are_none.ensures p first second b.within (tree_of b.notation) f b.named.given a

pub returns-clause-tokens_before_notation : goal.returns-clause-tokens_before_notation
returns-clause-tokens_before_notation c = λ p first second f t a b. tokens_refused c.lemma_wrong_texts_are_none.ensures p first second b.within (tree_of b.notation) f b.named.given a

pub returns-clause-one_text : goal.returns-clause-one_text
returns-clause-one_text c = one_text c.lemma_one_fault.ensures

pub returns-clause-one_tree : goal.returns-clause-one_tree
returns-clause-one_tree c = one_tree c.lemma_one_fault.ensures

pub returns-clause-octets_before_tokens : goal.returns-clause-octets_before_tokens
returns-clause-octets_before_tokens c = octets_or_tokens c.lemma_one_fault.ensures
