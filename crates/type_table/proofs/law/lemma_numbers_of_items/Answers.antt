use Rattle.type_table.proofs.Numbers as numbers
use Rattle.type_table.proofs.law.lemma_numbers_of_items.Goals as goal

pub returns-clause-root : goal.returns-clause-root
returns-clause-root c = numbers.root_are

pub returns-clause-additions : goal.returns-clause-additions
returns-clause-additions c = numbers.additions_are

pub returns-clause-one_root : goal.returns-clause-one_root
returns-clause-one_root c = numbers.one_root

pub returns-clause-one_addition : goal.returns-clause-one_addition
returns-clause-one_addition c = numbers.one_additions
