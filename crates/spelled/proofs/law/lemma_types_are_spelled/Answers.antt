use Rattle.std.proofs.Common.{map}
use Rattle.std.proofs.lemmas.List.Elements.{All-map}
use Rattle.trees.specs.Modules.{module_tree_of}
use Rattle.spelled.specs.Written.{IsSpelledModule}
use Rattle.spelled.proofs.Numbering.{types_spelled}
use Rattle.spelled.proofs.law.lemma_types_are_spelled.Goals as goal

pub returns-clause-trees : goal.returns-clause-trees
returns-clause-trees c ms p l h = types_spelled ms p.modules p.headers p.assignments p.types l.program.types h

pub returns-clause-modules : goal.returns-clause-modules
returns-clause-modules c modules p l h =
    types_spelled (map module_tree_of modules) p.modules p.headers p.assignments p.types l.program.types (All-map IsSpelledModule module_tree_of modules h)
