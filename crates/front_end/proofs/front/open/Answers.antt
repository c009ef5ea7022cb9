use Rattle.std.proofs.Common.{map, ◌∙◌}
use Rattle.trees.specs.Modules.{module_tree_of}
use Rattle.front_end.specs.Accepted.{octets_of}
use Rattle.front_end.proofs.Excluding.{is_memory}
use Rattle.front_end.proofs.Standing.{linked_stand, names_stand}
use Rattle.front_end.proofs.front.open.Goals as goal

pub returns-in-Err-clause-only : goal.returns-in-Err-clause-only
returns-in-Err-clause-only c = λ p a.
    is_memory c.lemma_faults_exclude.ensures (map octets_of c.args.texts.now) p c.in-Err.fault c.in-Err.ensures.fault a

pub returns-in-Err-linked-clause-only : goal.returns-in-Err-linked-clause-only
returns-in-Err-linked-clause-only c = λ p a.
    let xs = map octets_of c.args.texts.now in
    let ws = c.in-Ok.modules.items in
    is_memory c.lemma_faults_exclude.ensures xs p c.in-Err-linked.fault
    (names_stand xs ws c.in-Err-linked.fault c.in-Ok.ensures.modules c.in-Err-linked.ensures.fault) a

pub build_checked-requires : goal.build_checked-requires
build_checked-requires c =
    c.lemma_modules_linked.ensures (map octets_of c.args.texts.now) (map module_tree_of c.in-Ok.modules.items) c.in-Ok-linked.linked.program c.in-Ok.ensures.modules c.in-Ok-linked.ensures.linked

pub returns-in-Ok-build_checked-clause-only : goal.returns-in-Ok-build_checked-clause-only
returns-in-Ok-build_checked-clause-only c = λ p a.
    c.in-Ok-build_checked.ensures.same ∙ c.one_program.ensures (map octets_of c.args.texts.now) c.in-Ok-linked.linked.program p
    (record {
      modules = map module_tree_of c.in-Ok.modules.items;
      are = c.in-Ok.ensures.modules;
      links = c.in-Ok-linked.ensures.linked;
      tagged = c.in-Ok-build_checked.ensures.kept.tagged;
      bounded = c.in-Ok-build_checked.ensures.kept.bounded;
      asked = c.in-Ok-build_checked.ensures.kept.asked;
    })
    a

pub returns-in-Err-build_checked-clause-only : goal.returns-in-Err-build_checked-clause-only
returns-in-Err-build_checked-clause-only c = λ p a.
    let xs = map octets_of c.args.texts.now in
    let ws = c.in-Ok.modules.items in
    is_memory c.lemma_faults_exclude.ensures xs p c.in-Err-build_checked.fault
    (linked_stand xs ws c.in-Ok-linked.linked c.in-Err-build_checked.fault c.in-Ok.ensures.modules
    c.in-Ok-linked.ensures.linked c.in-Ok-linked.ensures.text c.in-Err-build_checked.ensures.fault)
    a
