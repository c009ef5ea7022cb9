use Rattle.std.proofs.Common.{map, sym, subst, ◌<◌, [], length}
use Rattle.type_table.specs.Seen.{part_of}
use Rattle.tagging.specs.Tags.{Tags, label}
use Rattle.tagging.specs.First.{CanBeFirst}
use Rattle.additions.proofs.Placing.{part_at, same_part, alternative_there, alternative_tagged}
use Rattle.additions.proofs.members.tag_at.Goals as goal

pub first_tag-requires-clause-there : goal.first_tag-requires-clause-there
first_tag-requires-clause-there c =
    let a = c.index-components-at.result in
    let ts = c.args.tagged.now.program.types in
    let e = part_at c.args.components.now c.args.at a c.requires.there c.index-components-at.is in
    subst (λ z. z.ty < length ts) c.index-components-at.is (alternative_there ts (map part_of c.args.components.now) c.requires.is.0 c.args.at (part_of a) c.lemma_tagged_facts.ensures.linked c.requires.is.1 e)

pub first_tag-requires-clause-bears : goal.first_tag-requires-clause-bears
first_tag-requires-clause-bears c =
    let a = c.index-components-at.result in
    let ts = c.args.tagged.now.program.types in
    let e = part_at c.args.components.now c.args.at a c.requires.there c.index-components-at.is in
    subst (λ z. Tags ts z.ty [] → ⊥) c.index-components-at.is (alternative_tagged ts (map part_of c.args.components.now) c.requires.is.0 c.args.at (part_of a) c.lemma_tagged_facts.ensures.tagged c.requires.is.1 e)

pub returns-in-Ok : goal.returns-in-Ok
returns-in-Ok c = λ x q.
    let a = c.index-components-at.result in
    let ts = c.args.tagged.now.program.types in
    let s = same_part c.args.components.now c.args.at a x c.requires.there c.index-components-at.is q in
    let f = subst (λ z. CanBeFirst ts z.ty (label c.in-Ok.tag)) (sym c.index-components-at.is) c.in-Ok.ensures in
    subst (λ z. CanBeFirst ts z.ty (label c.in-Ok.tag)) s f
