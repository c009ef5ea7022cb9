use Rattle.std.specs.Prelude.{map}
use Rattle.type_table.specs.Seen.{part_of}
use Rattle.tagging.proofs.Taggings.{bear, not_sequence}
use Rattle.tagging.proofs.Fronts.{front_untagged}
use Rattle.tagging.proofs.Firsts.{own_fault}
use Rattle.tagging.proofs.check.bear_tags.Goals as goal
use Rattle.tagging.proofs.check.bear_tags.Goals.{in-Ok, in-Err}

pub returns-after-fronts-clause-found : goal.returns-after-fronts-clause-found
returns-after-fronts-clause-found c =
    let r = c.requires.there in
    let l = c.args.list in
    elim c.match-fronts.branch [
      | in-Ok w ↦ rw w.result-is (bear c.args.columns.now.program.types c.args.list.kind (map part_of c.args.list.members.now) _ w.in-Ok.ensures.found)
      | in-Err w ↦ rw w.result-is (front_untagged c.args.columns.now.program.types l.kind r.marker (map part_of l.members.now) l.number l.default r.place w.in-Err.fault (not_sequence l.kind c.in_default.not-Sequence) r.is w.in-Err.ensures.found)
    ]

pub returns-after-fronts-clause-first : goal.returns-after-fronts-clause-first
returns-after-fronts-clause-first c =
    elim c.match-fronts.branch [
      | in-Ok w ↦ rw w.result-is tt
      | in-Err w ↦ rw w.result-is (own_fault c.args.columns.now.program.types c.args.list.kind c.args.list.members.now w.in-Err.fault (not_sequence c.args.list.kind c.in_default.not-Sequence) w.in-Err.ensures.first)
    ]
