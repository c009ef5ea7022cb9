use Rattle.std.proofs.Common.{sym, ◌∙◌, arith}
use Rattle.trees.specs.Values.{tree_of}
use Rattle.type_table.specs.Seen.{kind_of}
use Rattle.range_ends.specs.proving.Steps.{next}
use Rattle.range_ends.proofs.References.{listed_read}
use Rattle.range_ends.proofs.Following.{number_here, next_on}
use Rattle.range_ends.proofs.Marks.{arrives_below}
use Rattle.range_ends.proofs.Posts.{arrives_on}
use Rattle.range_ends.proofs.finder.led.Goals as goal

pub notation_at-requires : goal.notation_at-requires
notation_at-requires c =
    let p = c.args.course.now.linked.now.program in
    let k = kind_of c.args.course.now.shape.now in
    let os = c.args.course.now.target.now in
    record {
      inside = arrives_below p k os c.args.start c.nearest-at.result c.lemma_whole.ensures c.requires.referred c.requires.inside
          (c.nearest-at.ensures p os c.requires.referred c.requires.signed);
    }

pub returns-in-Some-target : goal.returns-in-Some-target
returns-in-Some-target c =
    let p = c.args.course.now.linked.now.program in
    let k = kind_of c.args.course.now.shape.now in
    let os = c.args.course.now.target.now in
    let at = c.nearest-at.result in
    let way = c.nearest-at.ensures p os c.requires.referred c.requires.signed in
    let i = arrives_below p k os c.args.start at c.lemma_whole.ensures c.requires.referred c.requires.inside way in
    let e = number_here p k at c.notation_at.result.0.now (tree_of c.notation_at.result.1.now) c.notation_at.ensures
    ∙ sym c.direct_number.ensures ∙ c.in-None.is in
    let l = listed_read os at _ _ (omega (arith, i, c.requires.referred.all)) c.in-Some-target.is in
    arrives_on (next p k os) c.args.start at c.in-Some-target.next c.nearest.result way (next_on p k os at e ∙ l)
    (c.nearest.ensures p os c.requires.referred c.requires.signed)
