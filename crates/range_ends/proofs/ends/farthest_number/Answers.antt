use Rattle.std.proofs.Common.{◌∙◌, sym, arith, get_or, rules}
use Rattle.trees.specs.Values.{tree_of}
use Rattle.type_table.specs.Seen.{kind_of}
use Rattle.range_ends.proofs.References.{listed_read, refers_within}
use Rattle.range_ends.proofs.Following.{number_here}
use Rattle.range_ends.proofs.Nameless.{it_inside, it_ends, it_is_lost, it_turns, it_is_first}
use Rattle.range_ends.proofs.ends.farthest_number.Goals as goal

pub notation_at-requires : goal.notation_at-requires
notation_at-requires c =
    let i = it_inside c.args.linked.now.program (kind_of c.args.shape.now) c.args.target.now c.args.far.now c.args.start c.requires.referred
    c.lemma_whole.ensures c.requires.nameless c.requires.far c.requires.inside in
    record { inside = omega (arith, i, c.requires.referred.all) }

pub bounds : goal.bounds
bounds c =
    it_inside c.args.linked.now.program (kind_of c.args.shape.now) c.args.target.now c.args.far.now c.args.start c.requires.referred
    c.lemma_whole.ensures c.requires.nameless c.requires.far c.requires.inside

pub returns-in-Some : goal.returns-in-Some
returns-in-Some c =
    let p = c.args.linked.now.program in
    let k = kind_of c.args.shape.now in
    let t = number_here p k (get_or c.args.far.now c.args.start 0) c.notation_at.result.0.now (tree_of c.notation_at.result.1.now)
    c.notation_at.ensures ∙ sym c.direct_number.ensures ∙ c.in-Some.is in
    let e = it_ends p k c.args.target.now c.args.far.now c.args.start c.requires.referred c.lemma_whole.ensures c.requires.nameless
    c.requires.far c.requires.inside c.in-Some.number t in
    search rules

pub returns-in-None-target : goal.returns-in-None-target
returns-in-None-target c =
    let p = c.args.linked.now.program in
    let k = kind_of c.args.shape.now in
    let t = number_here p k (get_or c.args.far.now c.args.start 0) c.notation_at.result.0.now (tree_of c.notation_at.result.1.now)
    c.notation_at.ensures ∙ sym c.direct_number.ensures ∙ c.in-None.is in
    let i = it_inside p k c.args.target.now c.args.far.now c.args.start c.requires.referred c.lemma_whole.ensures c.requires.nameless
    c.requires.far c.requires.inside in
    it_is_lost p k c.args.target.now c.args.far.now c.args.start c.requires.referred c.lemma_whole.ensures c.requires.nameless
    c.requires.far c.requires.inside t (listed_read c.args.target.now (get_or c.args.far.now c.args.start 0) _ _ i c.in-None-target.is)

pub first_met_twice-requires : goal.first_met_twice-requires
first_met_twice-requires c =
    let p = c.args.linked.now.program in
    let k = kind_of c.args.shape.now in
    let i = it_inside p k c.args.target.now c.args.far.now c.args.start c.requires.referred c.lemma_whole.ensures c.requires.nameless
    c.requires.far c.requires.inside in
    record {
      within = refers_within p c.args.target.now c.lemma_whole.ensures c.requires.referred;
      inside = omega (arith, c.requires.inside, c.requires.referred.all);
      round = it_turns p k c.args.target.now c.args.far.now c.args.start c.requires.referred c.lemma_whole.ensures c.requires.nameless
          c.requires.far c.requires.inside c.in-Some-target.next
          (listed_read c.args.target.now (get_or c.args.far.now c.args.start 0) _ _ i c.in-Some-target.is);
    }

pub returns-in-Some-target : goal.returns-in-Some-target
returns-in-Some-target c =
    let p = c.args.linked.now.program in
    let k = kind_of c.args.shape.now in
    let i = it_inside p k c.args.target.now c.args.far.now c.args.start c.requires.referred c.lemma_whole.ensures c.requires.nameless
    c.requires.far c.requires.inside in
    it_is_first p k c.args.target.now c.args.far.now c.args.start c.requires.referred c.lemma_whole.ensures c.requires.nameless
    c.requires.far c.requires.inside c.in-Some-target.next c.first_met_twice.result
    (listed_read c.args.target.now (get_or c.args.far.now c.args.start 0) _ _ i c.in-Some-target.is) c.first_met_twice.ensures
