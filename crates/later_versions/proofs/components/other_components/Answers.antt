use Rattle.std.proofs.Common.{arith, map, subst, sym}
use Rattle.std.proofs.lemmas.List.{length-map}
use Rattle.std.proofs.lemmas.Option.{slice_get_within}
use Rattle.asn_base.specs.Seen.{component_of}
use Rattle.later_versions.specs.Differences.{AreAdditions, is_no_addition, other_brackets}
use Rattle.later_versions.proofs.Joined.{groups_before}
use Rattle.later_versions.proofs.Marks.{all_later}
use Rattle.later_versions.proofs.components.other_components.Goals as goal

pub returns-in-Some : goal.returns-in-Some
returns-in-Some c =
    let n = length-map c.args.components.now component_of in
    let r = c.in-Some.ensures in
    let l = r.0 in
    is_no_addition r.2 (rw c.in-Ok-None.field-0-is at c.in-Ok-None.ensures) (omega (arith, n, l))
    (subst (λ k. AreAdditions (map component_of c.args.others.now) k c.in-Some.place) (sym n) r.1) r.3 r.4

pub returns-in-Some-other_groups : goal.returns-in-Some-other_groups
returns-in-Some-other_groups c =
    let n = length-map c.args.components.now component_of in
    let m = length-map c.args.others.now component_of in
    let h = c.in-Some-other_groups.ensures in
    other_brackets (rw c.in-Ok-None.field-0-is at c.in-Ok-None.ensures)
    (λ j d l w e. c.in_default.ensures j d (omega (arith, n, l)) (omega (arith, m, w)) e) h.within
    (groups_before (map component_of c.args.components.now) (map component_of c.args.others.now) c.in-Some-other_groups.place c.requires.first c.requires.second h.grouped h.joined)
    h.other

pub returns-in-None : goal.returns-in-None
returns-in-None c =
    let n = length-map c.args.components.now component_of in
    let m = length-map c.args.others.now component_of in
    all_later c.args.schema.now (map component_of c.args.components.now) (map component_of c.args.others.now) c.requires.first c.requires.second
    (rw c.in-Ok-None.field-0-is at c.in-Ok-None.ensures)
    (λ j d l e. c.in_default.ensures j d (omega (arith, n, l)) (let w = slice_get_within (map component_of c.args.others.now) j d e in omega (arith, m, w)) e)
    c.in-None.ensures
