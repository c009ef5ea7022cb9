use Rattle.std.proofs.Common.{◌∙◌, ap, sym, subst}
use Rattle.asn_base.specs.Seen.{range_of}
use Rattle.ranges.specs.Numbers.{AreApart}
use Rattle.ranges.specs.proving.Trees.{within}
use Rattle.ranges.proofs.Withins.{alone, several, within_apart, each_apart}
use Rattle.ranges.proofs.tree.narrowed.Goals as goal

pub returns-in_ok-clip-in-Some-clause-members : goal.returns-in_ok-clip-in-Some-clause-members
returns-in_ok-clip-in-Some-clause-members c =
    alone _ _ _ (range_of c.in-Some.range) c.in-Some.ensures
    (c.in_ok-clip-in-Some.ensures ∙ ap (within (range_of c.in-Some.range)) c.in_ok-all-in-Some.ensures)

pub returns-in_ok-clip-in-Some-clause-apart : goal.returns-in_ok-clip-in-Some-clause-apart
returns-in_ok-clip-in-Some-clause-apart c =
    subst AreApart (sym (c.in_ok-clip-in-Some.ensures ∙ ap (within (range_of c.in-Some.range)) c.in_ok-all-in-Some.ensures))
    (within_apart (range_of c.in-Some.range) _ c.requires.others)

pub returns-in_ok-clip_each-in-None-clause-members : goal.returns-in_ok-clip_each-in-None-clause-members
returns-in_ok-clip_each-in-None-clause-members c = several _ _ _ c.in_ok-clip_each-in-None.ensures

pub returns-in_ok-clip_each-in-None-clause-apart : goal.returns-in_ok-clip_each-in-None-clause-apart
returns-in_ok-clip_each-in-None-clause-apart c =
    subst AreApart (sym c.in_ok-clip_each-in-None.ensures) (each_apart _ _ c.requires.others c.requires.tree)
