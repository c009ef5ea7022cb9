use Rattle.std.proofs.Common.{◌≡◌, ◌-◌, ◌/◌, ◌%◌, ◌≤◌, length, true, false, Some, inl, refl, sym, ap, ◌∙◌, subst}
use Rattle.std.proofs.lemmas.Bool.{ltb-false}
use Rattle.std.specs.Prelude.{slice_get}
use Rattle.std.proofs.lemmas.Option.{slice_get_read}
use Rattle.range_ends.specs.proving.Trees.{leaf_below, IsChangedBelow}
use Rattle.range_ends.proofs.Leaves.{no_leaf, one_up, is_zero, no_zero, ok_both, changed_below}
use Rattle.range_ends.proofs.forks.+changed_from.Goals as goal

pub returns-then-levels-eq0-clause-leads : goal.returns-then-levels-eq0-clause-leads
returns-then-levels-eq0-clause-leads t c = λ n u h.
    (c.args.leaf, ap (λ l. leaf_below c.args.forks.now.items l c.args.leaf n) c.if-levels-eq0.true, inl refl)

pub returns-in-None-clause-leads : goal.returns-in-None-clause-leads
returns-in-None-clause-leads t c = λ n u h.
    let fs = c.args.forks.now.items in
    let over : length c.deref.result.now ≤ c.args.root = ltb-false _ _ (sym c.in-None.ensures.lookup.0) in
    let past = subst (λ z. length z ≤ c.args.root) c.deref.ensures.value over in
    let e = sym (ap (λ l. leaf_below fs l c.args.root n) (one_up c.args.levels c.if-levels-eq0.false)) in
    absurd (no_leaf fs (c.args.levels - 1) c.args.root n u past (sym e ∙ h))

pub returns-then-number-eq0-clause-leads : goal.returns-then-number-eq0-clause-leads
returns-then-number-eq0-clause-leads t c =
    let fs = c.args.forks.now.items in
    let gs = c.changed_from.new.forks.items in
    let hs = c.add.new.forks.items in
    let root = c.args.root in
    let number = c.args.number in
    let leaf = c.args.leaf in
    let f = c.in-Some.fork.now in
    let l = c.in-Some.ensures.lookup in
    let here = subst (λ z. slice_get z root ≡ Some f) c.deref.ensures.value (slice_get_read c.deref.result.now _ root f refl l.3.0 l.1) in
    let ih = subst (λ b. IsChangedBelow fs gs (c.args.levels - 1) b c.in_ok-changed.changed (number / 2) leaf) c.branch-below.ensures
    c.in_ok-changed.ensures.leads in
    ok_both (λ r. slice_get hs r ≡ Some (record { even = c.in_ok-changed.changed; odd = f.odd }))
    (λ r. IsChangedBelow fs hs c.args.levels root r number leaf) _ c.add.result c.add.ensures.there c.add.ensures.kept
    (λ at there kept. subst (λ h. IsChangedBelow fs hs h root at number leaf) (one_up c.args.levels c.if-levels-eq0.false)
    (changed_below fs gs hs (c.args.levels - 1) root c.in_ok-changed.changed at number leaf f true
    (is_zero (number % 2) c.if-number-eq0.true) here c.in_ok-changed.ensures.kept ih kept there))

pub returns-else-number-eq0-clause-leads : goal.returns-else-number-eq0-clause-leads
returns-else-number-eq0-clause-leads t c =
    let fs = c.args.forks.now.items in
    let gs = c.changed_from.new.forks.items in
    let hs = c.add-else-number-eq0.new.forks.items in
    let root = c.args.root in
    let number = c.args.number in
    let leaf = c.args.leaf in
    let f = c.in-Some.fork.now in
    let l = c.in-Some.ensures.lookup in
    let here = subst (λ z. slice_get z root ≡ Some f) c.deref.ensures.value (slice_get_read c.deref.result.now _ root f refl l.3.0 l.1) in
    let ih = subst (λ b. IsChangedBelow fs gs (c.args.levels - 1) b c.in_ok-changed.changed (number / 2) leaf) c.branch-below.ensures
    c.in_ok-changed.ensures.leads in
    ok_both (λ r. slice_get hs r ≡ Some (record { even = f.even; odd = c.in_ok-changed.changed }))
    (λ r. IsChangedBelow fs hs c.args.levels root r number leaf) _ c.add-else-number-eq0.result c.add-else-number-eq0.ensures.there
    c.add-else-number-eq0.ensures.kept
    (λ at there kept. subst (λ h. IsChangedBelow fs hs h root at number leaf) (one_up c.args.levels c.if-levels-eq0.false)
    (changed_below fs gs hs (c.args.levels - 1) root c.in_ok-changed.changed at number leaf f false
    (no_zero (number % 2) c.if-number-eq0.false) here c.in_ok-changed.ensures.kept ih kept there))
