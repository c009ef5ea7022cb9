use Rattle.std.proofs.Common.{arith, ap, sym, ◌∙◌, ◌++◌, ◌∷◌, [], ◌≡◌, Some, reverse, append_assoc, subst}
use Rattle.std.specs.Prelude.{slice_get}
use Rattle.std.proofs.lemmas.List.{append-nil, reverse-append}
use Rattle.later_versions.proofs.Fronts.{got}
use Rattle.later_versions.proofs.Tracking.{if_ok}
use Rattle.later_versions.proofs.pairs.places_to.Goals as goal

pub loop-now-init : goal.loop-now-init
loop-now-init c = (
  c.requires.within,
  λ paths h path e. e ∙ ap Some (sym (ap (λ q. path ++ reverse q) c.new-places.ensures.items ∙ append-nil path)),
)

pub loop-now-preserved : goal.loop-now-preserved
loop-now-preserved c =
    let here = got c.args.list.now c.loop-now.now _ c.loop-now.invariant.0 in
    let back = c.requires.back c.loop-now.now _ c.loop-now-test.true here in (
      (let w = c.loop-now.invariant.0 in omega (arith, back, w)),
      λ paths h path e.
          c.loop-now.invariant.1 paths h _ (h.next c.loop-now.now _ path c.loop-now-test.true here e)
          ∙ ap Some (append_assoc path (_ ∷ []) (reverse c.loop-now.places.items)
          ∙ ap (λ q. path ++ q) (sym (ap reverse c.in_ok-push.ensures.items ∙ reverse-append c.loop-now.places.items (_ ∷ [])))),
    )

pub returns : goal.returns
returns c = if_ok c.reversed.result c.reversed.ensures (λ path r paths h.
    let zero : 0 ≡ c.loop-now.now = (let t = c.loop-now-test.false in omega (arith, t)) in
    let start = subst (λ k. slice_get paths k ≡ Some []) zero h.first in
    c.loop-now.invariant.1 paths h [] start ∙ ap Some (sym (r ∙ ap reverse c.as_slice.ensures.value)))
