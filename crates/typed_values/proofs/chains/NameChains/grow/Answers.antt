use Rattle.std.proofs.Common.{inl, inr, ◌+◌, ◌∙◌, refl, subst, sym}
use Rattle.trees.specs.Values.{tree_of}
use Rattle.typed_values.specs.declared.stops.Stops.{Stops}
use Rattle.typed_values.specs.proving.Stopping.{HasMore, IsNoted}
use Rattle.typed_values.proofs.Ways.{led_more, led_new}
use Rattle.typed_values.proofs.chains.NameChains.grow.Goals as goal

pub returns-in_default : goal.returns-in_default
returns-in_default c = λ p turns turn N h g v s b since. led_more c.in_default.ensures.more refl h

pub returns : goal.returns
returns c = λ p turns turn N h g v s b since.
    let x = c.in-Some.ensures in
    let more = subst (λ (r : Stops). HasMore c.args.self.now.stops r) (sym c.add.ensures.stops) x.more in
    let noted = subst (λ (r : Stops). IsNoted c.args.self.now.stops r c.args.rest.names (tree_of c.args.notation.now) (c.len-place.result + 1) c.in-Some.names)
    (sym c.add.ensures.stops) x.it in
    elim c.add.ensures.chains [
      | inl e ↦ led_more more e h
      | inr e ↦ led_new c.args.number c.in-Some.names turn more c.len-place.result (c.len-place.ensures ∙ c.args.self.now.chains.ok.0) noted e h g v s b since
    ]
