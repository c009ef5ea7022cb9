use Rattle.std.proofs.Common.{◌++◌, ◌∷◌, [], ap, map, subst, ◌∙◌, None}
use Rattle.std.specs.Prelude.{◌↔◌}
use Rattle.asn_base.specs.Seen.{range_of}
use Rattle.asn_base.specs.Typed.{IsInSome}
use Rattle.later_versions.proofs.Fronts.{onward}
use Rattle.later_versions.proofs.Marks.{from_least, one_range}
use Rattle.later_versions.proofs.Tracking.{if_ok}
use Rattle.later_versions.proofs.constraints.numbers_from.Goals as goal

pub returns : goal.returns
returns c = if_ok c.union_of.result c.union_of.ensures.members (λ all m z.
    let h = subst (λ q. IsInSome z all ↔ IsInSome z (map range_of q))
    (c.in_ok-push.ensures.items ∙ ap (λ q. q ++ record { least = c.args.least; greatest = None } ∷ []) c.new-ranges.ensures.items)
    (m z) in
    let a = one_range (record { least = c.args.least; greatest = None }) z in
    let b = from_least c.args.least z in
    onward h (λ p. b.0 (a.0 p)) (λ p. a.1 (b.1 p)))
