use Rattle.std.proofs.Common.{inl, inr}
use Rattle.std.specs.Prelude.{◌↔◌}
use Rattle.asn_base.specs.Seen.{range_of}
use Rattle.asn_base.specs.Typed.{IsInSome}
use Rattle.later_versions.proofs.Agree.{at_edges}
use Rattle.later_versions.proofs.Fronts.{no, onward}
use Rattle.later_versions.proofs.sets.agree_at_edges.Goals as goal

pub returns-then-not-agree_at_least : goal.returns-then-not-agree_at_least
returns-then-not-agree_at_least c =
    no (λ h. absurd (let e = c.agree_at_least.ensures.1 (λ z f. h z (inl f)) in let f = c.if-not-agree_at_least.true in cc))

pub returns : goal.returns
returns c =
    onward c.agree_at_end.ensures
    (λ p. at_edges (λ z. IsInSome z c.args.one.now ↔ IsInSome z c.args.other.now) (range_of c.args.range.now) (c.agree_at_least.ensures.0 c.if-not-agree_at_least.false) p)
    (λ h g e z i. h z (inr (g, e, i)))
