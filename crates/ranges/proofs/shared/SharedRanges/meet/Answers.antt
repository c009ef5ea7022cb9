use Rattle.std.proofs.Common.{subst, sym, ◌∙◌}
use Rattle.asn_base.specs.Typed.{IsInSome}
use Rattle.ranges.proofs.shared.SharedRanges.meet.Goals as goal

pub returns : goal.returns
returns c =
    let v = c.root.ensures ∙ c.self.view_is in
    let is = c.ranges-2.ensures.is in
    let o = c.of_apart.ensures in
    record {
      members = λ z.
          let m = c.in_ok-root.ensures.members z in (
            λ i. (let j = m.0 (subst (IsInSome z) o i) in (subst (IsInSome z) v j.0, subst (IsInSome z) is j.1)),
            λ i. subst (IsInSome z) (sym o) (m.1 (subst (IsInSome z) (sym v) i.0, subst (IsInSome z) (sym is) i.1)),
          );
    }
