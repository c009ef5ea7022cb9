use Rattle.std.proofs.Common.{map, subst}
use Rattle.std.specs.Prelude.{◌↔◌}
use Rattle.asn_base.specs.Seen.{range_of as seen_of}
use Rattle.asn_base.specs.Typed.{IsInSome}
use Rattle.range_ends.proofs.written_ranges.added.Goals as goal

pub returns : goal.returns
returns c = λ z.
    subst (λ q. IsInSome z (map seen_of c.in_ok-joined.joined.items) ↔ IsInSome z (map seen_of q)) c.in_ok-push.ensures.items
    (c.in_ok-joined.ensures.members z)
