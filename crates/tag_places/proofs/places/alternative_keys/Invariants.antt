use Rattle.std.proofs.Common.{◌≡◌, ◌++◌, map, drop}
use Rattle.asn_base.specs.Seen.{alternative_of}
use Rattle.tag_places.proofs.places.alternative_keys.Given as goal

abbrev pub invariant-loop-i : goal.invariant-loop-i
invariant-loop-i l =
    map (λ t. t.index) l.ids.items ++ map (λ a. a.type) (map alternative_of (drop l.i l.alternatives))
    ≡ map (λ a. a.type) (map alternative_of l.alternatives)
