use Rattle.std.proofs.Common.{◌≡◌, ◌++◌, map, drop}
use Rattle.asn_base.specs.Seen.{component_of}
use Rattle.tag_places.proofs.places.component_keys.Given as goal

abbrev pub invariant-loop-i : goal.invariant-loop-i
invariant-loop-i l =
    map (λ t. t.index) l.ids.items ++ map (λ c. c.type) (map component_of (drop l.i l.components))
    ≡ map (λ c. c.type) (map component_of l.components)
