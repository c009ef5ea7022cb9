use Rattle.std.proofs.Common.{◌≡◌, ◌++◌, map, drop}
use Rattle.asn_base.specs.Seen.{types_of}
use Rattle.tag_places.specs.Keys.{key_at, untagged}
use Rattle.tag_places.proofs.keys.keys.Given as goal

abbrev pub invariant-loop-i : goal.invariant-loop-i
invariant-loop-i l =
    l.keys.items ++ map (key_at untagged (types_of l.types)) (map (λ t. t.index) (drop l.i l.ids))
    ≡ map (key_at untagged (types_of l.types)) (map (λ t. t.index) l.ids)
