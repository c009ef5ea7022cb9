use Rattle.std.proofs.Common.{◌≡◌, map, take}
use Rattle.trees.specs.Values.{member_of}
use Rattle.value_notations.specs.Notations.{field_names}
use Rattle.values.proofs.Lookups.{place_in}
use Rattle.values.proofs.lookup.places.Given as goal

abbrev pub invariant-loop-component : goal.invariant-loop-component
invariant-loop-component l =
    l.places.items ≡ map (place_in (field_names (map member_of l.fields))) (take l.component-index l.components)
