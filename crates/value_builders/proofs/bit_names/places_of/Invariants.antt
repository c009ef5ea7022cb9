use Rattle.std.proofs.Common.{map, take}
use Rattle.asn_base.specs.Seen.{named_bit_of}
use Rattle.value_builders.specs.Made.{AreBitPlaces}
use Rattle.value_builders.proofs.bit_names.places_of.Given as goal

abbrev pub invariant-loop-name : goal.invariant-loop-name
invariant-loop-name l = AreBitPlaces (map named_bit_of l.bits) (take l.name-index (map (λ n. n.now) l.names)) l.places.items
