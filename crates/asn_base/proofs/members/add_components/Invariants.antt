use Rattle.std.proofs.Common.{◌≡◌, ◌++◌, drop, map}
use Rattle.asn_base.specs.Seen.{component_of}
use Rattle.asn_base.specs.proving.Listing.{texts}
use Rattle.asn_base.proofs.members.add_components.Given as goal

abbrev pub invariant-loop-component : goal.invariant-loop-component
invariant-loop-component l = texts l.names.items ++ drop l.component-index (map (λ i. i.name) (map component_of l.components)) ≡ texts l.fn.names.items ++ map (λ i. i.name) (map component_of l.components)
