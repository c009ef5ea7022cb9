use Rattle.std.proofs.Common.{◌≡◌, ◌++◌, drop, map}
use Rattle.asn_base.specs.Seen.{alternative_of}
use Rattle.asn_base.specs.proving.Listing.{texts}
use Rattle.asn_base.proofs.members.add_alternatives.Given as goal

abbrev pub invariant-loop-alternative : goal.invariant-loop-alternative
invariant-loop-alternative l = texts l.names.items ++ drop l.alternative-index (map (λ i. i.name) (map alternative_of l.alternatives)) ≡ texts l.fn.names.items ++ map (λ i. i.name) (map alternative_of l.alternatives)
