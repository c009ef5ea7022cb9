use Rattle.std.proofs.Common.{◌++◌, List, drop, string_bytes, ℕ}
use Rattle.type_listing.specs.Listing.{AreListed}
use Rattle.type_listing.proofs.listing.list.Given as goal

abbrev pub invariant-loop-index : goal.invariant-loop-index
invariant-loop-index l =
    (rest : List ℕ)
    → AreListed l.linked.program l.code l.index (drop l.index l.linked.program.types) rest
    → AreListed l.linked.program l.code 0 l.linked.program.types (string_bytes l.out ++ rest)
