use Rattle.std.proofs.Common.{◌≡◌, ◌++◌, List, drop, map, string_bytes}
use Rattle.asn_base.specs.Seen.{item_of}
use Rattle.asn_base.specs.Types.{Item}
use Rattle.octet_findings.specs.Items.{listed_after}
use Rattle.octet_findings.proofs.items.push_items.Given as goal

abbrev pub invariant-loop-i : goal.invariant-loop-i
invariant-loop-i l = (more : List Item)
    → listed_after (string_bytes l.fn.list) (map item_of l.items ++ more)
    ≡ listed_after (string_bytes l.list) (map item_of (drop l.i l.items) ++ more)
