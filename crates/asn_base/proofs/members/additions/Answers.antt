use Rattle.std.proofs.Common.{ap, ◌∙◌, map, drop}
use Rattle.asn_base.specs.Seen.{component_of}
use Rattle.asn_base.proofs.Listings.{additions_drop, part_from}
use Rattle.asn_base.proofs.members.additions.Goals as goal

pub returns : goal.returns
returns c = ap (map component_of) (part_from c.root_count.result c.args.components.now) ∙ ap (λ q. map component_of (drop q c.args.components.now)) c.root_count.ensures.count ∙ additions_drop c.args.components.now
