use Rattle.asn_base.specs.Seen.{component_of}
use Rattle.asn_base.proofs.DepthLaws.{kept_depth, before_depth}
use Rattle.asn_base.proofs.Ready.{with_table}
use Rattle.asn_base.proofs.depths.next_depth.Goals as goal

pub returns-then-before-known : goal.returns-then-before-known
returns-then-before-known c = kept_depth c.args.known.types.now c.args.known.levels (component_of c.args.component.now) c.in-Some.before (before_depth c.args.known.types.now c.args.known.levels (component_of c.args.component.now) c.args.site.id.index c.args.site.place c.args.known.depths.now c.in-Some.before c.requires.before c.in-Some.ensures) c.if-before-known.true

pub is_within-requires-clause-ready : goal.is_within-requires-clause-ready
is_within-requires-clause-ready c = with_table c.requires.numbered c.requires.some
