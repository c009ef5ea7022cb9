use Rattle.asn_base.specs.Abstract.{abstract}
use Rattle.packed_leaves.proofs.Values.{is_relative_oid}
use Rattle.packed_leaves.proofs.Leaves.{some_relative, relative_added}
use Rattle.packed_leaves.proofs.octets.push_relative_oid.Goals as goal

pub push_contents-requires : goal.push_contents-requires
push_contents-requires c = let r = is_relative_oid c.requires in some_relative (abstract c.args.value.now) r.0 r.1 r.2

pub returns : goal.returns
returns c = let r = is_relative_oid c.requires in relative_added c.function_laws.ensures.leaf (abstract c.args.value.now) r.0 c.args.out.now c.push_contents.new.out r.1 c.in_ok-push_contents.ensures
