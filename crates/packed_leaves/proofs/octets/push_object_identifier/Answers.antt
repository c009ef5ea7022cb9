use Rattle.asn_base.specs.Abstract.{abstract}
use Rattle.packed_leaves.proofs.Values.{is_oid}
use Rattle.packed_leaves.proofs.Leaves.{some_oid, oid_added}
use Rattle.packed_leaves.proofs.octets.push_object_identifier.Goals as goal

pub push_contents-requires : goal.push_contents-requires
push_contents-requires c = let r = is_oid c.requires in some_oid (abstract c.args.value.now) r.0 r.1 r.2

pub returns : goal.returns
returns c = let r = is_oid c.requires in oid_added c.function_laws.ensures.leaf (abstract c.args.value.now) r.0 c.args.out.now c.push_contents.new.out r.1 c.in_ok-push_contents.ensures
