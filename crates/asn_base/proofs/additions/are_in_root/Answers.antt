use Rattle.std.proofs.Common.{arith, ◌≡◌, length, map}
use Rattle.asn_base.specs.Seen.{component_of}
use Rattle.asn_base.proofs.DepthLaws.{component_at, known_at}
use Rattle.asn_base.proofs.Leaves.{no, yes}
use Rattle.asn_base.proofs.Ready.{value_known}
use Rattle.asn_base.proofs.Rooted.{root_all, root_begin, root_more, root_size, root_wrong}
use Rattle.asn_base.proofs.additions.are_in_root.Goals as goal

pub returns-then-size-components : goal.returns-then-size-components
returns-then-size-components g c = no (λ a. c.if-size-components.true (root_size c.args.components.now c.args.size (λ i. g.N.ValueNode.part_at c.args.fields i) a))

pub loop-i-init : goal.loop-i-init
loop-i-init g c = root_begin (λ i. g.N.ValueNode.part_at c.args.fields i)

pub is_in_root-requires : goal.is_in_root-requires
is_in_root-requires g c =
    let there = component_at component_of c.args.components.now c.loop-i.i c.index-components-i.result c.loop-i-test.true c.index-components-i.is in
    record {
      known = c.requires.known;
      ready = c.requires.ready;
      depth = known_at c.args.known.types.now c.args.known.levels c.args.id.index c.loop-i.i (map component_of c.args.components.now) (component_of c.index-components-i.result) c.args.known.depths.now c.requires.known c.requires.of there;
      value = value_known c.args.id.index c.loop-i.i (map component_of c.args.components.now) (component_of c.index-components-i.result) c.requires.ready c.requires.of there;
    }

pub loop-i-preserved : goal.loop-i-preserved
loop-i-preserved g c =
    let e : c.args.size ≡ length c.args.components.now = (let f = c.if-size-components.false in omega (arith, f)) in
    root_more (λ i. g.N.ValueNode.part_at c.take_component-found.new.fields i) c.index-components-i.result c.loop-i.invariant e c.loop-i-test.true c.index-components-i.is c.take_component-found.ensures.found c.take_component-found.ensures.later
    (c.is_in_root.ensures.0 c.if-not-is_in_root.false)

pub returns-then-not-is_in_root : goal.returns-then-not-is_in_root
returns-then-not-is_in_root g c =
    let e : c.args.size ≡ length c.args.components.now = (let f = c.if-size-components.false in omega (arith, f)) in
    no (root_wrong c.index-components-i.result c.loop-i.invariant e c.loop-i-test.true c.index-components-i.is c.take_component-found.ensures.found
    (λ h. let k = c.is_in_root.ensures.1 h in let f = c.if-not-is_in_root.true in cc))

pub returns : goal.returns
returns g c =
    let e : c.args.size ≡ length c.args.components.now = (let f = c.if-size-components.false in omega (arith, f)) in
    yes (root_all c.loop-i.invariant e c.loop-i-test.false)
