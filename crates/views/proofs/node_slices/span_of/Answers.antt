use Rattle.std.proofs.Common.{arith, ◌+◌, false, get_or, ap}
use Rattle.views.specs.declared.node.NodeContent.TheVariants.{Bool}
use Rattle.views.specs.declared.node.Node.{Node}
use Rattle.views.specs.Seen.{side_lists}
use Rattle.views.proofs.Fronts.{front_of, next_of}
use Rattle.views.proofs.Ranges.{get_same}
use Rattle.views.proofs.node_slices.span_of.Goals as goal

abbrev none : Node
none = record { number = 0; content = Bool false }

pub returns-clause-some : goal.returns-clause-some
returns-clause-some c =
    let s = side_lists c.args.lists.now in
    let ns = c.args.nodes.now in
    let n = get_or ns c.args.at none in
    let f = front_of s ns c.args.at n c.requires.left.0 c.requires.left.1 c.requires.there (get_same ns c.args.at none n c.requires.there) in
    let e = c.extent.ensures s in
    let l = f.some in
    omega arith

pub returns-clause-inside : goal.returns-clause-inside
returns-clause-inside c =
    let s = side_lists c.args.lists.now in
    let ns = c.args.nodes.now in
    let n = get_or ns c.args.at none in
    let f = front_of s ns c.args.at n c.requires.left.0 c.requires.left.1 c.requires.there (get_same ns c.args.at none n c.requires.there) in
    let e = c.extent.ensures s in
    let l = f.inside in
    omega arith

pub returns-clause-next : goal.returns-clause-next
returns-clause-next c ms l =
    let s = side_lists c.args.lists.now in
    let ns = c.args.nodes.now in
    let n = get_or ns c.args.at none in
    next_of s ns c.args.at n ms (c.args.at + c.extent.result) l c.requires.there (get_same ns c.args.at none n c.requires.there) (ap (λ q. c.args.at + q) (c.extent.ensures s))
