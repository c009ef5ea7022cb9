use Rattle.std.proofs.Common.{rules}
use Rattle.asn_base.specs.Abstract.{abstract}
use Rattle.codec_machine.proofs.Chosen.{itself, leaf_not_ran, leaf_ran}
use Rattle.codec_machine.proofs.sequence.value_in_row.Goals as goal

pub returns-in-Ok-clause-ok : goal.returns-in-Ok-clause-ok
returns-in-Ok-clause-ok g c =
    let v = abstract c.args.value.now in
    let p = c.in-Leaf.ensures in
    leaf_ran v c.in-Leaf.head c.in-Leaf.kind (itself c.args.code.now c.args.id.index v c.in-Leaf.head c.in-Leaf.kind p.0 p.1) c.in-Ok.ensures.ok

pub returns-in-Err-clause-refused : goal.returns-in-Err-clause-refused
returns-in-Err-clause-refused g c =
    let v = abstract c.args.value.now in
    let p = c.in-Leaf.ensures in
    leaf_not_ran v c.in-Leaf.head c.in-Leaf.kind (itself c.args.code.now c.args.id.index v c.in-Leaf.head c.in-Leaf.kind p.0 p.1) c.in-Err.ensures.not_of_type

pub whole_in_row-requires : goal.whole_in_row-requires
whole_in_row-requires g c = λ k. (search rules, c.in-Leaf.ensures.1)
