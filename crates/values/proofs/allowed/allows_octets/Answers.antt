use Rattle.asn_base.specs.Abstract.{abstract}
use Rattle.trees.specs.Types.{an_octet_string}
use Rattle.type_table.specs.Table.{simple}
use Rattle.values.proofs.Judgings.{decided, judge_octets}
use Rattle.values.proofs.allowed.allows_octets.Goals as goal

pub returns-in-Some : goal.returns-in-Some
returns-in-Some c = λ is u.
    let p = c.args.bounded.now.program in
    let i = c.args.ty.index in
    judge_octets p i (abstract c.args.value.now) _ _ c.in-Some.ensures
    (decided p i (simple an_octet_string) _ _ is c.allows_size.ensures) is u
