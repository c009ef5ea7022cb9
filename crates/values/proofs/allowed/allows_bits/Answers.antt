use Rattle.std.proofs.Common.{[], subst}
use Rattle.std.specs.Prelude.{pos, ◌↔◌, IsTrue}
use Rattle.asn_base.specs.Abstract.{abstract}
use Rattle.trees.specs.Types.{a_bit_string}
use Rattle.type_table.specs.Table.{simple}
use Rattle.values.specs.Allowing.{Allows}
use Rattle.values.proofs.Judgings.{decided, judge_bits}
use Rattle.values.proofs.allowed.allows_bits.Goals as goal

pub returns-in-Some : goal.returns-in-Some
returns-in-Some c = λ is u.
    let p = c.args.bounded.now.program in
    let i = c.args.ty.index in
    judge_bits p i (abstract c.args.value.now) _ _ c.in-Some.ensures
    (subst (λ n. IsTrue c.allows_count.result ↔ Allows p i (pos n)) c.bit_count.ensures.count
    (decided p i (simple (a_bit_string [])) _ _ is c.allows_count.ensures)) is u
